-- `value_making::wrap` meets its contract: the shape and the room are tested one after the other, and the record is written. Assumes nothing.
use native.Mathlib.Omega.{arith}
use Rattle.meaning.specs.Ladder.{record_of}
use Rattle.value_making.proofs.Payloads.{wrap_misfit, wrap_short, wrap_narrower, wrap_done}
use Rattle.value_making.proofs.wrap.Goals as goal

pub returns-then-not-wraps : goal.returns-then-not-wraps
returns-then-not-wraps c =
    let a = c.args in
    let p = record_of a.bytes.now a.offset a.node in
    let both = wrap_misfit a.right a.table.now p c.requires.held a.res a.out.now c.wraps.result c.wraps.ensures c.if-not-wraps.true in
    record { result_value = both.0; out_after = both.1 }

pub returns-then-out-bytes_for : goal.returns-then-out-bytes_for
returns-then-out-bytes_for c =
    let a = c.args in
    let p = record_of a.bytes.now a.offset a.node in
    let both = wrap_short a.right a.table.now p c.requires.held a.res a.out.now c.wraps.result c.wraps.ensures c.if-not-wraps.false
    c.width_of-width.result
    c.width_of-width.ensures
    (omega (arith, c.bytes_for.ensures)) in
    record { result_value = both.0; out_after = both.1 }

pub write_sum-requires-clause-n_lt_w : goal.write_sum-requires-clause-n_lt_w
write_sum-requires-clause-n_lt_w c =
    let a = c.args in
    let p = record_of a.bytes.now a.offset a.node in
    wrap_narrower a.right a.table.now p c.requires.held a.res a.out.now c.wraps.result c.wraps.ensures c.if-not-wraps.false
    c.width_of-width.result
    c.width_of-width.ensures
    c.width_of-given.result
    c.width_of-given.ensures

pub returns : goal.returns
returns c =
    let a = c.args in
    let p = record_of a.bytes.now a.offset a.node in
    let both = wrap_done a.right a.table.now p c.requires.held a.res a.out.now c.wraps.result c.wraps.ensures c.if-not-wraps.false
    c.width_of-width.result
    c.width_of-width.ensures
    c.width_of-given.result
    c.width_of-given.ensures
    (omega (arith, c.bytes_for.ensures))
    c.write_sum.new.out
    c.write_sum.ensures in
    record { result_value = both.0; out_after = both.1 }
