-- `value_making::join` meets its contract: the shape and the room are tested one after the other, and the record is written. Assumes nothing.
use native.Mathlib.Omega.{arith}
use Rattle.meaning.specs.Ladder.{record_of}
use Rattle.value_making.proofs.Payloads.{join_misfit, join_short, join_wider, join_rest, join_done}
use Rattle.value_making.proofs.join.Goals as goal

pub returns-then-not-joins : goal.returns-then-not-joins
returns-then-not-joins c =
    let a = c.args in
    let p = record_of a.a_bytes.now a.a_offset a.a_node in
    let q = record_of a.b_bytes.now a.b_offset a.b_node in
    let both = join_misfit a.table.now p q c.requires.held c.requires.held_2 a.res a.out.now c.joins.result c.joins.ensures c.if-not-joins.true in
    record { result_value = both.0; out_after = both.1 }

pub returns-then-out-bytes_for : goal.returns-then-out-bytes_for
returns-then-out-bytes_for c =
    let a = c.args in
    let p = record_of a.a_bytes.now a.a_offset a.a_node in
    let q = record_of a.b_bytes.now a.b_offset a.b_node in
    let both = join_short a.table.now p q c.requires.held c.requires.held_2 a.res a.out.now c.joins.result c.joins.ensures c.if-not-joins.false
    c.width_of-width.result
    c.width_of-width.ensures
    (omega (arith, c.bytes_for.ensures)) in
    record { result_value = both.0; out_after = both.1 }

pub write_product-requires-clause-m_le_whole : goal.write_product-requires-clause-m_le_whole
write_product-requires-clause-m_le_whole c =
    let a = c.args in
    let p = record_of a.a_bytes.now a.a_offset a.a_node in
    let q = record_of a.b_bytes.now a.b_offset a.b_node in
    join_wider a.table.now p q c.requires.held c.requires.held_2 a.res a.out.now c.joins.result c.joins.ensures c.if-not-joins.false
    c.width_of-width.result
    c.width_of-width.ensures
    c.width_of-given.result
    c.width_of-given.ensures

pub write_product-requires-clause-run_3 : goal.write_product-requires-clause-run_3
write_product-requires-clause-run_3 c =
    let a = c.args in
    let p = record_of a.a_bytes.now a.a_offset a.a_node in
    let q = record_of a.b_bytes.now a.b_offset a.b_node in
    join_rest a.table.now p q c.requires.held c.requires.held_2 a.res a.out.now c.joins.result c.joins.ensures c.if-not-joins.false
    c.width_of-width.result
    c.width_of-width.ensures
    c.width_of-given.result
    c.width_of-given.ensures

pub returns : goal.returns
returns c =
    let a = c.args in
    let p = record_of a.a_bytes.now a.a_offset a.a_node in
    let q = record_of a.b_bytes.now a.b_offset a.b_node in
    let both = join_done a.table.now p q c.requires.held c.requires.held_2 a.res a.out.now c.joins.result c.joins.ensures c.if-not-joins.false
    c.width_of-width.result
    c.width_of-width.ensures
    c.width_of-given.result
    c.width_of-given.ensures
    (omega (arith, c.bytes_for.ensures))
    c.write_product.new.out
    c.write_product.ensures in
    record { result_value = both.0; out_after = both.1 }
