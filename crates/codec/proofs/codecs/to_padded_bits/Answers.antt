-- `codec::codecs::to_padded_bits` meets its contract. Assumes nothing.
use mathlib.Core.Path.{sym, ap, ◌∙◌}
use mathlib.Core.Bool.{Bool}
use mathlib.Core.List.{List}
use native.Mathlib.Omega.{arith}
use Rattle.meaning.specs.Tables.{Table}
use Rattle.meaning.specs.Bits.{written}
use Rattle.meaning.specs.Ladder.{record_of, record_bits}
use Rattle.meaning.specs.CodecCalls.{write_rungs}
use Rattle.answers.proofs.Exits.{handed_on}
use Rattle.checked.proofs.Made.{stopped}
use Rattle.checked.proofs.Lent.{starts, lent_run, lent_bits, own_length}
use Rattle.codec.proofs.Passing.{held, writes_short, writes_done}
use Rattle.codec.proofs.codecs.to_padded_bits.Goals as goal

pub returns-in_err-checked : goal.returns-in_err-checked
returns-in_err-checked c =
    let a = c.args in
    let r = record_of a.bytes.now a.offset a.node in
    let both = stopped (write_rungs a.table.now r) (record_bits a.table.now r) a.out.now _ _ (sym c.in_err-checked.ensures.answer) in
    record { result_value = handed_on (λ n. n) _ _ c.from_residual.ensures.1 _ both.0; out_after = both.1 }

pub width_of-width-requires : goal.width_of-width-requires
width_of-width-requires c =
    let r = record_of c.args.bytes.now c.args.offset c.args.node in
    (held c.in_ok-checked.ensures.same r c.in_ok-checked.ensures.answer).named

pub bytes_for-requires : goal.bytes_for-requires
bytes_for-requires c =
    let r = record_of c.args.bytes.now c.args.offset c.args.node in
    let w = held c.in_ok-checked.ensures.same r c.in_ok-checked.ensures.answer in
    omega arith

pub returns-then-out-bytes_for : goal.returns-then-out-bytes_for
returns-then-out-bytes_for c =
    let r = record_of c.args.bytes.now c.args.offset c.args.node in
    let ok = c.in_ok-checked.ensures in
    let counted = c.width_of-width.ensures ∙ sym (own_length _ r (held ok.same r ok.answer)) in
    let both = writes_short ok.same r ok.answer (λ (t : Table). record_bits t r) c.args.out.now counted (omega arith) in
    record { result_value = both.0; out_after = both.1 }

pub slice_bounds-write_run-count : goal.slice_bounds-write_run-count
slice_bounds-write_run-count c =
    let r = record_of c.args.bytes.now c.args.offset c.args.node in
    starts _ r (held c.in_ok-checked.ensures.same r c.in_ok-checked.ensures.answer)

pub slice_bounds-write_run-start : goal.slice_bounds-write_run-start
slice_bounds-write_run-start c = slice_bounds-write_run-count c

pub write_run-requires-clause-run_2 : goal.write_run-requires-clause-run_2
write_run-requires-clause-run_2 c =
    let r = record_of c.args.bytes.now c.args.offset c.args.node in
    lent_run _ r (held c.in_ok-checked.ensures.same r c.in_ok-checked.ensures.answer) _ c.width_of-width.ensures

pub returns : goal.returns
returns c =
    let r = record_of c.args.bytes.now c.args.offset c.args.node in
    let ok = c.in_ok-checked.ensures in
    let out = c.args.out.now in
    let w = held ok.same r ok.answer in
    let counted = c.width_of-width.ensures ∙ sym (own_length _ r w) in
    let both =
    writes_done ok.same r ok.answer (λ (t : Table). record_bits t r) out counted (omega arith)
    (c.write_run.ensures ∙ ap (λ (v : List Bool). written v out) (lent_bits _ r w _ c.width_of-width.ensures)) in
    record { result_value = both.0; out_after = both.1 }
