-- `codec::codecs::to_compact_bits` meets its contract. Assumes nothing.
use mathlib.Core.Path.{refl, sym, ap, ◌∙◌}
use mathlib.Core.Bool.{Bool}
use mathlib.Core.List.{List}
use native.Mathlib.Omega.{arith}
use borrow.Author.Tests.{leb-true, leb-false}
use lib.ListN.{length, drop}
use Prim.Native.Nat.{◌%◌}
use Rattle.meaning.specs.Tables.{Table}
use Rattle.meaning.specs.Bits.{bits_of, written}
use Rattle.meaning.specs.Ladder.{record_of, type_of}
use Rattle.meaning.specs.CodecCalls.{write_rungs, compact_bits}
use Rattle.meaning.proofs.Records.{compact_most}
use Rattle.answers.proofs.Exits.{handed_on}
use Rattle.checked.proofs.Made.{stopped}
use Rattle.checked.proofs.Lent.{lent, starts, lent_run}
use Rattle.codec.proofs.Lent.{record_compact}
use Rattle.codec.proofs.Passing.{held, writes_short, writes_done}
use Rattle.codec.proofs.codecs.to_compact_bits.Goals as goal

pub returns-in_err-checked : goal.returns-in_err-checked
returns-in_err-checked c =
    let a = c.args in
    let r = record_of a.bytes.now a.offset a.node in
    let both = stopped (write_rungs a.table.now r) (compact_bits a.table.now r) a.out.now _ _ (sym c.in_err-checked.ensures.answer) in
    record { result_value = handed_on (λ n. n) _ _ c.from_residual.ensures.1 _ both.0; out_after = both.1 }

pub slice_bounds-src-count : goal.slice_bounds-src-count
slice_bounds-src-count c =
    let r = record_of c.args.bytes.now c.args.offset c.args.node in
    starts _ r (held c.in_ok-checked.ensures.same r c.in_ok-checked.ensures.answer)

pub slice_bounds-src-start : goal.slice_bounds-src-start
slice_bounds-src-start c = slice_bounds-src-count c

pub compact_fits-requires : goal.compact_fits-requires
compact_fits-requires c =
    let r = record_of c.args.bytes.now c.args.offset c.args.node in
    let w = held c.in_ok-checked.ensures.same r c.in_ok-checked.ensures.answer in
    record { named = w.named; run = lent_run _ r w _ refl }

pub returns-then-not-compact_fits : goal.returns-then-not-compact_fits
returns-then-not-compact_fits c =
    let r = record_of c.args.bytes.now c.args.offset c.args.node in
    let ok = c.in_ok-checked.ensures in
    let counted = ap length (record_compact _ r (held ok.same r ok.answer)) in
    let both =
    writes_short ok.same r ok.answer (λ (t : Table). compact_bits t r) c.args.out.now counted
    (leb-false _ _ (sym c.compact_fits.ensures ∙ c.if-not-compact_fits.true)) in
    record { result_value = both.0; out_after = both.1 }

pub write_record-requires : goal.write_record-requires
write_record-requires c =
    let r = record_of c.args.bytes.now c.args.offset c.args.node in
    let w = held c.in_ok-checked.ensures.same r c.in_ok-checked.ensures.answer in
    let most = compact_most (type_of c.in_ok-checked.checked r) (drop (r.offset % 8) (bits_of (lent r))) in
    let fits = leb-true _ _ (sym c.compact_fits.ensures ∙ c.if-not-compact_fits.false) in
    record {
      named = w.named;
      run = lent_run _ r w _ refl;
      run_2 = record { inside = omega arith; counted = omega arith };
    }

pub returns : goal.returns
returns c =
    let r = record_of c.args.bytes.now c.args.offset c.args.node in
    let ok = c.in_ok-checked.ensures in
    let out = c.args.out.now in
    let same = record_compact _ r (held ok.same r ok.answer) in
    let fits = leb-true _ _ (sym c.compact_fits.ensures ∙ c.if-not-compact_fits.false) in
    let both =
    writes_done ok.same r ok.answer (λ (t : Table). compact_bits t r) out (c.write_record.ensures.value ∙ ap length same) (omega arith)
    (c.write_record.ensures.out_after ∙ ap (λ (v : List Bool). written v out) same) in
    record { result_value = both.0; out_after = both.1 }
