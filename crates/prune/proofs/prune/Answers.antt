-- `prune::prune` meets its contract: rungs 1 to 5 by `checked_rungs`, 7 by the walk that judges, 9 by the width; then the walk that writes, and
-- the rest of the last byte. Assumes nothing.
use native.Mathlib.Omega.{arith}
use Rattle.answers.proofs.Exits.{handed_on}
use Rattle.meaning.specs.Ladder.{record_of}
use Rattle.bits.proofs.OfBytes.{are_bytes}
use Rattle.checked.proofs.Lent.{starts}
use Rattle.prune.proofs.Lent.{refused_early, asked, lends, unfit, cramped, written_all}
use Rattle.prune.proofs.prune.Goals as goal

pub returns-in_err-checked : goal.returns-in_err-checked
returns-in_err-checked c =
    let a = c.args in
    let r = record_of a.bytes.now a.offset a.node in
    let both = refused_early a.table.now r a.target a.out.now _ _ c.in_err-checked.ensures.answer in
    record { result_value = handed_on (λ n. n) _ _ c.from_residual.ensures.1 _ both.0; out_after = both.1 }

pub slice_bounds-src-count : goal.slice_bounds-src-count
slice_bounds-src-count c =
    let a = c.args in
    let r = record_of a.bytes.now a.offset a.node in
    let ok = c.in_ok-checked.ensures in
    starts _ r (asked a.table.now r a.target a.out.now _ ok.same ok.answer).0

pub slice_bounds-src-start : goal.slice_bounds-src-start
slice_bounds-src-start c =
    let a = c.args in
    let r = record_of a.bytes.now a.offset a.node in
    let ok = c.in_ok-checked.ensures in
    starts _ r (asked a.table.now r a.target a.out.now _ ok.same ok.answer).0

pub fits-requires : goal.fits-requires
fits-requires c =
    let a = c.args in
    let r = record_of a.bytes.now a.offset a.node in
    let ok = c.in_ok-checked.ensures in
    let k = asked a.table.now r a.target a.out.now _ ok.same ok.answer in
    record { named = k.0.named; named_2 = k.1; run = lends a.table.now r a.target a.out.now _ ok.same ok.answer }

pub returns-then-not-fits : goal.returns-then-not-fits
returns-then-not-fits c =
    let a = c.args in
    let r = record_of a.bytes.now a.offset a.node in
    let ok = c.in_ok-checked.ensures in
    let both = unfit a.table.now r a.target a.out.now _ ok.same ok.answer _ c.fits.ensures c.if-not-fits.true in
    record { result_value = both.0; out_after = both.1 }

pub width_of-width-requires : goal.width_of-width-requires
width_of-width-requires c =
    let a = c.args in
    let r = record_of a.bytes.now a.offset a.node in
    let ok = c.in_ok-checked.ensures in
    (asked a.table.now r a.target a.out.now _ ok.same ok.answer).1

pub bytes_for-requires : goal.bytes_for-requires
bytes_for-requires c =
    let a = c.args in
    let r = record_of a.bytes.now a.offset a.node in
    let ok = c.in_ok-checked.ensures in
    omega (arith, c.width_of-width.ensures, (asked a.table.now r a.target a.out.now _ ok.same ok.answer).1.narrow)

pub returns-then-out-bytes_for : goal.returns-then-out-bytes_for
returns-then-out-bytes_for c =
    let a = c.args in
    let r = record_of a.bytes.now a.offset a.node in
    let ok = c.in_ok-checked.ensures in
    let both = cramped a.table.now r a.target a.out.now _ ok.same ok.answer _ c.fits.ensures c.if-not-fits.false _ c.width_of-width.ensures (omega arith) in
    record { result_value = both.0; out_after = both.1 }

pub write-requires-clause-named : goal.write-requires-clause-named
write-requires-clause-named c =
    let a = c.args in
    let r = record_of a.bytes.now a.offset a.node in
    let ok = c.in_ok-checked.ensures in
    (asked a.table.now r a.target a.out.now _ ok.same ok.answer).0.named

pub write-requires-clause-named_2 : goal.write-requires-clause-named_2
write-requires-clause-named_2 c =
    let a = c.args in
    let r = record_of a.bytes.now a.offset a.node in
    let ok = c.in_ok-checked.ensures in
    (asked a.table.now r a.target a.out.now _ ok.same ok.answer).1

pub write-requires-clause-run : goal.write-requires-clause-run
write-requires-clause-run c =
    let a = c.args in
    let r = record_of a.bytes.now a.offset a.node in
    let ok = c.in_ok-checked.ensures in
    lends a.table.now r a.target a.out.now _ ok.same ok.answer

pub returns : goal.returns
returns c =
    let a = c.args in
    let r = record_of a.bytes.now a.offset a.node in
    let ok = c.in_ok-checked.ensures in
    let both =
    written_all a.table.now r a.target a.out.now _ ok.same ok.answer _ c.fits.ensures c.if-not-fits.false _ c.width_of-width.ensures (omega arith) _ _
    (are_bytes _ c.slice_known-1.given) (are_bytes _ c.type_inv.out) c.write.ensures c.finish.ensures in
    record { result_value = both.0; out_after = both.1 }
