-- `codec::lengths::compact_len` meets its contract: past the first rungs it answers how many bits the walk has counted. Assumes nothing.
use mathlib.Core.Path.{refl, ap, ◌∙◌}
use mathlib.Core.List.{[], ◌∷◌}
use lib.ListN.{length}
use Rattle.meaning.specs.Tables.{Table}
use Rattle.meaning.specs.Ladder.{accepted, ladder, record_of}
use Rattle.meaning.specs.RecordCalls.{handed}
use Rattle.meaning.specs.CodecCalls.{compact_bits}
use Rattle.answers.proofs.Exits.{handed_on}
use Rattle.checked.proofs.Handed.{refused_first, then_own}
use Rattle.checked.proofs.Lent.{starts, lent_run}
use Rattle.codec.proofs.Lent.{record_compact}
use Rattle.codec.proofs.Passing.{held}
use Rattle.codec.proofs.lengths.compact_len.Goals as goal

pub returns-in_err-checked : goal.returns-in_err-checked
returns-in_err-checked c =
    let a = c.args in
    let r = record_of a.bytes.now a.offset a.node in
    handed_on (λ n. n) _ _ c.from_residual.ensures.1 _
    (refused_first (handed a.table.now (r ∷ []) []) [] (length (compact_bits a.table.now r)) _ _ c.in_err-checked.ensures.answer)

pub slice_bounds-count_compact-count : goal.slice_bounds-count_compact-count
slice_bounds-count_compact-count c =
    let r = record_of c.args.bytes.now c.args.offset c.args.node in
    starts _ r (held c.in_ok-checked.ensures.same r c.in_ok-checked.ensures.answer)

pub slice_bounds-count_compact-start : goal.slice_bounds-count_compact-start
slice_bounds-count_compact-start c = slice_bounds-count_compact-count c

pub count_compact-requires : goal.count_compact-requires
count_compact-requires c =
    let r = record_of c.args.bytes.now c.args.offset c.args.node in
    let w = held c.in_ok-checked.ensures.same r c.in_ok-checked.ensures.answer in
    record { named = w.named; run = lent_run _ r w _ refl }

pub returns : goal.returns
unfolding ladder
returns c =
    let a = c.args in
    let r = record_of a.bytes.now a.offset a.node in
    let w = held c.in_ok-checked.ensures.same r c.in_ok-checked.ensures.answer in
    then_own (handed a.table.now (r ∷ []) []) [] (length (compact_bits a.table.now r)) c.in_ok-checked.ensures.answer _
    (ap accepted
    (c.count_compact.ensures
    ∙ ap length (record_compact _ r w)
    ∙ ap (λ (t : Table). length (compact_bits t r)) c.in_ok-checked.ensures.same))
