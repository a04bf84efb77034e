-- `value::lengths::padded_len` meets its contract: past the first rungs it answers the width of the record's type. Assumes nothing.
use mathlib.Core.Path.{ap, ◌∙◌}
use mathlib.Core.List.{[], ◌∷◌}
use Rattle.meaning.specs.Types.{bits}
use Rattle.meaning.specs.Tables.{Table}
use Rattle.meaning.specs.Ladder.{ladder, accepted, record_of, type_at}
use Rattle.meaning.specs.RecordCalls.{handed}
use Rattle.answers.proofs.Exits.{handed_on}
use Rattle.checked.proofs.Handed.{checked_held, refused_first, then_own}
use Rattle.value.proofs.lengths.padded_len.Goals as goal

pub returns-in_err-checked : goal.returns-in_err-checked
returns-in_err-checked c =
    let a = c.args in
    let r = record_of a.bytes.now a.offset a.node in
    handed_on (λ n. n) _ _ c.from_residual.ensures.1 _
    (refused_first (handed a.table.now (r ∷ []) []) [] (bits (type_at a.table.now a.node)) _ _ c.in_err-checked.ensures.answer)

pub width_of-requires : goal.width_of-requires
width_of-requires c =
    let a = c.args in
    let r = record_of a.bytes.now a.offset a.node in
    (checked_held a.table.now _ c.in_ok-checked.ensures.same (r ∷ []) [] c.in_ok-checked.ensures.answer).0.0.named

pub returns : goal.returns
unfolding ladder
returns c =
    let a = c.args in
    let r = record_of a.bytes.now a.offset a.node in
    then_own (handed a.table.now (r ∷ []) []) [] (bits (type_at a.table.now a.node)) c.in_ok-checked.ensures.answer _
    (ap accepted (c.width_of.ensures ∙ ap (λ (t : Table). bits (type_at t a.node)) c.in_ok-checked.ensures.same))
