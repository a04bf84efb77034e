-- `types::same_type` meets its contract: past the table and the nodes, the types are compared. Assumes nothing.
use mathlib.Core.Path.{ap, ◌∙◌}
use mathlib.Core.List.{[], ◌∷◌}
use Rattle.meaning.specs.Types.{same}
use Rattle.meaning.specs.Tables.{Table}
use Rattle.meaning.specs.Ladder.{type_at}
use Rattle.answers.proofs.Exits.{handed_on}
use Rattle.checked.proofs.Handed.{checked_present}
use Rattle.checked_present.proofs.Asking.{asks_stop, answered}
use Rattle.types.proofs.same_type.Goals as goal

pub returns-in_err-both : goal.returns-in_err-both
returns-in_err-both c =
    let a = c.args in
    let t = a.table.now in
    handed_on (λ b. b) _ _ c.from_residual.ensures.1 _
    (asks_stop t (a.a ∷ a.b ∷ []) [] (same (type_at t a.a) (type_at t a.b)) _ _ c.in_err-both.ensures.answer)

pub same_type-requires-clause-a_lt_count : goal.same_type-requires-clause-a_lt_count
same_type-requires-clause-a_lt_count c =
    let a = c.args in
    (checked_present a.table.now _ c.in_ok-both.ensures.same (a.a ∷ a.b ∷ []) c.in_ok-both.ensures.answer).0.here

pub same_type-requires-clause-b_lt_count : goal.same_type-requires-clause-b_lt_count
same_type-requires-clause-b_lt_count c =
    let a = c.args in
    (checked_present a.table.now _ c.in_ok-both.ensures.same (a.a ∷ a.b ∷ []) c.in_ok-both.ensures.answer).1.0.here

pub returns : goal.returns
returns c =
    let a = c.args in
    let t = a.table.now in
    answered t (a.a ∷ a.b ∷ []) (same (type_at t a.a) (type_at t a.b)) _ c.in_ok-both.ensures.answer
    (c.same_type.ensures ∙ ap (λ (u : Table). same (type_at u a.a) (type_at u a.b)) c.in_ok-both.ensures.same)
