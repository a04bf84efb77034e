-- `word_types::is_ctx8` meets its contract: the tree is compared. Assumes nothing.
use mathlib.Core.Path.{ap, ◌∙◌}
use mathlib.Core.List.{[], ◌∷◌}
use Rattle.meaning.specs.Types.{same}
use Rattle.meaning.specs.Tables.{Table}
use Rattle.meaning.specs.Words.{ctx8}
use Rattle.meaning.specs.Ladder.{type_at}
use Rattle.answers.proofs.Exits.{handed_on}
use Rattle.checked.proofs.Handed.{checked_present}
use Rattle.checked_present.proofs.Asking.{asks_stop}
use Rattle.word_types.proofs.Shaped.{ctx8_told}
use Rattle.word_types.proofs.is_ctx8.Goals as goal

pub returns-in_err-checked : goal.returns-in_err-checked
returns-in_err-checked c =
    let a = c.args in
    handed_on (λ b. b) _ _ c.from_residual.ensures.1 _
    (asks_stop a.table.now (a.node ∷ []) [] (same (type_at a.table.now a.node) ctx8) _ _ c.in_err-checked.ensures.answer)

pub is_ctx8-requires : goal.is_ctx8-requires
is_ctx8-requires c =
    (checked_present c.args.table.now _ c.in_ok-checked.ensures.same (c.args.node ∷ []) c.in_ok-checked.ensures.answer).0.here

pub returns : goal.returns
returns c =
    let a = c.args in
    ctx8_told a.table.now a.node c.in_ok-checked.ensures.answer _
    (c.is_ctx8.ensures ∙ ap (λ (t : Table). same (type_at t a.node) ctx8) c.in_ok-checked.ensures.same)
