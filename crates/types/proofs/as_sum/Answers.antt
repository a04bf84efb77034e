-- `types::as_sum` meets its contract: a sum is a node of its kind. Assumes nothing.
use mathlib.Core.Path.{◌∙◌}
use Rattle.meaning.specs.Types.{is_sum}
use Rattle.meaning.specs.Ladder.{type_at, shaped}
use Rattle.meaning.specs.TypeCalls.{sides_at}
use Rattle.answers.specs.Verdicts.{sides}
use Rattle.answers.proofs.Exits.{handed_on}
use Rattle.checked.proofs.Told.{told_stop}
use Rattle.types.proofs.Types.{sum_told}
use Rattle.types.proofs.as_sum.Goals as goal

pub returns-in_err-facts : goal.returns-in_err-facts
returns-in_err-facts c =
    let a = c.args in
    let t = a.table.now in
    handed_on sides _ _ c.from_residual.ensures.1 _
    (told_stop t a.node (shaped (is_sum (type_at t a.node))) (sides_at t a.node) _ _ c.in_err-facts.ensures)

pub returns : goal.returns
returns c =
    c.sides_if.ensures ∙ sum_told c.args.table.now c.args.node c.in_ok-facts.ensures
