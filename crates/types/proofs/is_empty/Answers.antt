-- `types::is_empty` meets its contract: the width is among the facts. Assumes nothing.
use mathlib.Core.List.{[]}
use lib.Dec.{eqb}
use Rattle.meaning.specs.Types.{width}
use Rattle.meaning.specs.Ladder.{type_at}
use Rattle.answers.proofs.Exits.{handed_on}
use Rattle.checked.proofs.Told.{told_stop}
use Rattle.types.proofs.Types.{empty_told}
use Rattle.types.proofs.is_empty.Goals as goal

pub returns-in_err-facts : goal.returns-in_err-facts
returns-in_err-facts c =
    let a = c.args in
    handed_on (λ b. b) _ _ c.from_residual.ensures.1 _
    (told_stop a.table.now a.node [] (eqb (width (type_at a.table.now a.node)) 0) _ _ c.in_err-facts.ensures)

pub returns : goal.returns
returns c =
    empty_told c.args.table.now c.args.node c.in_ok-facts.ensures
