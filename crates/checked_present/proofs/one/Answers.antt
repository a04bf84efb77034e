-- `checked_present::one` meets its contract: the table first, then the node. Assumes nothing.
use native.Mathlib.Omega.{arith}
use mathlib.Core.Path.{ap}
use Rattle.answers.proofs.Exits.{handed_on}
use Rattle.checked_present.proofs.Asking.{not_sound, missing, there}
use Rattle.checked_present.proofs.one.Goals as goal

pub returns-in_err-checked-clause-answer : goal.returns-in_err-checked-clause-answer
returns-in_err-checked-clause-answer c =
    handed_on (λ x. tt {0}) _ _ c.from_residual.ensures.1 _ (not_sound c.args.table.now c.args.node _ _ c.in_err-checked.ensures.answer)

pub returns-then-table-node-clause-answer : goal.returns-then-table-node-clause-answer
returns-then-table-node-clause-answer c =
    missing c.args.table.now c.args.node c.in_ok-checked.ensures.answer (omega (arith, ap (λ t. t.count) c.table.view_is, c.if-table-node.true))

pub returns-clause-answer : goal.returns-clause-answer
returns-clause-answer c =
    there c.args.table.now c.args.node c.in_ok-checked.ensures.answer (omega (arith, ap (λ t. t.count) c.table.view_is, c.if-table-node.false))
