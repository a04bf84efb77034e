-- `checked_present::two` meets its contract: the table and the first node, then the second. Assumes nothing.
use native.Mathlib.Omega.{arith}
use mathlib.Core.Path.{ap}
use Rattle.answers.proofs.Exits.{handed_on}
use Rattle.checked_present.proofs.Asking.{first_stop, second_missing, both_there}
use Rattle.checked_present.proofs.two.Goals as goal

pub returns-in_err-checked-clause-answer : goal.returns-in_err-checked-clause-answer
returns-in_err-checked-clause-answer c =
    handed_on (λ x. tt {0}) _ _ c.from_residual.ensures.1 _ (first_stop c.args.table.now c.args.a c.args.b _ _ c.in_err-checked.ensures.answer)

pub returns-then-table-b-clause-answer : goal.returns-then-table-b-clause-answer
returns-then-table-b-clause-answer c =
    second_missing c.args.table.now c.args.a c.args.b c.in_ok-checked.ensures.answer
    (omega (arith, ap (λ t. t.count) c.table.view_is, c.if-table-b.true))

pub returns-clause-answer : goal.returns-clause-answer
returns-clause-answer c =
    both_there c.args.table.now c.args.a c.args.b c.in_ok-checked.ensures.answer
    (omega (arith, ap (λ t. t.count) c.table.view_is, c.if-table-b.false))
