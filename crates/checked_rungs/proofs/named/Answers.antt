-- `checked_rungs::named` meets its contract: the table first, then the node. Assumes nothing.
use mathlib.Core.Path.{ap, ◌∙◌}
use Rattle.meaning.specs.Tables.{Table}
use Rattle.answers.proofs.Exits.{handed_on}
use Rattle.checked_limits.specs.Limits.{limit_answer, node_limit}
use Rattle.checked_rungs.proofs.Asked.{stop_named, named_asked}
use Rattle.checked_rungs.proofs.named.Goals as goal

pub returns-in_err-checked-clause-answer : goal.returns-in_err-checked-clause-answer
returns-in_err-checked-clause-answer c =
    handed_on (λ x. tt {0}) _ _ c.from_residual.ensures.1 _ (stop_named c.args.table.now c.args.node _ _ c.in_err-checked.ensures.answer)

pub returns-in_err-node_limit-clause-answer : goal.returns-in_err-node_limit-clause-answer
returns-in_err-node_limit-clause-answer c =
    handed_on (λ x. tt {0}) _ _ c.from_residual-in_err-node_limit.ensures.1 _
    (named_asked c.args.table.now c.args.node c.in_ok-checked.ensures.answer _
    (c.in_err-node_limit.ensures ∙ ap (λ (t : Table). limit_answer (node_limit t c.args.node)) c.in_ok-checked.ensures.same))

pub returns-clause-answer : goal.returns-clause-answer
returns-clause-answer c =
    named_asked c.args.table.now c.args.node c.in_ok-checked.ensures.answer _
    (c.in_ok-node_limit.ensures ∙ ap (λ (t : Table). limit_answer (node_limit t c.args.node)) c.in_ok-checked.ensures.same)
