-- `checked_rungs::record_to` meets its contract: the table first, then the record and the node; the least number decides. Assumes nothing.
use mathlib.Core.Path.{ap, ◌∙◌}
use mathlib.Core.List.{[], ◌∷◌}
use Rattle.meaning.specs.Tables.{Table}
use Rattle.meaning.specs.Ladder.{record_of}
use Rattle.answers.proofs.Exits.{handed_on}
use Rattle.checked_limits.specs.Limits.{limit_answer, node_limit, record_limit}
use Rattle.checked_rungs.proofs.Asked.{stop_handed, asked_to}
use Rattle.checked_rungs.proofs.record_to.Goals as goal

pub returns-in_err-checked-clause-answer : goal.returns-in_err-checked-clause-answer
returns-in_err-checked-clause-answer c =
    handed_on (λ x. tt {0}) _ _ c.from_residual.ensures.1 _ (stop_handed c.args.table.now (record_of c.args.bytes.now c.args.offset c.args.node ∷ []) (c.args.res ∷ []) _ _ c.in_err-checked.ensures.answer)

pub returns-in_err-earlier-clause-answer : goal.returns-in_err-earlier-clause-answer
returns-in_err-earlier-clause-answer c =
    handed_on (λ x. tt {0}) _ _ c.from_residual-in_err-earlier.ensures.1 _ (asked_to c.args.table.now (record_of c.args.bytes.now c.args.offset c.args.node) c.args.res c.in_ok-checked.ensures.answer _ _ _ c.in_err-earlier.ensures (c.record_limit-given.ensures ∙ ap (λ (t : Table). limit_answer (record_limit t (record_of c.args.bytes.now c.args.offset c.args.node))) c.in_ok-checked.ensures.same) (c.node_limit.ensures ∙ ap (λ (t : Table). limit_answer (node_limit t c.args.res)) c.in_ok-checked.ensures.same))

pub returns-clause-answer : goal.returns-clause-answer
returns-clause-answer c =
    (asked_to c.args.table.now (record_of c.args.bytes.now c.args.offset c.args.node) c.args.res c.in_ok-checked.ensures.answer _ _ _ c.in_ok-earlier.ensures (c.record_limit-given.ensures ∙ ap (λ (t : Table). limit_answer (record_limit t (record_of c.args.bytes.now c.args.offset c.args.node))) c.in_ok-checked.ensures.same) (c.node_limit.ensures ∙ ap (λ (t : Table). limit_answer (node_limit t c.args.res)) c.in_ok-checked.ensures.same))
