-- `types::facts_of` meets its contract: past the table and the node, the facts are read. Assumes nothing.
use mathlib.Core.Path.{ap, ◌∙◌}
use mathlib.Core.List.{[], ◌∷◌}
use Rattle.meaning.specs.Tables.{Table, facts_at}
use Rattle.answers.specs.Verdicts.{node_facts}
use Rattle.answers.proofs.Exits.{handed_on}
use Rattle.checked.proofs.Handed.{checked_present}
use Rattle.checked_present.proofs.Asking.{asks_stop, answered}
use Rattle.types.proofs.facts_of.Goals as goal

pub returns-in_err-checked : goal.returns-in_err-checked
returns-in_err-checked c =
    let a = c.args in
    handed_on node_facts _ _ c.from_residual.ensures.1 _
    (asks_stop a.table.now (a.node ∷ []) [] (facts_at a.table.now.columns a.node) _ _ c.in_err-checked.ensures.answer)

pub facts-requires : goal.facts-requires
facts-requires c =
    (checked_present c.args.table.now _ c.in_ok-checked.ensures.same (c.args.node ∷ []) c.in_ok-checked.ensures.answer).0.here

pub returns : goal.returns
returns c =
    let a = c.args in
    answered a.table.now (a.node ∷ []) (facts_at a.table.now.columns a.node) _ c.in_ok-checked.ensures.answer
    (c.facts.ensures ∙ ap (λ (t : Table). facts_at t.columns a.node) c.in_ok-checked.ensures.same)
