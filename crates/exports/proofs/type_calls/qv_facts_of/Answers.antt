-- `exports::type_calls::qv_facts_of` meets its contract: what crosses is what the call says, and its place is near. Assumes nothing.
use native.Mathlib.Omega.{arith}
use mathlib.Core.Path.{ap, ◌∙◌}
use Rattle.answers.specs.Verdicts.{node_facts}
use Rattle.exports_answers.specs.Codes.{facts_list}
use Rattle.meaning.specs.Tables.{Table}
use Rattle.meaning.specs.TypeCalls.{facts_of_call}
use Rattle.exports.proofs.Nears.{facts_of_near}
use Rattle.exports_answers.proofs.Crossing.{crossing, roomy_of, all_of}
use Rattle.exports.proofs.type_calls.qv_facts_of.Goals as goal

pub tell_numbers-requires : goal.tell_numbers-requires
tell_numbers-requires c =
    record { near = search (crossing, facts_of_near); few = omega arith }

pub returns : goal.returns
returns c =
    let e = c.facts_of.ensures ∙ ap (λ (t : Table). facts_of_call t c.args.node) c.new-table.ensures in
    record {
      value = roomy_of node_facts _ _ e facts_list _ _ c.tell_numbers.ensures.value;
      facts_after = all_of node_facts _ _ e facts_list _ _ c.tell_numbers.ensures.lent_after;
    }
