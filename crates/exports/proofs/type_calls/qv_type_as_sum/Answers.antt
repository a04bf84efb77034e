-- `exports::type_calls::qv_type_as_sum` meets its contract: what crosses is what the call says, and its place is near. Assumes nothing.
use native.Mathlib.Omega.{arith}
use mathlib.Core.Path.{ap, ◌∙◌}
use Rattle.answers.specs.Verdicts.{sides}
use Rattle.exports_answers.specs.Codes.{sides_list}
use Rattle.meaning.specs.Tables.{Table}
use Rattle.meaning.specs.TypeCalls.{type_as_sum_call}
use Rattle.exports.proofs.Nears.{type_as_sum_near}
use Rattle.exports_answers.proofs.Crossing.{crossing, roomy_of, all_of}
use Rattle.exports.proofs.type_calls.qv_type_as_sum.Goals as goal

pub tell_numbers-requires : goal.tell_numbers-requires
tell_numbers-requires c =
    record { near = search (crossing, type_as_sum_near); few = omega arith }

pub returns : goal.returns
returns c =
    let e = c.as_sum.ensures ∙ ap (λ (t : Table). type_as_sum_call t c.args.node) c.new-table.ensures in
    record {
      value = roomy_of sides _ _ e sides_list _ _ c.tell_numbers.ensures.value;
      sides_after = all_of sides _ _ e sides_list _ _ c.tell_numbers.ensures.lent_after;
    }
