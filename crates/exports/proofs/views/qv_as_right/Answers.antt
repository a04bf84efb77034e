-- `exports::views::qv_as_right` meets its contract: what crosses is what the call says, and its place is near. Assumes nothing.
use native.Mathlib.Omega.{arith}
use mathlib.Core.Path.{ap, ◌∙◌}
use Rattle.answers.specs.Verdicts.{spot}
use Rattle.exports_answers.specs.Codes.{spot_list}
use Rattle.meaning.specs.Ladder.{record_of}
use Rattle.meaning.specs.RecordCalls.{as_right_call}
use Rattle.meaning.specs.Tables.{Table}
use Rattle.exports.proofs.Nears.{as_right_near}
use Rattle.exports_answers.proofs.Crossing.{crossing, roomy_of, all_of}
use Rattle.exports.proofs.views.qv_as_right.Goals as goal

pub tell_numbers-requires : goal.tell_numbers-requires
tell_numbers-requires c =
    record { near = search (crossing, as_right_near); few = omega arith }

pub returns : goal.returns
returns c =
    let e = c.as_right.ensures ∙ ap (λ (t : Table). as_right_call t (record_of c.args.bytes.now c.args.offset c.args.node)) c.new-table.ensures in
    record {
      value = roomy_of spot _ _ e spot_list _ _ c.tell_numbers.ensures.value;
      view_after = all_of spot _ _ e spot_list _ _ c.tell_numbers.ensures.lent_after;
    }
