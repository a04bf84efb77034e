-- `exports::views::qv_as_left` meets its contract: what crosses is what the call says, and its place is near. Assumes nothing.
use native.Mathlib.Omega.{arith}
use mathlib.Core.Path.{ap, ◌∙◌}
use Rattle.answers.specs.Verdicts.{spot}
use Rattle.exports_answers.specs.Codes.{spot_list}
use Rattle.meaning.specs.Ladder.{record_of}
use Rattle.meaning.specs.RecordCalls.{as_left_call}
use Rattle.meaning.specs.Tables.{Table}
use Rattle.exports.proofs.Nears.{as_left_near}
use Rattle.exports_answers.proofs.Crossing.{crossing, roomy_of, all_of}
use Rattle.exports.proofs.views.qv_as_left.Goals as goal

pub tell_numbers-requires : goal.tell_numbers-requires
tell_numbers-requires c =
    record { near = search (crossing, as_left_near); few = omega arith }

pub returns : goal.returns
returns c =
    let e = c.as_left.ensures ∙ ap (λ (t : Table). as_left_call t (record_of c.args.bytes.now c.args.offset c.args.node)) c.new-table.ensures in
    record {
      value = roomy_of spot _ _ e spot_list _ _ c.tell_numbers.ensures.value;
      view_after = all_of spot _ _ e spot_list _ _ c.tell_numbers.ensures.lent_after;
    }
