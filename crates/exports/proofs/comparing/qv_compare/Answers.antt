-- `exports::comparing::qv_compare` meets its contract: what crosses is what the call says, and its place is near. Assumes nothing.
use mathlib.Core.Path.{ap, ◌∙◌}
use Rattle.answers.specs.Verdicts.{order}
use Rattle.exports_answers.specs.Codes.{rank}
use Rattle.meaning.specs.Ladder.{record_of}
use Rattle.meaning.specs.RecordCalls.{compare_call}
use Rattle.meaning.specs.Tables.{Table}
use Rattle.exports.proofs.Nears.{compare_near}
use Rattle.exports_answers.proofs.Crossing.{crossing, code_of, stored_of}
use Rattle.exports.proofs.comparing.qv_compare.Goals as goal

pub tell_number-requires : goal.tell_number-requires
tell_number-requires c =
    search (crossing, compare_near)

pub returns : goal.returns
returns c =
    let e = c.compare.ensures ∙ ap (λ (t : Table). compare_call t (record_of c.args.a_bytes.now c.args.a_offset c.args.a_node) (record_of c.args.b_bytes.now c.args.b_offset c.args.b_node)) c.new-table.ensures in
    record {
      value = code_of order _ _ e _ c.tell_number.ensures.value;
      order_after = stored_of order _ _ e rank _ _ c.tell_number.ensures.value_after;
    }
