-- `exports::comparing::qv_equal` meets its contract: what crosses is what the call says, and its place is near. Assumes nothing.
use mathlib.Core.Path.{ap, ◌∙◌}
use Rattle.meaning.specs.Ladder.{record_of}
use Rattle.meaning.specs.RecordCalls.{equal_call}
use Rattle.meaning.specs.Tables.{Table, digit}
use Rattle.exports.proofs.Nears.{equal_near}
use Rattle.exports_answers.proofs.Crossing.{crossing, code_of, stored_of}
use Rattle.exports.proofs.comparing.qv_equal.Goals as goal

pub tell_number-requires : goal.tell_number-requires
tell_number-requires c =
    search (crossing, equal_near)

pub returns : goal.returns
returns c =
    let e = c.equal.ensures ∙ ap (λ (t : Table). equal_call t (record_of c.args.a_bytes.now c.args.a_offset c.args.a_node) (record_of c.args.b_bytes.now c.args.b_offset c.args.b_node)) c.new-table.ensures in
    record {
      value = code_of (λ b. b) _ _ e _ c.tell_number.ensures.value;
      answer_after = stored_of (λ b. b) _ _ e digit _ _ c.tell_number.ensures.value_after;
    }
