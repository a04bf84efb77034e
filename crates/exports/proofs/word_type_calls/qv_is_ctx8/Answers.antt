-- `exports::word_type_calls::qv_is_ctx8` meets its contract: what crosses is what the call says, and its place is near. Assumes nothing.
use mathlib.Core.Path.{ap, ◌∙◌}
use Rattle.meaning.specs.Tables.{Table, digit}
use Rattle.meaning.specs.TypeCalls.{is_ctx8_call}
use Rattle.exports.proofs.Nears.{is_ctx8_near}
use Rattle.exports_answers.proofs.Crossing.{crossing, code_of, stored_of}
use Rattle.exports.proofs.word_type_calls.qv_is_ctx8.Goals as goal

pub tell_number-requires : goal.tell_number-requires
tell_number-requires c =
    search (crossing, is_ctx8_near)

pub returns : goal.returns
returns c =
    let e = c.is_ctx8.ensures ∙ ap (λ (t : Table). is_ctx8_call t c.args.node) c.new-table.ensures in
    record {
      value = code_of (λ b. b) _ _ e _ c.tell_number.ensures.value;
      answer_after = stored_of (λ b. b) _ _ e digit _ _ c.tell_number.ensures.value_after;
    }
