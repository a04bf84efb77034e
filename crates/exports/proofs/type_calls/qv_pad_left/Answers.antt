-- `exports::type_calls::qv_pad_left` meets its contract: what crosses is what the call says, and its place is near. Assumes nothing.
use mathlib.Core.Path.{ap, ◌∙◌}
use Rattle.meaning.specs.Tables.{Table}
use Rattle.meaning.specs.TypeCalls.{pad_left_call}
use Rattle.exports.proofs.Nears.{pad_left_near}
use Rattle.exports_answers.proofs.Crossing.{crossing, code_of, stored_of}
use Rattle.exports.proofs.type_calls.qv_pad_left.Goals as goal

pub tell_number-requires : goal.tell_number-requires
tell_number-requires c =
    search (crossing, pad_left_near)

pub returns : goal.returns
returns c =
    let e = c.pad_left.ensures ∙ ap (λ (t : Table). pad_left_call t c.args.a c.args.b) c.new-table.ensures in
    record {
      value = code_of (λ n. n) _ _ e _ c.tell_number.ensures.value;
      padding_after = stored_of (λ n. n) _ _ e (λ n. n) _ _ c.tell_number.ensures.value_after;
    }
