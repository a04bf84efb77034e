-- `exports::type_calls::qv_pad_right` meets its contract: what crosses is what the call says, and its place is near. Assumes nothing.
use mathlib.Core.Path.{ap, ◌∙◌}
use Rattle.meaning.specs.Tables.{Table}
use Rattle.meaning.specs.TypeCalls.{pad_right_call}
use Rattle.exports.proofs.Nears.{pad_right_near}
use Rattle.exports_answers.proofs.Crossing.{crossing, code_of, stored_of}
use Rattle.exports.proofs.type_calls.qv_pad_right.Goals as goal

pub tell_number-requires : goal.tell_number-requires
tell_number-requires c =
    search (crossing, pad_right_near)

pub returns : goal.returns
returns c =
    let e = c.pad_right.ensures ∙ ap (λ (t : Table). pad_right_call t c.args.a c.args.b) c.new-table.ensures in
    record {
      value = code_of (λ n. n) _ _ e _ c.tell_number.ensures.value;
      padding_after = stored_of (λ n. n) _ _ e (λ n. n) _ _ c.tell_number.ensures.value_after;
    }
