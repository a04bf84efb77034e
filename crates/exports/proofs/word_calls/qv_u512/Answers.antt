-- `exports::word_calls::qv_u512` meets its contract: what crosses is what the call says, and its place is near. Assumes nothing.
use mathlib.Core.Path.{ap, ◌∙◌}
use Rattle.meaning.specs.Tables.{Table}
use Rattle.meaning.specs.WordCalls.{bytes_call, bytes_out}
use Rattle.exports.proofs.Nears.{bytes_near}
use Rattle.exports_answers.proofs.Crossing.{crossing, code_of, stored_of}
use Rattle.exports.proofs.word_calls.qv_u512.Goals as goal

pub tell_number-requires : goal.tell_number-requires
tell_number-requires c =
    search (crossing, bytes_near)

pub returns : goal.returns
returns c =
    let e = c.u512.ensures.result_value ∙ ap (λ (t : Table). bytes_call t 9 c.args.«data».now c.args.res c.args.out.now) c.new-table.ensures in
    record {
      value = code_of (λ n. n) _ _ e _ c.tell_number.ensures.value;
      width_after = stored_of (λ n. n) _ _ e (λ n. n) _ _ c.tell_number.ensures.value_after;
      out_after = c.u512.ensures.out_after ∙ ap (λ (t : Table). bytes_out t 9 c.args.«data».now c.args.res c.args.out.now) c.new-table.ensures;
    }
