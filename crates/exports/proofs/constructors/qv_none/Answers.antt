-- `exports::constructors::qv_none` meets its contract: what crosses is what the call says, and its place is near. Assumes nothing.
use mathlib.Core.Path.{ap, ◌∙◌}
use Rattle.meaning.specs.RecordCalls.{none_call, none_out}
use Rattle.meaning.specs.Tables.{Table}
use Rattle.exports.proofs.Nears.{none_near}
use Rattle.exports_answers.proofs.Crossing.{crossing, code_of, stored_of}
use Rattle.exports.proofs.constructors.qv_none.Goals as goal

pub tell_number-requires : goal.tell_number-requires
tell_number-requires c =
    search (crossing, none_near)

pub returns : goal.returns
returns c =
    let e = c.none.ensures.result_value ∙ ap (λ (t : Table). none_call t c.args.res c.args.out.now) c.new-table.ensures in
    record {
      value = code_of (λ n. n) _ _ e _ c.tell_number.ensures.value;
      width_after = stored_of (λ n. n) _ _ e (λ n. n) _ _ c.tell_number.ensures.value_after;
      out_after = c.none.ensures.out_after ∙ ap (λ (t : Table). none_out t c.args.res c.args.out.now) c.new-table.ensures;
    }
