-- `exports::joins::qv_word_product` meets its contract: what crosses is what the call says, and its place is near. Assumes nothing.
use mathlib.Core.Path.{ap, ◌∙◌}
use Rattle.meaning.specs.Ladder.{record_of}
use Rattle.meaning.specs.Tables.{Table}
use Rattle.meaning.specs.WordCalls.{join_call, join_out}
use Rattle.exports.proofs.Nears.{join_near}
use Rattle.exports_answers.proofs.Crossing.{crossing, code_of, stored_of}
use Rattle.exports.proofs.joins.qv_word_product.Goals as goal

pub tell_number-requires : goal.tell_number-requires
tell_number-requires c =
    search (crossing, join_near)

pub returns : goal.returns
returns c =
    let e = c.word_product.ensures.result_value ∙ ap (λ (t : Table). join_call t (record_of c.args.a_bytes.now c.args.a_offset c.args.a_node) (record_of c.args.b_bytes.now c.args.b_offset c.args.b_node) c.args.res c.args.out.now) c.new-table.ensures in
    record {
      value = code_of (λ n. n) _ _ e _ c.tell_number.ensures.value;
      width_after = stored_of (λ n. n) _ _ e (λ n. n) _ _ c.tell_number.ensures.value_after;
      out_after = c.word_product.ensures.out_after ∙ ap (λ (t : Table). join_out t (record_of c.args.a_bytes.now c.args.a_offset c.args.a_node) (record_of c.args.b_bytes.now c.args.b_offset c.args.b_node) c.args.res c.args.out.now) c.new-table.ensures;
    }
