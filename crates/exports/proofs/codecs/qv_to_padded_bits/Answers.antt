-- `exports::codecs::qv_to_padded_bits` meets its contract: what crosses is what the call says, and its place is near. Assumes nothing.
use mathlib.Core.Path.{ap, ◌∙◌}
use Rattle.meaning.specs.CodecCalls.{to_padded_call, to_padded_out}
use Rattle.meaning.specs.Ladder.{record_of}
use Rattle.meaning.specs.Tables.{Table}
use Rattle.exports.proofs.Nears.{to_padded_near}
use Rattle.exports_answers.proofs.Crossing.{crossing, code_of, stored_of}
use Rattle.exports.proofs.codecs.qv_to_padded_bits.Goals as goal

pub tell_number-requires : goal.tell_number-requires
tell_number-requires c =
    search (crossing, to_padded_near)

pub returns : goal.returns
returns c =
    let e = c.to_padded_bits.ensures.result_value ∙ ap (λ (t : Table). to_padded_call t (record_of c.args.bytes.now c.args.offset c.args.node) c.args.out.now) c.new-table.ensures in
    record {
      value = code_of (λ n. n) _ _ e _ c.tell_number.ensures.value;
      bits_after = stored_of (λ n. n) _ _ e (λ n. n) _ _ c.tell_number.ensures.value_after;
      out_after = c.to_padded_bits.ensures.out_after ∙ ap (λ (t : Table). to_padded_out t (record_of c.args.bytes.now c.args.offset c.args.node) c.args.out.now) c.new-table.ensures;
    }
