-- `exports::codecs::qv_from_padded_bits` meets its contract: what crosses is what the call says, and its place is near. Assumes nothing.
use mathlib.Core.Path.{ap, ◌∙◌}
use Rattle.meaning.specs.CodecCalls.{from_padded_call, from_padded_out}
use Rattle.meaning.specs.Ladder.{stream_of}
use Rattle.meaning.specs.Tables.{Table}
use Rattle.exports.proofs.Nears.{from_padded_near}
use Rattle.exports_answers.proofs.Crossing.{crossing, code_of, stored_of}
use Rattle.exports.proofs.codecs.qv_from_padded_bits.Goals as goal

pub tell_number-requires : goal.tell_number-requires
tell_number-requires c =
    search (crossing, from_padded_near)

pub returns : goal.returns
returns c =
    let e = c.from_padded_bits-answer.ensures.result_value ∙ ap (λ (t : Table). from_padded_call t (stream_of c.args.bytes.now c.args.until c.args.position.now) c.args.node c.args.out.now) c.new-table.ensures in
    record {
      value = code_of (λ n. n) _ _ e _ c.tell_number.ensures.value;
      position_after = stored_of (λ n. n) _ _ e (λ n. n) _ _ c.tell_number.ensures.value_after;
      out_after = c.from_padded_bits-answer.ensures.out_after ∙ ap (λ (t : Table). from_padded_out t (stream_of c.args.bytes.now c.args.until c.args.position.now) c.args.node c.args.out.now) c.new-table.ensures;
    }
