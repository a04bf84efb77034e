-- `exports::lengths::qv_compact_len` meets its contract: what crosses is what the call says, and its place is near. Assumes nothing.
use mathlib.Core.Path.{ap, ◌∙◌}
use Rattle.meaning.specs.Ladder.{record_of}
use Rattle.meaning.specs.RecordCalls.{compact_len_call}
use Rattle.meaning.specs.Tables.{Table}
use Rattle.exports.proofs.Nears.{compact_len_near}
use Rattle.exports_answers.proofs.Crossing.{crossing, code_of, stored_of}
use Rattle.exports.proofs.lengths.qv_compact_len.Goals as goal

pub tell_number-requires : goal.tell_number-requires
tell_number-requires c =
    search (crossing, compact_len_near)

pub returns : goal.returns
returns c =
    let e = c.compact_len.ensures ∙ ap (λ (t : Table). compact_len_call t (record_of c.args.bytes.now c.args.offset c.args.node)) c.new-table.ensures in
    record {
      value = code_of (λ n. n) _ _ e _ c.tell_number.ensures.value;
      bits_after = stored_of (λ n. n) _ _ e (λ n. n) _ _ c.tell_number.ensures.value_after;
    }
