-- `exports::word_type_calls::qv_as_word` meets its contract: what crosses is what the call says, and its place is near. Assumes nothing.
use mathlib.Core.Path.{ap, ◌∙◌}
use Rattle.meaning.specs.Tables.{Table}
use Rattle.meaning.specs.TypeCalls.{as_word_call}
use Rattle.exports.proofs.Nears.{as_word_near}
use Rattle.exports_answers.proofs.Crossing.{crossing, code_of, stored_of}
use Rattle.exports.proofs.word_type_calls.qv_as_word.Goals as goal

pub tell_number-requires : goal.tell_number-requires
tell_number-requires c =
    search (crossing, as_word_near)

pub returns : goal.returns
returns c =
    let e = c.as_word.ensures ∙ ap (λ (t : Table). as_word_call t c.args.node) c.new-table.ensures in
    record {
      value = code_of (λ n. n) _ _ e _ c.tell_number.ensures.value;
      n_after = stored_of (λ n. n) _ _ e (λ n. n) _ _ c.tell_number.ensures.value_after;
    }
