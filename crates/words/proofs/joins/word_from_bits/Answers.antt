-- `words::joins::word_from_bits` meets its contract: the first rungs, and what they let pass. Assumes nothing.
use mathlib.Core.Path.{sym}
use lib.Dec.{ltb}
use Rattle.answers.proofs.Exits.{handed_on}
use Rattle.meaning.specs.Words.{is_word}
use Rattle.meaning.specs.Ladder.{stream_of, type_at}
use Rattle.meaning.specs.CodecCalls.{read_rungs, padded_in}
use Rattle.meaning.specs.WordCalls.{word_read_rungs}
use Rattle.checked.proofs.Handed.{checked_streamed}
use Rattle.checked.proofs.Read.{stopped}
use Rattle.checked.proofs.Shaped.{range_stop}
use Rattle.words.proofs.joins.word_from_bits.Goals as goal

pub returns-in_err-checked : goal.returns-in_err-checked
returns-in_err-checked c =
    let a = c.args in
    let t = a.table.now in
    let s = stream_of a.bytes.now a.until a.position in
    let both =
    stopped (word_read_rungs t s a.n a.node) s (padded_in t s a.node) a.out.now _ _
    (range_stop (read_rungs t s a.node) (ltb a.n 32) (is_word a.n (type_at t a.node)) _ _ (sym c.in_err-checked.ensures.answer)) in
    record { result_value = handed_on (λ n. n) _ _ c.from_residual.ensures.1 _ both.0; out_after = both.1 }

pub read_word-requires : goal.read_word-requires
read_word-requires c =
    let a = c.args in
    checked_streamed a.table.now _ c.in_ok-checked.ensures.same (stream_of a.bytes.now a.until a.position) a.node c.in_ok-checked.ensures.answer
