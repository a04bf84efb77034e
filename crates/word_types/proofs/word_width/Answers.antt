-- `word_types::word_width` meets its contract. Assumes nothing.
use Rattle.word_types.proofs.Shaped.{no_word_width, word_width_told}
use Rattle.word_types.proofs.word_width.Goals as goal

pub returns-then-n-ge-WORDS : goal.returns-then-n-ge-WORDS
returns-then-n-ge-WORDS c =
    no_word_width c.args.n c.if-n-ge-WORDS.true

pub returns : goal.returns
returns c =
    word_width_told c.args.n c.if-n-ge-WORDS.false c.word_width.result c.word_width.ensures
