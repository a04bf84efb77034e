-- `shapes::word_width` meets its contract: the array holds the list's own numbers. Assumes nothing.
use mathlib.Core.Path.{refl}
use Rattle.meaning.specs.Words.{word_widths}
use Rattle.shapes.proofs.word_width.Goals as goal

pub returns : goal.returns
unfolding word_widths
returns c =
    refl
