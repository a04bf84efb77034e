-- `shapes::word_of` meets its contract: the width of a word has one bit set, and the zeros below it name the only candidate. Assumes nothing.
use Prim.Native.Nat.{ℕ, ◌≤◌, ◌<◌}
use mathlib.Core.Path.{◌≡◌, refl, sym, ap, ◌∙◌, subst}
use mathlib.Core.Bool.{Bool, true, false, true≢false}
use native.Mathlib.Omega.{arith}
use lib.Count.{ones, count_trailing_zeros}
use Rattle.std.specs.Prelude.{MatchOption}
use Rattle.std.specs.Bool.{then_some}
use Rattle.meaning.specs.Tables.{ty_at}
use Rattle.meaning.specs.Types.{Ty, width}
use Rattle.meaning.specs.Words.{is_word, as_word}
use Rattle.meaning.proofs.WordNames.{as_word_is, as_word_is_word, as_word_else, as_word_ones, as_word_zeros}
use Rattle.shapes.proofs.word_of.Goals as goal

-- Of a word, the width's zeros name it.
module _ (z : Ty) (w : ℕ) (e : w ≡ width z) where
  one_bit : (ones w ≡ 1 → ⊥) → as_word z ≡ 32
  one_bit f = as_word_else z (λ h. f (ap ones e ∙ as_word_ones z h))

  low_zeros : as_word z < 32 → count_trailing_zeros 64 w ≡ as_word z
  low_zeros h = ap (count_trailing_zeros 64) e ∙ as_word_zeros z h

  past : 32 ≤ count_trailing_zeros 64 w → as_word z ≡ 32
  past l = as_word_else z (λ h. let q = low_zeros h in absurd (omega arith))

  asked : (b : Bool) (n : ℕ) → n ≡ count_trailing_zeros 64 w → n < 32 → b ≡ is_word n z
      → MatchOption (then_some b n) (as_word z ≡ 32) (λ m. (m < 32) × (as_word z ≡ m))
  asked true n f l i = (l, as_word_is n z l (sym i))
  asked false n f l i =
      as_word_else z
      (λ h. true≢false (sym (as_word_is_word z h) ∙ ap (λ (m : ℕ). is_word m z) (sym (f ∙ low_zeros h)) ∙ sym i))

pub returns-then-width-ne1 : goal.returns-then-width-ne1
returns-then-width-ne1 c =
    one_bit _ _ c.width-width.ensures c.if-width-ne1.true

pub returns-then-n-ge-WORDS : goal.returns-then-n-ge-WORDS
returns-then-n-ge-WORDS c =
    past _ _ c.width-width.ensures c.if-n-ge-WORDS.true

pub returns : goal.returns
returns c =
    let z = ty_at c.args.table.now.columns c.args.node in
    subst (λ o. MatchOption o (as_word z ≡ 32) (λ m. (m < 32) × (as_word z ≡ m))) (sym c.then_some.ensures)
    (asked z _ c.width-width.ensures _ _ refl c.if-n-ge-WORDS.false c.is_word.ensures)
