-- The types that join.
--
--   join_types                  a word twice, and the next word
--   join_width                  a word is not empty
--   second_width whole_width    the second word is as wide as the first, and the next twice as wide
-- Assumes nothing.
use Prim.Native.Nat.{ℕ, suc, ◌+◌, ◌^◌, ◌<◌}
use mathlib.Core.Path.{◌≡◌, sym, ap, ap₂, ◌∙◌}
use mathlib.Core.Bool.{true, ◌&&◌}
use native.Mathlib.Omega.{arith}
use lib.Dec.{ltb}
use lib.Pow.{pow_pos}
use borrow.Author.Tests.{ltb-true}
use Rattle.meaning.specs.Types.{Ty, prod, bits}
use Rattle.meaning.specs.Words.{word, is_word, as_word, joins}
use Rattle.meaning.proofs.Tests.{and_left, and_right}
use Rattle.meaning.proofs.Records.{bits_prod}
use Rattle.meaning.proofs.Words.{is_word_word, is_word_bits}
use Rattle.meaning.proofs.WordNames.{as_word_word, as_word_is_word}

-- The types of a join: a word twice, and the next word.
pub join_types : (a b c : Ty) → joins a b c ≡ true → (a ≡ b) × (c ≡ prod a b)
unfolding word
join_types a b c h =
    let small = ltb (as_word a) 31 in
    let same_word = is_word (as_word a) b in
    let next_word = is_word (suc (as_word a)) c in
    let front = and_left (small && same_word) next_word h in
    let low : as_word a < 31 = ltb-true (as_word a) 31 (and_left small same_word front) in
    let first : a ≡ word (as_word a) = as_word_word a (omega arith) in
    let second : b ≡ word (as_word a) = is_word_word (as_word a) b (and_right small same_word front) in (
      first ∙ sym second,
      is_word_word (suc (as_word a)) c (and_right (small && same_word) next_word h) ∙ ap₂ prod (sym first) (sym second),
    )

pub join_width : (a b c : Ty) → joins a b c ≡ true → 0 < bits a
join_width a b c h =
    let small = ltb (as_word a) 31 in
    let same_word = is_word (as_word a) b in
    let front = and_left (small && same_word) (is_word (suc (as_word a)) c) h in
    let low : as_word a < 31 = ltb-true (as_word a) 31 (and_left small same_word front) in
    let e : bits a ≡ 2 ^ as_word a = is_word_bits (as_word a) a (as_word_is_word a (omega arith)) in
    let p = pow_pos (as_word a) in
    omega arith

-- Both words of a join are as wide, and the whole twice as wide.
module _ (a b c : Ty) (h : joins a b c ≡ true) where
  pub second_width : bits a ≡ bits b
  second_width = ap bits (join_types a b c h).0

  pub whole_width : bits a + bits a ≡ bits c
  whole_width = ap (λ (w : ℕ). bits a + w) second_width ∙ sym (ap bits (join_types a b c h).1 ∙ bits_prod a b)
