-- Word types, shown once over n.
--
--   word_is_word is_word_word   `is_word n` holds of word n and of nothing else
--   is_word_same                `is_word n` is sameness with word n
--   bits_word is_word_bits      the true width is 2 to the n, of the tree and of whatever passes the test
--   width_word                  and so is the 64-bit one up to n = 31
--   size_word padded_word       the size is one less than 2 to the n + 2, below the end, and no word is padded
--   word_injective              no two n share a tree
-- Assumes nothing.
use Prim.Native.Nat.{ℕ, zero, suc, ◌+◌, ◌*◌, ◌^◌, ◌≤◌, ◌<◌}
use mathlib.Core.Path.{◌≡◌, refl, ap, ap₂, sym, ◌∙◌}
use mathlib.Core.Bool.{true, false, ◌&&◌, false≢true}
use native.Mathlib.Nat.{two-pow-succ, le_of_lt}
use native.Mathlib.Omega.{arith}
use lib.Pow.{pow_mono}
use Rattle.meaning.specs.Types.{Ty, unit, sum, prod, same, bits, width, size, padded}
use Rattle.meaning.specs.Words.{two, word, is_word}
use Rattle.meaning.proofs.Tests.{and_left, and_right, and_both, or_none}
use Rattle.meaning.proofs.Types.{same_refl, same_eq, same_comm, width_bits}
use Rattle.meaning.proofs.Powers.{pow_injective}

pub word_is_word : (n : ℕ) → is_word n (word n) ≡ true
unfolding is_word word
word_is_word zero = same_refl two
word_is_word (suc n) = and_both (is_word n (word n)) (is_word n (word n)) (word_is_word n) (word_is_word n)

pub is_word_word : (n : ℕ) (t : Ty) → is_word n t ≡ true → t ≡ word n
unfolding is_word word
is_word_word zero t h = sym (same_eq two t h)
is_word_word (suc n) unit h = absurd (false≢true h)
is_word_word (suc n) (sum a b) h = absurd (false≢true h)
is_word_word (suc n) (prod a b) h =
    ap₂ prod (is_word_word n a (and_left (is_word n a) (is_word n b) h)) (is_word_word n b (and_right (is_word n a) (is_word n b) h))

pub is_word_same : (n : ℕ) (t : Ty) → is_word n t ≡ same t (word n)
unfolding is_word word same
is_word_same zero unit = refl
is_word_same zero (sum a b) = ap₂ ◌&&◌ (same_comm unit a) (same_comm unit b)
is_word_same zero (prod a b) = refl
is_word_same (suc n) unit = refl
is_word_same (suc n) (sum a b) = refl
is_word_same (suc n) (prod a b) = ap₂ ◌&&◌ (is_word_same n a) (is_word_same n b)

pub bits_word : (n : ℕ) → bits (word n) ≡ 2 ^ n
unfolding bits word
bits_word zero = refl
bits_word (suc n) = ap₂ ◌+◌ (bits_word n) (bits_word n) ∙ sym (two-pow-succ n)

pub is_word_bits : (n : ℕ) (t : Ty) → is_word n t ≡ true → bits t ≡ 2 ^ n
is_word_bits n t h = ap bits (is_word_word n t h) ∙ bits_word n

pub width_word : (n : ℕ) → n < 32 → width (word n) ≡ 2 ^ n
width_word n h =
    let w = width_bits (word n) in
    let b = bits_word n in
    let p : 2 ^ n ≤ 2 ^ 32 = pow_mono (le_of_lt h) in
    omega arith

-- One more than the size doubles with each square.
pub size_word : (n : ℕ) → n ≤ 61 → size (word n) + 1 ≡ 4 * 2 ^ n
unfolding size word
size_word zero l = refl
size_word (suc n) l =
    let h = size_word n (omega arith) in
    let d = two-pow-succ n in
    let m : 2 ^ suc n ≤ 2 ^ 61 = pow_mono l in
    omega arith

pub padded_word : (n : ℕ) → padded (word n) ≡ false
unfolding padded word width
padded_word zero = refl
padded_word (suc n) = or_none (padded (word n)) (padded (word n)) (padded_word n) (padded_word n)

pub word_injective : (m n : ℕ) → word m ≡ word n → m ≡ n
word_injective m n e = pow_injective m n (sym (bits_word m) ∙ ap bits e ∙ bits_word n)
