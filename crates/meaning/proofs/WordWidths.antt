-- The fixed list of word widths: its doubling rule is one test, computed over the whole list, and cited per n.
--
--   doubles doubling                each number is twice the one before it; and the first is 1, and there are thirty-two
--   doubling_first doubling_next    what a list that passes is known by: its first number, and each next one
--   widths_doubling                 the list of word widths passes
--   word_widths_double              each width is twice the last
--   word_widths_bits word-widths    entry n is the width of word type n, which is 2 to the n
-- Assumes nothing.
use Prim.Native.Nat.{ℕ, zero, suc, ◌*◌, ◌^◌, ◌<◌}
use mathlib.Core.Path.{◌≡◌, refl, sym, ◌∙◌, subst}
use mathlib.Core.Bool.{Bool, true, false, ◌&&◌, false≢true}
use mathlib.Core.List.{List, [], ◌∷◌}
use native.Mathlib.Nat.{le_of_suc-le-suc, not-suc-le-zero}
use native.Mathlib.Omega.{arith}
use lib.Dec.{eqb}
use lib.ListN.{length, get_or}
use borrow.Author.Tests.{eqb-true}
use Rattle.meaning.specs.Types.{bits}
use Rattle.meaning.specs.Words.{word, word_widths}
use Rattle.meaning.proofs.Tests.{and_left, and_right}
use Rattle.meaning.proofs.Words.{bits_word}

-- Each number of the list is twice the one before it; x stands before the first.
unfoldable pub doubles : ℕ → List ℕ → Bool
doubles x [] = true
doubles x (y ∷ ys) = eqb y (2 * x) && doubles y ys

-- The first is 1, thirty-one follow, and each is twice the one before it.
unfoldable pub doubling : List ℕ → Bool
doubling [] = false
doubling (x ∷ xs) = eqb x 1 && eqb (length xs) 31 && doubles x xs

-- The number at a place, and the next.
next : (x : ℕ) (xs : List ℕ) → doubles x xs ≡ true → (n : ℕ) → n < length xs → get_or xs n 0 ≡ 2 * get_or (x ∷ xs) n 0
unfolding doubles
next x [] t n h = absurd (not-suc-le-zero h)
next x (y ∷ ys) t zero h = eqb-true y (2 * x) (and_left (eqb y (2 * x)) (doubles y ys) t)
next x (y ∷ ys) t (suc n) h = next y ys (and_right (eqb y (2 * x)) (doubles y ys) t) n (le_of_suc-le-suc h)

pub doubling_first : (xs : List ℕ) → doubling xs ≡ true → get_or xs 0 0 ≡ 1
unfolding doubling
doubling_first [] t = absurd (false≢true t)
doubling_first (x ∷ xs) t =
    eqb-true x 1 (and_left (eqb x 1) (eqb (length xs) 31) (and_left (eqb x 1 && eqb (length xs) 31) (doubles x xs) t))

pub doubling_next : (xs : List ℕ) → doubling xs ≡ true → (n : ℕ) → n < 31 → get_or xs (suc n) 0 ≡ 2 * get_or xs n 0
unfolding doubling
doubling_next [] t n h = absurd (false≢true t)
doubling_next (x ∷ xs) t n h =
    let front = and_left (eqb x 1 && eqb (length xs) 31) (doubles x xs) t in
    let e = eqb-true (length xs) 31 (and_right (eqb x 1) (eqb (length xs) 31) front) in
    next x xs (and_right (eqb x 1 && eqb (length xs) 31) (doubles x xs) t) n (subst (λ (m : ℕ). n < m) (sym e) h)

pub widths_doubling : doubling word_widths ≡ true
unfolding doubling doubles word_widths
widths_doubling = refl

pub word_widths_double : (n : ℕ) → n < 31 → get_or word_widths (suc n) 0 ≡ 2 * get_or word_widths n 0
word_widths_double n h = doubling_next word_widths widths_doubling n h

-- The next word is the square of the last, so its width doubles too.
pub word_widths_bits : (n : ℕ) → n < 32 → get_or word_widths n 0 ≡ bits (word n)
unfolding bits word
word_widths_bits zero h = doubling_first word_widths widths_doubling
word_widths_bits (suc n) h =
    let e = word_widths_double n (le_of_suc-le-suc h) in
    let b = word_widths_bits n (omega arith) in
    omega arith

pub word-widths : (n : ℕ) → n < 32 → get_or word_widths n 0 ≡ 2 ^ n
word-widths n h = word_widths_bits n h ∙ bits_word n
