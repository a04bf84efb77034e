-- Ranges of numbers and lengths, as the code tests them.
--
--   shifted_in shifted_out      a number below 2^w is 0 after a shift by w
--   exponent_pow exponent_is exponent_else exponent_most exponent_zeros     the exponent of a length
--   eight_times exponent_bytes  bytes and bits of a power of two
-- Assumes nothing.
use Prim.Native.Nat.{ℕ, ◌+◌, ◌-◌, ◌*◌, ◌/◌, ◌^◌, ◌≤◌, ◌<◌}
use mathlib.Core.Path.{◌≡◌, sym, ap, ◌∙◌, subst}
use mathlib.Core.Bool.{true, false}
use native.Mathlib.Nat.{div-eq_of_lt, div-lt_iff_lt-mul, one-mul, le_of_lt}
use native.Mathlib.Omega.{arith}
use lib.Dec.{eqb, ltb}
use lib.Pow.{pow_pos, pow-add}
use lib.Count.{count_trailing_zeros}
use borrow.Author.Tests.{lt-ltb, le-ltb, eqb-true, eq-eqb, ne_eqb}
use Rattle.meaning.specs.Words.{exponent}
use Rattle.meaning.proofs.Choices.{least_le, least_passes, least_unique}
use Rattle.meaning.proofs.Powers.{pow_injective, trailing_pow}

pub shifted_in : (x w : ℕ) → x / 2 ^ w ≡ 0 → ltb x (2 ^ w) ≡ true
shifted_in x w e =
    let low : x / 2 ^ w < 1 = omega arith in
    lt-ltb x (2 ^ w) (subst (λ (z : ℕ). x < z) (one-mul (2 ^ w)) ((div-lt_iff_lt-mul {k = 2 ^ w} {x = x} {y = 1} (pow_pos w)).0 low))

pub shifted_out : (x w : ℕ) → (x / 2 ^ w ≡ 0 → ⊥) → ltb x (2 ^ w) ≡ false
shifted_out x w f =
    let g : x < 2 ^ w → ⊥ = λ h. f (div-eq_of_lt h) in
    le-ltb x (2 ^ w) (omega arith)

-- The exponent of a length is below 29 exactly if the length is that power of two.
pub exponent_pow : (len : ℕ) → exponent len < 29 → 2 ^ exponent len ≡ len
unfolding exponent
exponent_pow len h = eqb-true (2 ^ exponent len) len (least_passes (λ k. eqb (2 ^ k) len) 29 h)

pub exponent_is : (k len : ℕ) → k < 29 → 2 ^ k ≡ len → exponent len ≡ k
unfolding exponent
exponent_is k len h e =
    least_unique (λ j. eqb (2 ^ j) len) 29 k (le_of_lt h) (λ j l. ne_eqb (2 ^ j) len (λ d. other j l (pow_injective j k (d ∙ sym e))))
    (λ l. eq-eqb (2 ^ k) len e)
  where
    other : (j : ℕ) → j < k → j ≡ k → ⊥
    other j l d = omega arith

pub exponent_else : (len : ℕ) → (exponent len < 29 → ⊥) → exponent len ≡ 29
unfolding exponent
exponent_else len f = let l = least_le (λ k. eqb (2 ^ k) len) 29 in omega arith

-- The zeros below the lowest bit of such a length are its exponent.
pub exponent_zeros : (len : ℕ) → exponent len < 29 → count_trailing_zeros 64 len ≡ exponent len
exponent_zeros len h =
    ap (count_trailing_zeros 64) (sym (exponent_pow len h)) ∙ trailing_pow 64 (exponent len) (omega arith)

pub exponent_most : (len : ℕ) → exponent len ≤ 29
unfolding exponent
exponent_most len = least_le (λ k. eqb (2 ^ k) len) 29

-- 2^(n − 3) bytes are 2^n bits.
pub eight_times : (n : ℕ) → 3 ≤ n → 8 * 2 ^ (n - 3) ≡ 2 ^ n
eight_times n h = let e : 3 + (n - 3) ≡ n = omega arith in sym (pow-add 2 3 (n - 3)) ∙ ap (λ (k : ℕ). 2 ^ k) e

pub exponent_bytes : (k len : ℕ) → k ≡ exponent len → k < 29 → 8 * len ≡ 2 ^ (3 + k)
exponent_bytes k len e h =
    let low : exponent len < 29 = omega arith in
    ap (λ (m : ℕ). 8 * m) (sym (exponent_pow len low) ∙ ap (λ (j : ℕ). 2 ^ j) (sym e)) ∙ sym (pow-add 2 3 k)
