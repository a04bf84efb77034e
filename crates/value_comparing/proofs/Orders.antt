-- Orders of numbers, and an order from its number.
--
--   compare_below compare_above compare_level     the order of two numbers from what is known of them
--   told_less told_equal told_greater             an order from its number
-- Assumes nothing.
use Prim.Native.Nat.{ℕ, zero, suc, ◌<◌, compare, Ordering}
use Prim.Native.Nat.compare
use mathlib.Core.Path.{◌≡◌, refl, sym, ap, ◌∙◌}
use native.Mathlib.Nat.{le_of_suc-le-suc, not-suc-le-zero}
use native.Mathlib.Omega.{arith}
use Rattle.bits.specs.Runs.{order_no}

pub compare_below : (m n : ℕ) → m < n → compare m n ≡ Ordering.lt
compare_below m zero h = absurd (not-suc-le-zero h)
compare_below zero (suc n) h = compare.zero-suc n
compare_below (suc m) (suc n) h = compare.suc-suc m n ∙ compare_below m n (le_of_suc-le-suc h)

pub compare_above : (m n : ℕ) → n < m → compare m n ≡ Ordering.gt
compare_above zero n h = absurd (not-suc-le-zero h)
compare_above (suc m) zero h = compare.suc-zero m
compare_above (suc m) (suc n) h = compare.suc-suc m n ∙ compare_above m n (le_of_suc-le-suc h)

level : (n : ℕ) → compare n n ≡ Ordering.eq
level zero = compare.zero-zero
level (suc n) = compare.suc-suc n n ∙ level n

pub compare_level : (m n : ℕ) → m ≡ n → compare m n ≡ Ordering.eq
compare_level m n e = ap (compare m) (sym e) ∙ level m

pub told_less : (o : Ordering) → order_no o ≡ 0 → o ≡ Ordering.lt
told_less Ordering.lt h = refl
told_less Ordering.eq h = absurd (omega arith)
told_less Ordering.gt h = absurd (omega arith)

pub told_equal : (o : Ordering) → order_no o ≡ 1 → o ≡ Ordering.eq
told_equal Ordering.lt h = absurd (omega arith)
told_equal Ordering.eq h = refl
told_equal Ordering.gt h = absurd (omega arith)

pub told_greater : (o : Ordering) → (order_no o ≡ 0 → ⊥) → (order_no o ≡ 1 → ⊥) → o ≡ Ordering.gt
told_greater Ordering.lt f g = absurd (f refl)
told_greater Ordering.eq f g = absurd (g refl)
told_greater Ordering.gt f g = refl
