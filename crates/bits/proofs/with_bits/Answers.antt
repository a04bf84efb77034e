-- `bits::with_bits` meets its contract: no shift loses a bit, so the sum of the parts is the number of `to_bits_replaced`. Assumes nothing.
use mathlib.Core.Path.{◌≡◌, sym, ap, ap₂, ◌∙◌, subst}
use Prim.Native.Nat.{ℕ, ◌+◌, ◌-◌, ◌*◌, ◌/◌, ◌%◌, ◌^◌, ◌≤◌, ◌<◌}
use native.Mathlib.Nat.{one-mul}
use native.Mathlib.Omega.{arith}
use lib.Pow.{shl_exact}
use lib.Seq.{paste}
use Rattle.meaning.specs.Bits.{to_bits}
use Rattle.bits.proofs.Parts.{to_bits_replaced, upper_below, joined_below, replaced_below}
use Rattle.bits.proofs.with_bits.Goals as goal

-- The divisor that leaves the k lowest bits.
power : (k : ℕ) → k ≤ 8 → 1 * 2 ^ k % 2 ^ 64 ≡ 2 ^ k
power k h = shl_exact {a = 1} 1 k 64 (omega arith) (omega arith) ∙ one-mul (2 ^ k)

-- m bits stand above the n that are replaced, and k below them.
module _ (old x n k : ℕ) (fits : old < 256) (h : n + k ≤ 8) where
  abbrev m : ℕ
  m = 8 - (n + k)

  -- The bits above and those of x, and the whole byte.
  abbrev joined : ℕ
  joined = old / 2 ^ (n + k) * 2 ^ n + x % 2 ^ n

  abbrev replaced : ℕ
  replaced = joined * 2 ^ k + old % 2 ^ k

  eight : m + n + k ≡ 8
  eight = omega arith

  wide : old < 2 ^ (m + n + k)
  wide = subst (λ (i : ℕ). old < 2 ^ i) (sym eight) fits

  joined_is : old / 2 ^ (n + k) * 2 ^ n % 2 ^ 64 + x % (1 * 2 ^ n % 2 ^ 64) ≡ joined
  joined_is =
      ap₂ (λ (y d : ℕ). y + x % d)
      (shl_exact m n 64 (upper_below m n k old x wide) (omega arith))
      (power n (omega arith))

  replaced_is : (old / 2 ^ (n + k) * 2 ^ n % 2 ^ 64 + x % (1 * 2 ^ n % 2 ^ 64)) * 2 ^ k % 2 ^ 64 + old % (1 * 2 ^ k % 2 ^ 64) ≡ replaced
  replaced_is =
      ap₂ (λ (y d : ℕ). y * 2 ^ k % 2 ^ 64 + old % d) joined_is (power k (omega arith))
      ∙ ap (λ (y : ℕ). y + old % 2 ^ k) (shl_exact (m + n) k 64 (joined_below m n k old x wide) (omega arith))

  replaced_fits : replaced < 256
  replaced_fits = subst (λ (i : ℕ). replaced < 2 ^ i) eight (replaced_below m n k old x wide)

  right : to_bits 8 replaced ≡ paste (to_bits 8 old) m (to_bits n x) n
  right = subst (λ (i : ℕ). to_bits i replaced ≡ paste (to_bits i old) m (to_bits n x) n) eight (to_bits_replaced m n k old x)

pub overflow_cast-result : goal.overflow_cast-result
overflow_cast-result c =
    let a = c.args in
    omega (
      arith,
      replaced_is a.old a.x a.n a.below c.ranges.old.fits c.requires,
      replaced_fits a.old a.x a.n a.below c.ranges.old.fits c.requires,
    )

pub returns : goal.returns
returns c =
    let a = c.args in
    ap (to_bits 8) (replaced_is a.old a.x a.n a.below c.ranges.old.fits c.requires)
    ∙ right a.old a.x a.n a.below c.ranges.old.fits c.requires
