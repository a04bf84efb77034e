-- `bits::straddling` meets its contract: the first byte shifted up leaves room for the top of the second. Assumes nothing.
use mathlib.Core.Path.{◌≡◌, subst}
use mathlib.Core.List.{◌++◌}
use Prim.Native.Nat.{ℕ, ◌+◌, ◌-◌, ◌*◌, ◌/◌, ◌%◌, ◌^◌, ◌<◌}
use native.Mathlib.Omega.{arith}
use lib.Pow.{shr_lt}
use Rattle.meaning.specs.Bits.{to_bits}
use Rattle.bits.proofs.Parts.{to_bits_shifted, shifted_below}
use Rattle.bits.proofs.straddling.Goals as goal

module _ (a b k : ℕ) (hb : b < 256) (hk : k < 8) where
  eight : 8 - k + k ≡ 8
  eight = omega arith

  top : b / 2 ^ (8 - k) < 2 ^ k
  top = let e : 8 ≡ k + (8 - k) = omega arith in shr_lt k (8 - k) (subst (λ (i : ℕ). b < 2 ^ i) e hb)

  fits : a * 2 ^ k % 256 + b / 2 ^ (8 - k) < 256
  fits =
      subst (λ (i : ℕ). a * 2 ^ k % 2 ^ i + b / 2 ^ (8 - k) < 2 ^ i) eight
      (shifted_below (8 - k) k a (b / 2 ^ (8 - k)) top)

  right : to_bits 8 (a * 2 ^ k % 256 + b / 2 ^ (8 - k)) ≡ to_bits (8 - k) a ++ to_bits k (b / 2 ^ (8 - k))
  right =
      subst (λ (i : ℕ). to_bits i (a * 2 ^ k % 2 ^ i + b / 2 ^ (8 - k)) ≡ to_bits (8 - k) a ++ to_bits k (b / 2 ^ (8 - k))) eight
      (to_bits_shifted (8 - k) k a (b / 2 ^ (8 - k)) top)

pub overflow_add-result : goal.overflow_add-result
overflow_add-result c =
    let a = c.args in record { fits = fits a.a a.b a.skip c.ranges.b.fits c.requires.1 }

pub returns : goal.returns
returns c =
    let a = c.args in right a.a a.b a.skip c.ranges.b.fits c.requires.1
