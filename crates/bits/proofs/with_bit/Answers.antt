-- `bits::with_bit` meets its contract: the sum of its parts is the number of `to_bits_put`, and fits a byte. Assumes nothing.
use mathlib.Core.Path.{◌≡◌, sym, ap, ap₂, ◌∙◌, subst}
use mathlib.Core.Bool.{Bool, true, false}
use Prim.Native.Nat.{ℕ, suc, ◌+◌, ◌-◌, ◌*◌, ◌/◌, ◌%◌, ◌^◌, ◌<◌}
use native.Mathlib.Nat.{mod-eq_of_lt}
use native.Mathlib.Omega.{arith}
use lib.ListN.{set}
use lib.Pow.{split}
use mir.Val.{bool_byte}
use Rattle.meaning.specs.Bits.{bit, to_bits}
use Rattle.bits.proofs.Numbers.{to_bits_put, put_below}
use Rattle.bits.proofs.with_bit.Goals as goal

-- The sum that the code makes is the number of `to_bits_put`, and fits a byte.
module _ (x k : ℕ) (b : Bool) (hx : x < 256) (hk : k < 8) where
  put : ℕ
  put = (2 * (x / 2 ^ k / 2) + bit b) * 2 ^ k + x % 2 ^ k

  kept : x / 2 ^ k * 2 ^ k % 256 ≡ x / 2 ^ k * 2 ^ k
  kept = mod-eq_of_lt (omega (arith, split x k))

  next : x / 2 ^ k - x / 2 ^ k % 2 + bool_byte b ≡ 2 * (x / 2 ^ k / 2) + bit b
  next = go b
    where
      go : (c : Bool) → x / 2 ^ k - x / 2 ^ k % 2 + bool_byte c ≡ 2 * (x / 2 ^ k / 2) + bit c
      go true = omega arith
      go false = omega arith

  eight : 7 - k + suc k ≡ 8
  eight = omega arith

  put_fits : put < 256
  unfolding put
  put_fits = subst (λ (i : ℕ). put < 2 ^ i) eight (put_below (7 - k) k x b (subst (λ (i : ℕ). x < 2 ^ i) (sym eight) hx))

  sum_is : (x / 2 ^ k - x / 2 ^ k % 2 + bool_byte b) * 2 ^ k % 256 + (x - x / 2 ^ k * 2 ^ k % 256) ≡ put
  unfolding put
  sum_is =
      ap₂ (λ (p q : ℕ). p * 2 ^ k % 256 + (x - q)) next kept
      ∙ ap₂ (λ (p q : ℕ). p + q) (mod-eq_of_lt (omega (arith, put_fits))) (omega (arith, split x k))

  right : to_bits 8 put ≡ set (to_bits 8 x) (7 - k) b
  unfolding put
  right = subst (λ (i : ℕ). to_bits i put ≡ set (to_bits i x) (7 - k) b) eight (to_bits_put (7 - k) k x b)

pub overflow_add-result-2 : goal.overflow_add-result-2
overflow_add-result-2 c =
    let a = c.args in
    omega (arith, sum_is a.x a.k a.b c.ranges.x.fits c.requires, put_fits a.x a.k a.b c.ranges.x.fits c.requires)

pub returns : goal.returns
returns c =
    let a = c.args in
    ap (to_bits 8) (sum_is a.x a.k a.b c.ranges.x.fits c.requires) ∙ right a.x a.k a.b c.ranges.x.fits c.requires
