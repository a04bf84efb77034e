-- Powers of two.
--
--   pow_injective               no two exponents give one power
--   ones_pow                    one digit is set
--   trailing_pow                as many zeros stand below it as the exponent says
--   pow_twelve                  up to 2^12, those of the segments of a buffer, they lie between 1 and 4,096
-- Assumes nothing.
use Prim.Native.Nat.{ℕ, zero, suc, ◌+◌, ◌*◌, ◌/◌, ◌%◌, ◌^◌, ◌≤◌, ◌<◌}
use mathlib.Core.Path.{◌≡◌, refl, ap, ap₂, sym, ◌∙◌, subst}
use native.Mathlib.Nat.{two-pow-succ, not-suc-le-zero, le_of_suc-le-suc, lt_irrefl, add-zero, one-mul}
use native.Mathlib.Omega.{arith}
use lib.Pow.{pow-lt, pow_pos, pow_mono}
use lib.Count.{ones, count_trailing_zeros, under, ones_cat}

pub pow_injective : (m n : ℕ) → 2 ^ m ≡ 2 ^ n → m ≡ n
pow_injective m n e =
    let f : m < n → ⊥ = λ h. lt_irrefl (2 ^ n) (subst (λ (x : ℕ). x < 2 ^ n) e (pow-lt h)) in
    let g : n < m → ⊥ = λ h. lt_irrefl (2 ^ n) (subst (λ (x : ℕ). 2 ^ n < x) e (pow-lt h)) in
    omega arith

pub ones_pow : (k : ℕ) → ones (2 ^ k) ≡ 1
unfolding ones
ones_pow k =
    let e : 2 ^ k ≡ 1 * 2 ^ k + 0 = sym (add-zero (1 * 2 ^ k) ∙ one-mul (2 ^ k)) in
    ap ones e ∙ ones_cat k 1 0 (pow_pos k)

pub trailing_pow : (d k : ℕ) → k < d → count_trailing_zeros d (2 ^ k) ≡ k
unfolding count_trailing_zeros
trailing_pow zero k h = absurd (not-suc-le-zero h)
trailing_pow (suc d) zero h = refl
trailing_pow (suc d) (suc k) h =
    let t = two-pow-succ k in
    let even : 2 ^ suc k % 2 ≡ 0 = omega arith in
    let half : 2 ^ suc k / 2 ≡ 2 ^ k = omega arith in
    ap₂ (λ (x y : ℕ). under x (count_trailing_zeros d y)) even half ∙ ap suc (trailing_pow d k (le_of_suc-le-suc h))

pub pow_twelve : (k : ℕ) → k < 13 → (1 ≤ 2 ^ k) × (2 ^ k ≤ 4096)
pow_twelve k h = let p = pow_pos k in let m : 2 ^ k ≤ 2 ^ 12 = pow_mono {i = k} {j = 12} (omega arith) in (omega arith, omega arith)
