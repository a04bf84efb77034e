-- Laws of `to_bits` and `value`, the bits of one number, over the width k.
--
--   odd_mod bit_odd odd_bit           the lowest bit as a number and back
--   length_to_bits                    how many bits there are
--   to_bits_add                       the upper m bits, then the lower k
--   to_bits_low to_bits_mod           k bits depend on the number modulo 2^k alone
--   to_bits_put                       one bit set
--   to_bits_zero                      the bits of 0
--   value_below                       k bits make a number below 2^k
--   value_to_bits to_bits_value       the two undo one another
--   to_bits_injective
use mathlib.Core.Path.{◌≡◌, refl, sym, ap, ap₂, ◌∙◌, subst}
use mathlib.Core.Bool.{Bool, true, false}
use mathlib.Core.List.{List, [], ◌∷◌, ◌++◌}
use Prim.Native.Nat.{ℕ, zero, suc, ◌+◌, ◌*◌, ◌/◌, ◌%◌, ◌^◌, ◌<◌}
use native.Mathlib.Nat.{zero-add, suc-add, add-suc, add_comm, mod-lt, mod-eq_of_lt, zero-lt-suc, zero-div, zero-mul, one-mul, two-pow-succ}
use native.Mathlib.Omega.{arith}
use native.Mathlib.Numerals.{add-one, one-add}
use lib.ListN.{length, set}
use lib.Seq.{set_at}
use lib.Pow.{pow_pos, pow-add, shr-shr, field, mod-mod-pow, mod-pow-add, shr_lt, high, low, split}
use lib.Arith.{digits_lt}
use lib.Dec.{eqb}
use Rattle.meaning.specs.Bits.{odd, to_bits, zeros, bit, value}

-- The lowest bit depends on the number modulo 2 alone.
odd_same : (a b : ℕ) → a % 2 ≡ b % 2 → odd a ≡ odd b
unfolding odd
odd_same a b e = ap (λ (r : ℕ). eqb r 1) e

pub odd_mod : (n j : ℕ) → odd (n % 2 ^ suc j) ≡ odd n
odd_mod n j = odd_same (n % 2 ^ suc j) n (ap (λ (i : ℕ). n % 2 ^ i % 2) (sym (add-one j)) ∙ mod-mod-pow n j 1)

pub bit_odd : (n : ℕ) → bit (odd n) ≡ n % 2
unfolding odd
bit_odd n = go (n % 2) (mod-lt n (zero-lt-suc 1))
  where
    go : (r : ℕ) → r < 2 → bit (eqb r 1) ≡ r
    go zero h = refl
    go (suc zero) h = refl
    go (suc (suc r)) h = omega arith

pub odd_bit : (b : Bool) → odd (bit b) ≡ b
unfolding odd
odd_bit true = refl
odd_bit false = refl

pub length_to_bits : (k n : ℕ) → length (to_bits k n) ≡ k
unfolding to_bits
length_to_bits zero n = refl
length_to_bits (suc k) n = ap suc (length_to_bits k n)

pub to_bits_add : (m k n : ℕ) → to_bits (m + k) n ≡ to_bits m (n / 2 ^ k) ++ to_bits k n
unfolding to_bits
to_bits_add zero k n = ap (λ (j : ℕ). to_bits j n) (zero-add k)
to_bits_add (suc m) k n =
    ap (λ (j : ℕ). to_bits j n) (suc-add m k)
    ∙ ap₂ (λ (x : ℕ) (r : List Bool). odd x ∷ r) (ap (λ (j : ℕ). n / 2 ^ j) (add_comm m k) ∙ sym (shr-shr n k m)) (to_bits_add m k n)

-- The k low bits do not change when higher ones are cut off.
pub to_bits_low : (k j n : ℕ) → to_bits k (n % 2 ^ (j + k)) ≡ to_bits k n
unfolding to_bits
to_bits_low zero j n = refl
to_bits_low (suc k) j n =
    ap₂ (λ (b : Bool) (r : List Bool). b ∷ r)
    (ap (λ (i : ℕ). odd (n % 2 ^ i / 2 ^ k)) (add-suc j k ∙ sym (suc-add j k)) ∙ ap odd (field n (suc j) k) ∙ odd_mod (n / 2 ^ k) j)
    (ap (λ (i : ℕ). to_bits k (n % 2 ^ i)) (add-suc j k ∙ sym (suc-add j k)) ∙ to_bits_low k (suc j) n)

pub to_bits_mod : (k n : ℕ) → to_bits k (n % 2 ^ k) ≡ to_bits k n
to_bits_mod k n = ap (λ (i : ℕ). to_bits k (n % 2 ^ i)) (sym (zero-add k)) ∙ to_bits_low k 0 n

-- A number that is made of an upper part and k low bits.
pub to_bits_lower : (k hi lo : ℕ) → lo < 2 ^ k → to_bits k (hi * 2 ^ k + lo) ≡ to_bits k lo
to_bits_lower k hi lo h = sym (to_bits_mod k (hi * 2 ^ k + lo)) ∙ ap (to_bits k) (low hi k h)

-- One bit set: above it stand the m bits of `hi`, and below it the k bits of `lo`.
to_bits_parts : (m k hi lo : ℕ) (b : Bool) → lo < 2 ^ k
    → to_bits (m + suc k) ((2 * hi + bit b) * 2 ^ k + lo) ≡ to_bits m hi ++ (b ∷ to_bits k lo)
unfolding to_bits
to_bits_parts m k hi lo b h =
    let x : ℕ = (2 * hi + bit b) * 2 ^ k + lo in
    let up : x / 2 ^ k ≡ 2 * hi + bit b = high (2 * hi + bit b) k h in
    to_bits_add m (suc k) x
    ∙ ap₂ (λ (y : ℕ) (r : List Bool). to_bits m y ++ r)
    (ap (λ (i : ℕ). x / 2 ^ i) (sym (add-one k)) ∙ sym (shr-shr x k 1) ∙ ap (λ (y : ℕ). y / 2) up ∙ halved hi b)
    (ap₂ (λ (c : Bool) (r : List Bool). c ∷ r) (ap odd up ∙ lowest hi b) (to_bits_lower k (2 * hi + bit b) lo h))
  where
    halved : (n : ℕ) (c : Bool) → (2 * n + bit c) / 2 ≡ n
    halved n true = omega arith
    halved n false = omega arith

    rest : (n : ℕ) (c : Bool) → (2 * n + bit c) % 2 ≡ bit c % 2
    rest n true = omega arith
    rest n false = omega arith

    lowest : (n : ℕ) (c : Bool) → odd (2 * n + bit c) ≡ c
    lowest n c = odd_same (2 * n + bit c) (bit c) (rest n c) ∙ odd_bit c

-- The bit of the value 2^k replaced, in a number of m + 1 + k bits.
pub to_bits_put : (m k n : ℕ) (b : Bool)
    → to_bits (m + suc k) ((2 * (n / 2 ^ k / 2) + bit b) * 2 ^ k + n % 2 ^ k) ≡ set (to_bits (m + suc k) n) m b
to_bits_put m k n b =
    let hi : ℕ = n / 2 ^ k / 2 in
    let lo : ℕ = n % 2 ^ k in
    let was : Bool = odd (n / 2 ^ k) in
    let h : lo < 2 ^ k = mod-lt n (pow_pos k) in
    let e : 2 * hi + bit was ≡ n / 2 ^ k = omega (arith, bit_odd (n / 2 ^ k)) in
    to_bits_parts m k hi lo b h
    ∙ sym (set_at (to_bits m hi) was (to_bits k lo) b m (length_to_bits m hi))
    ∙ ap (λ (v : List Bool). set v m b) (sym (to_bits_parts m k hi lo was h))
    ∙ ap (λ (y : ℕ). set (to_bits (m + suc k) y) m b) (ap (λ (y : ℕ). y * 2 ^ k + lo) e ∙ split n k)

-- The number keeps its width.
pub put_below : (m k n : ℕ) (b : Bool) → n < 2 ^ (m + suc k) → (2 * (n / 2 ^ k / 2) + bit b) * 2 ^ k + n % 2 ^ k < 2 ^ (m + suc k)
put_below m k n b h =
    let e : suc m + k ≡ m + suc k = suc-add m k ∙ sym (add-suc m k) in
    let up : n / 2 ^ k < 2 ^ suc m = shr_lt (suc m) k (subst (λ (i : ℕ). n < 2 ^ i) (sym e) h) in
    subst (λ (z : ℕ). (2 * (n / 2 ^ k / 2) + bit b) * 2 ^ k + n % 2 ^ k < z)
    (sym (pow-add 2 (suc m) k) ∙ ap (λ (i : ℕ). 2 ^ i) e)
    (digits_lt
    (subst (λ (z : ℕ). 2 * (n / 2 ^ k / 2) + bit b < z) (sym (two-pow-succ m))
    (even_below b (n / 2 ^ k) (2 ^ m) (omega (arith, two-pow-succ m))))
    (mod-lt n (pow_pos k)))
  where
    even_below : (c : Bool) (x t : ℕ) → x < t + t → 2 * (x / 2) + bit c < t + t
    even_below true x t l = omega arith
    even_below false x t l = omega arith

-- No bit of 0 is set.
pub to_bits_zero : (k : ℕ) → to_bits k 0 ≡ zeros k
unfolding to_bits odd
to_bits_zero zero = refl
to_bits_zero (suc k) = ap₂ (λ (b : Bool) (r : List Bool). b ∷ r) (ap odd (zero-div (2 ^ k))) (to_bits_zero k)

pub value_below : (k : ℕ) (v : List Bool) → value k v < 2 ^ k
unfolding value
value_below zero v = omega arith
value_below (suc k) [] = pow_pos (suc k)
value_below (suc k) (true ∷ v) = omega (arith, value_below k v, two-pow-succ k, one-mul (2 ^ k))
value_below (suc k) (false ∷ v) = omega (arith, value_below k v, two-pow-succ k, zero-mul (2 ^ k))

pub value_to_bits : (k n : ℕ) → value k (to_bits k n) ≡ n % 2 ^ k
unfolding value to_bits
value_to_bits zero n = omega arith
value_to_bits (suc k) n =
    ap₂ (λ (x y : ℕ). x * 2 ^ k + y) (bit_odd (n / 2 ^ k)) (value_to_bits k n)
    ∙ sym (mod-pow-add n 1 k)
    ∙ ap (λ (i : ℕ). n % 2 ^ i) (one-add k)

pub to_bits_value : (k : ℕ) (v : List Bool) → length v ≡ k → to_bits k (value k v) ≡ v
unfolding value to_bits
to_bits_value zero [] h = refl
to_bits_value zero (b ∷ v) h = absurd (omega arith)
to_bits_value (suc k) [] h = absurd (omega arith)
to_bits_value (suc k) (b ∷ v) h =
    ap₂ (λ (c : Bool) (r : List Bool). c ∷ r)
    (ap odd (high (bit b) k (value_below k v)) ∙ odd_bit b)
    (to_bits_lower k (bit b) (value k v) (value_below k v) ∙ to_bits_value k v (omega arith))

pub to_bits_injective : (k a b : ℕ) → a < 2 ^ k → b < 2 ^ k → to_bits k a ≡ to_bits k b → a ≡ b
to_bits_injective k a b ha hb e =
    sym (mod-eq_of_lt ha) ∙ sym (value_to_bits k a) ∙ ap (value k) e ∙ value_to_bits k b ∙ mod-eq_of_lt hb
