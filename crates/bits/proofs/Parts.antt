-- Bits in parts: those of a number that is put together, and those of a run that lies in one byte or in two neighbouring ones.
--
--   to_bits_join                      an upper number, then k low bits
--   take_to_bits drop_to_bits         the m upper bits, and the k lower ones
--   take_own                          all of them
--   to_bits_byte                      the bits of a number's lowest byte
--   to_bits_part zeros_part           m bits from bit i on
--   to_bits_replaced replaced_below   the n bits above the k lowest ones replaced
--   shl_cut                           what a shift up leaves of a number of m + k bits
--   to_bits_shifted shifted_below     a number that is shifted up, with k low bits put after it
--   to_bits_top top_below             the n upper bits of a byte
--   byte_part byte_shifted            a run within one byte
--   two_bytes                         eight bits from anywhere in a byte on, which end in the next
--   byte_after two_bytes_after        the same, t bytes further on
use mathlib.Core.Path.{◌≡◌, sym, ap, ap₂, ◌∙◌, subst}
use mathlib.Core.Bool.{Bool}
use mathlib.Core.List.{List, ◌++◌}
use Prim.Native.Nat.{ℕ, ◌+◌, ◌-◌, ◌*◌, ◌/◌, ◌%◌, ◌^◌, ◌≤◌, ◌<◌}
use native.Mathlib.Nat.{add-zero, add_assoc, mod-lt, mul-mod_left, zero-div, div-one, le_of_eq}
use native.Mathlib.Omega.{arith}
use lib.ListN.{length, get_or, take, drop}
use lib.Seq.{paste, take_all, take_at, drop_at, take-add, take-append-le, drop-drop}
use lib.Pow.{pow_pos, pow-add, mod-pow-add, shl-shr, shr_lt, high}
use lib.Arith.{digits_lt}
use Rattle.meaning.specs.Bits.{to_bits, bits_of, zeros}
use Rattle.bits.proofs.Numbers.{length_to_bits, to_bits_add, to_bits_low, to_bits_mod, to_bits_lower, to_bits_zero}
use Rattle.bits.proofs.OfBytes.{byte_bits}
use Rattle.bits.proofs.Runs.{sub_run}

pub to_bits_join : (m k hi lo : ℕ) → lo < 2 ^ k → to_bits (m + k) (hi * 2 ^ k + lo) ≡ to_bits m hi ++ to_bits k lo
to_bits_join m k hi lo h =
    to_bits_add m k (hi * 2 ^ k + lo) ∙ ap₂ (λ (x : ℕ) (r : List Bool). to_bits m x ++ r) (high hi k h) (to_bits_lower k hi lo h)

pub take_to_bits : (m k n : ℕ) → take m (to_bits (m + k) n) ≡ to_bits m (n / 2 ^ k)
take_to_bits m k n =
    ap (take m) (to_bits_add m k n) ∙ take_at (to_bits m (n / 2 ^ k)) (to_bits k n) m (length_to_bits m (n / 2 ^ k))

pub drop_to_bits : (m k n : ℕ) → drop m (to_bits (m + k) n) ≡ to_bits k n
drop_to_bits m k n =
    ap (drop m) (to_bits_add m k n) ∙ drop_at (to_bits m (n / 2 ^ k)) (to_bits k n) m (length_to_bits m (n / 2 ^ k))

pub take_own : (m n : ℕ) → take m (to_bits m n) ≡ to_bits m n
take_own m n = take_all m (to_bits m n) (le_of_eq (length_to_bits m n))

pub to_bits_byte : (k n : ℕ) → k ≤ 8 → to_bits k (n % 256) ≡ to_bits k n
to_bits_byte k n h =
    let e : 8 ≡ 8 - k + k = omega arith in
    ap (λ (i : ℕ). to_bits k (n % 2 ^ i)) e ∙ to_bits_low k (8 - k) n

pub to_bits_part : (n i m x : ℕ) → i + m ≤ n → take m (drop i (to_bits n x)) ≡ to_bits m (x / 2 ^ (n - (i + m)))
to_bits_part n i m x h =
    let rest : ℕ = n - (i + m) in
    let e : n ≡ i + (m + rest) = omega arith in
    ap (λ (k : ℕ). take m (drop i (to_bits k x))) e ∙ ap (take m) (drop_to_bits i (m + rest) x) ∙ take_to_bits m rest x

pub zeros_part : (n i m : ℕ) → i + m ≤ n → take m (drop i (zeros n)) ≡ to_bits m 0
zeros_part n i m h =
    ap (λ (v : List Bool). take m (drop i v)) (sym (to_bits_zero n))
    ∙ to_bits_part n i m 0 h
    ∙ ap (to_bits m) (zero-div (2 ^ (n - (i + m))))

module _ (m n k old x : ℕ) where
  pub to_bits_replaced : to_bits (m + n + k) ((old / 2 ^ (n + k) * 2 ^ n + x % 2 ^ n) * 2 ^ k + old % 2 ^ k)
      ≡ paste (to_bits (m + n + k) old) m (to_bits n x) n
  to_bits_replaced =
      let upper : ℕ = old / 2 ^ (n + k) in
      to_bits_join (m + n) k (upper * 2 ^ n + x % 2 ^ n) (old % 2 ^ k) (mod-lt old (pow_pos k))
      ∙ ap₂ (λ (p q : List Bool). p ++ q)
      (to_bits_join m n upper (x % 2 ^ n) (mod-lt x (pow_pos n))
      ∙ ap₂ (λ (p q : List Bool). p ++ q)
      (sym (ap (λ (i : ℕ). take m (to_bits i old)) (add_assoc m n k) ∙ take_to_bits m (n + k) old))
      (to_bits_mod n x ∙ sym (take_own n x)))
      (to_bits_mod k old ∙ sym (drop_to_bits (m + n) k old))

  pub upper_below : old < 2 ^ (m + n + k) → old / 2 ^ (n + k) < 2 ^ m
  upper_below h = shr_lt m (n + k) (subst (λ (i : ℕ). old < 2 ^ i) (add_assoc m n k) h)

  pub joined_below : old < 2 ^ (m + n + k) → old / 2 ^ (n + k) * 2 ^ n + x % 2 ^ n < 2 ^ (m + n)
  joined_below h =
      subst (λ (y : ℕ). old / 2 ^ (n + k) * 2 ^ n + x % 2 ^ n < y) (sym (pow-add 2 m n))
      (digits_lt (upper_below h) (mod-lt x (pow_pos n)))

  pub replaced_below : old < 2 ^ (m + n + k)
      → (old / 2 ^ (n + k) * 2 ^ n + x % 2 ^ n) * 2 ^ k + old % 2 ^ k < 2 ^ (m + n + k)
  replaced_below h =
      subst (λ (y : ℕ). (old / 2 ^ (n + k) * 2 ^ n + x % 2 ^ n) * 2 ^ k + old % 2 ^ k < y) (sym (pow-add 2 (m + n) k))
      (digits_lt (joined_below h) (mod-lt old (pow_pos k)))

pub shl_cut : (a m k : ℕ) → a * 2 ^ k % 2 ^ (m + k) ≡ a % 2 ^ m * 2 ^ k
shl_cut a m k =
    mod-pow-add (a * 2 ^ k) m k
    ∙ ap₂ (λ (x y : ℕ). x % 2 ^ m * 2 ^ k + y) (shl-shr a k) (mul-mod_left a (2 ^ k))
    ∙ add-zero (a % 2 ^ m * 2 ^ k)

module _ (m k a lo : ℕ) (h : lo < 2 ^ k) where
  pub to_bits_shifted : to_bits (m + k) (a * 2 ^ k % 2 ^ (m + k) + lo) ≡ to_bits m a ++ to_bits k lo
  to_bits_shifted =
      ap (λ (x : ℕ). to_bits (m + k) (x + lo)) (shl_cut a m k)
      ∙ to_bits_join m k (a % 2 ^ m) lo h
      ∙ ap (λ (r : List Bool). r ++ to_bits k lo) (to_bits_mod m a)

  pub shifted_below : a * 2 ^ k % 2 ^ (m + k) + lo < 2 ^ (m + k)
  shifted_below =
      subst (λ (x : ℕ). x + lo < 2 ^ (m + k)) (sym (shl_cut a m k))
      (subst (λ (x : ℕ). a % 2 ^ m * 2 ^ k + lo < x) (sym (pow-add 2 m k)) (digits_lt (mod-lt a (pow_pos m)) h))

pub to_bits_top : (n w : ℕ) → n ≤ 8 → to_bits n (w / 2 ^ (8 - n)) ≡ take n (to_bits 8 w)
to_bits_top n w h =
    let e : n + (8 - n) ≡ 8 = omega arith in
    sym (take_to_bits n (8 - n) w) ∙ ap (λ (k : ℕ). take n (to_bits k w)) e

pub top_below : (n w : ℕ) → n ≤ 8 → w < 256 → w / 2 ^ (8 - n) < 2 ^ n
top_below n w h l =
    let e : 8 ≡ n + (8 - n) = omega arith in
    shr_lt n (8 - n) (subst (λ (k : ℕ). w < 2 ^ k) e l)

pub byte_part : (s : List ℕ) (at n : ℕ) → at % 8 + n ≤ 8 → at / 8 < length s
    → take n (drop at (bits_of s)) ≡ to_bits n (get_or s (at / 8) 0 / 2 ^ (8 - (at % 8 + n)))
byte_part s at n h l =
    let e : at ≡ 8 * (at / 8) + at % 8 = omega arith in
    ap (λ (k : ℕ). take n (drop k (bits_of s))) e
    ∙ sym (sub_run (bits_of s) (8 * (at / 8)) 8 (at % 8) n h)
    ∙ ap (λ (r : List Bool). take n (drop (at % 8) r)) (byte_bits s (at / 8) l)
    ∙ to_bits_part 8 (at % 8) n (get_or s (at / 8) 0) h

-- The same by shifts: what precedes the run is shifted out at the top, and what follows it at the bottom.
pub byte_shifted : (s : List ℕ) (at n : ℕ) → at % 8 + n ≤ 8 → at / 8 < length s
    → to_bits n (get_or s (at / 8) 0 * 2 ^ (at % 8) % 256 / 2 ^ (8 - n)) ≡ take n (drop at (bits_of s))
byte_shifted s at n h l =
    let b : ℕ = get_or s (at / 8) 0 in
    let m : ℕ = 8 - at % 8 in
    let rest : ℕ = 8 - (at % 8 + n) in
    let w : m + at % 8 ≡ 8 = omega arith in
    let f : m ≡ n + rest = omega arith in
    to_bits_top n (b * 2 ^ (at % 8) % 256) (omega arith)
    ∙ ap (take n)
    (ap (to_bits 8) (sym (add-zero (b * 2 ^ (at % 8) % 256)))
    ∙ subst (λ (k : ℕ). to_bits k (b * 2 ^ (at % 8) % 2 ^ k + 0) ≡ to_bits m b ++ to_bits (at % 8) 0) w
    (to_bits_shifted m (at % 8) b 0 (pow_pos (at % 8))))
    ∙ take-append-le n (to_bits m b) (to_bits (at % 8) 0) (omega (arith, length_to_bits m b))
    ∙ ap (λ (k : ℕ). take n (to_bits k b)) f
    ∙ take_to_bits n rest b
    ∙ sym (byte_part s at n h l)

pub two_bytes : (s : List ℕ) (at : ℕ) → at / 8 + 1 < length s
    → take 8 (drop at (bits_of s))
    ≡ to_bits (8 - at % 8) (get_or s (at / 8) 0) ++ to_bits (at % 8) (get_or s (at / 8 + 1) 0 / 2 ^ (8 - at % 8))
two_bytes s at h =
    let skip : ℕ = at % 8 in
    let m : ℕ = 8 - at % 8 in
    let w : 8 ≡ m + skip = omega arith in
    let none : 8 - (at % 8 + m) ≡ 0 = omega arith in
    let index : (at + m) / 8 ≡ at / 8 + 1 = omega arith in
    let left : 8 - ((at + m) % 8 + skip) ≡ m = omega arith in
    ap (λ (k : ℕ). take k (drop at (bits_of s))) w
    ∙ take-add m skip (drop at (bits_of s))
    ∙ ap₂ (λ (p q : List Bool). p ++ q)
    (byte_part s at m (omega arith) (omega arith)
    ∙ ap (λ (k : ℕ). to_bits m (get_or s (at / 8) 0 / 2 ^ k)) none
    ∙ ap (to_bits m) (div-one (get_or s (at / 8) 0)))
    (ap (take skip) (drop-drop m at (bits_of s))
    ∙ byte_part s (at + m) skip (omega arith) (omega arith)
    ∙ ap₂ (λ (i k : ℕ). to_bits skip (get_or s i 0 / 2 ^ k)) index left)

pub byte_after : (s : List ℕ) (i t : ℕ) → i + t < length s → to_bits 8 (get_or s (i + t) 0) ≡ take 8 (drop (8 * t) (drop (8 * i) (bits_of s)))
byte_after s i t h =
    let e : 8 * (i + t) ≡ 8 * i + 8 * t = omega arith in
    sym (byte_bits s (i + t) h)
    ∙ ap (take 8) (ap (λ (k : ℕ). drop k (bits_of s)) e ∙ sym (drop-drop (8 * t) (8 * i) (bits_of s)))

pub two_bytes_after : (s : List ℕ) (at t : ℕ) → at / 8 + t + 1 < length s
    → to_bits (8 - at % 8) (get_or s (at / 8 + t) 0) ++ to_bits (at % 8) (get_or s (at / 8 + t + 1) 0 / 2 ^ (8 - at % 8))
    ≡ take 8 (drop (8 * t) (drop at (bits_of s)))
two_bytes_after s at t h =
    let index : (at + 8 * t) / 8 ≡ at / 8 + t = omega arith in
    let skip : (at + 8 * t) % 8 ≡ at % 8 = omega arith in
    ap₂ (λ (i k : ℕ). to_bits (8 - k) (get_or s i 0) ++ to_bits k (get_or s (i + 1) 0 / 2 ^ (8 - k))) (sym index) (sym skip)
    ∙ sym (two_bytes s (at + 8 * t) (omega arith))
    ∙ ap (take 8) (sym (drop-drop (8 * t) at (bits_of s)))
