-- The bits of bytes that are filled.
--
--   bits_of_number      the lowest bytes of a number, the top one first
--   bits_of_more        one more byte filled, with the next eight bits of v
use Rattle.std.proofs.Common.{◌≡◌, ◌∙◌, refl, sym, ap, ap₂, ℕ, zero, suc, ◌+◌, ◌*◌, ◌/◌, ◌^◌, ◌<◌, List, [], ◌∷◌, ◌++◌, Bool, append-nil, length, set, take, drop, arith}
use Rattle.std.specs.Int.{byte_at, bytes_high_first}
use Rattle.std.proofs.lemmas.List.{take_more_set}
use Rattle.std.proofs.Math.Nat.{pow-suc}
use Rattle.std.proofs.Math.Pow.{pow-add}
use Rattle.std.proofs.Math.Seq.{take-add}
use Rattle.meaning.specs.Bits.{to_bits, bits_of}
use Rattle.bits.proofs.Numbers.{to_bits_add}
use Rattle.bits.proofs.OfBytes.{bits_of_append}
use Rattle.bits.proofs.Parts.{to_bits_byte}

power : (k : ℕ) → 256 ^ k ≡ 2 ^ (8 * k)
power zero = refl
power (suc k) =
    let more : 8 * k + 8 ≡ 8 * suc k = omega arith in
    pow-suc 256 k ∙ ap (λ (n : ℕ). n * 256) (power k) ∙ sym (pow-add 2 (8 * k) 8) ∙ ap (λ (i : ℕ). 2 ^ i) more

byte_bits : (k x : ℕ) → to_bits 8 (byte_at k x) ≡ to_bits 8 (x / 2 ^ (8 * k))
byte_bits zero x = to_bits_byte 8 x (omega arith) ∙ ap (to_bits 8) (omega arith)
byte_bits (suc k) x =
    to_bits_byte 8 (x / 256 ^ suc k) (omega arith) ∙ ap (λ (n : ℕ). to_bits 8 (x / n)) (power (suc k))

pub bits_of_number : (k x : ℕ) → bits_of (bytes_high_first k x) ≡ to_bits (8 * k) x
unfolding bits_of to_bits
bits_of_number zero x = refl
bits_of_number (suc k) x =
    let more : 8 + 8 * k ≡ 8 * suc k = omega arith in
    ap₂ (λ (p q : List Bool). p ++ q) (byte_bits k x) (bits_of_number k x)
    ∙ sym (to_bits_add 8 (8 * k) x)
    ∙ ap (λ (n : ℕ). to_bits n x) more

pub bits_of_more : (d : List ℕ) (t x : ℕ) (v : List Bool) → t < length d → bits_of (take t d) ≡ take (8 * t) v
    → to_bits 8 x ≡ take 8 (drop (8 * t) v)
    → bits_of (take (t + 1) (set d t x)) ≡ take (8 * (t + 1)) v
unfolding bits_of
bits_of_more d t x v h filled next =
    let more : 8 * t + 8 ≡ 8 * (t + 1) = omega arith in
    ap bits_of (take_more_set d t x h)
    ∙ bits_of_append (take t d) (x ∷ [])
    ∙ ap₂ (λ (p q : List Bool). p ++ q) filled (append-nil (to_bits 8 x) ∙ next)
    ∙ sym (take-add (8 * t) 8 v)
    ∙ ap (λ (n : ℕ). take n v) more
