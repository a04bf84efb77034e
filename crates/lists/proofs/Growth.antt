-- A number that grows by a byte at its end.
use Rattle.std.proofs.Common.{ℕ, ◌≡◌, ◌<◌, ◌≤◌, ◌+◌, ◌*◌, ◌^◌, List, length, take, get_or, ap, ◌∙◌, arith}
use Rattle.std.proofs.lemmas.List.Sums.{fold_more}
use Rattle.std.proofs.lemmas.Nat.{pow-add}
use Rattle.std.proofs.Math.Nat.{pow-le-pow_right}
use Rattle.lists.specs.Parts.{number_of}

-- It is the number of one byte more.
pub one_more : (bytes : List ℕ) (i : ℕ) → i < length bytes
    → number_of (take (i + 1) bytes) ≡ number_of (take i bytes) * 256 + get_or bytes i 0
one_more bytes i inside = fold_more (λ number byte. number * 256 + byte) 0 bytes i 0 inside

-- It stays below what so many bytes can make.
pub grows : (number byte i : ℕ) → number < 2 ^ (8 * i) → byte < 256 → number * 256 + byte < 2 ^ (8 * (i + 1))
grows number byte i below small =
    let bits : 8 * (i + 1) ≡ 8 * i + 8 = omega arith in
    let power : 2 ^ (8 * (i + 1)) ≡ 2 ^ (8 * i) * 256 = ap (λ bits. 2 ^ bits) bits ∙ pow-add 2 (8 * i) 8 in
    omega (arith, power, below, small)

-- Of at most eight bytes it is a number of 64 bits.
pub fits : (number byte i : ℕ) → number < 2 ^ (8 * i) → byte < 256 → i < 8 → number * 256 + byte < 2 ^ 64
fits number byte i below small few =
    let bits : 8 * (i + 1) ≤ 64 = omega (arith, few) in
    let bound : 2 ^ (8 * (i + 1)) ≤ 2 ^ 64 = pow-le-pow_right (omega arith) bits in
    omega (arith, grows number byte i below small, bound)
