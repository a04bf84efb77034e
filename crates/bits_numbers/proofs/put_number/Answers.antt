-- `bits_numbers::put_number` meets its contract. Assumes nothing.
use Rattle.std.proofs.Common.{◌≡◌, ◌∙◌, sym, ap, ℕ, ◌+◌, ◌-◌, ◌*◌, ◌/◌, ◌%◌, ◌^◌, length, arith, rules}
use Rattle.meaning.specs.Bits.{bits_of, to_bits}
use Rattle.bits.proofs.Numbers.{length_to_bits}
use Rattle.bits.proofs.Parts.{to_bits_byte, to_bits_part}
use Rattle.bits_numbers.proofs.put_number.Goals as goal

pub returns : goal.returns
returns c =
    let a = c.args in
    c.write_bits.ensures (to_bits a.n a.x) (omega (arith, length_to_bits a.n a.x))
    (λ i k x some small inside given.
    let is : x ≡ a.x / 2 ^ (a.n - i - k) % 256 = search rules in
    let rest : a.n - i - k ≡ a.n - (i + k) = omega arith in
    ap (to_bits k) is
    ∙ to_bits_byte k (a.x / 2 ^ (a.n - i - k)) small
    ∙ ap (λ (j : ℕ). to_bits k (a.x / 2 ^ j)) rest
    ∙ sym (to_bits_part a.n i k a.x inside))
    (λ i bytes filled later inside given.
    let k : ℕ = 8 * length bytes.now in
    let is : bits_of filled.now ≡ to_bits k (a.x / 2 ^ (a.n - i - k)) = search rules in
    let rest : a.n - i - k ≡ a.n - (i + k) = omega arith in
    is ∙ ap (λ (j : ℕ). to_bits k (a.x / 2 ^ j)) rest ∙ sym (to_bits_part a.n i k a.x inside))
