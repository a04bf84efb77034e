-- `bits_runs::clear_bits` meets its contract. Assumes nothing.
use Rattle.std.proofs.Common.{◌≡◌, ◌∙◌, sym, ap, ◌*◌, length, replicate, false, arith, rules}
use Rattle.std.proofs.lemmas.List.{length-replicate}
use Rattle.meaning.specs.Bits.{bits_of, to_bits, zeros}
use Rattle.bits.proofs.Numbers.{to_bits_zero}
use Rattle.bits.proofs.OfBytes.{bits_of_zeros}
use Rattle.bits.proofs.Parts.{zeros_part}
use Rattle.bits_runs.proofs.clear_bits.Goals as goal

pub returns : goal.returns
returns c =
    let a = c.args in
    c.write_bits.ensures (zeros a.n) (omega (arith, length-replicate a.n false))
    (λ i k x some small inside given.
    let none : x ≡ 0 = search rules in
    ap (to_bits k) none ∙ sym (zeros_part a.n i k inside))
    (λ i bytes filled later inside given.
    let k = length bytes.now in
    let none : filled.now ≡ replicate k 0 = search rules in
    ap bits_of none ∙ bits_of_zeros k ∙ sym (to_bits_zero (8 * k)) ∙ sym (zeros_part a.n i (8 * k) inside))
