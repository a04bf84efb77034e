-- `bits_runs::copy_bits` meets its contract. Assumes nothing.
use Rattle.std.proofs.Common.{◌≡◌, ◌∙◌, sym, ap, ◌+◌, ◌*◌, length, take, drop, length-drop, arith, rules}
use Rattle.std.proofs.Math.Seq.{drop-drop}
use Rattle.meaning.specs.Bits.{bits_of, to_bits}
use Rattle.bits.proofs.OfBytes.{length_bits_of}
use Rattle.bits_runs.proofs.copy_bits.Goals as goal

pub returns : goal.returns
returns c =
    let a = c.args in
    let bits = bits_of a.src.now in
    c.write_bits.ensures (drop a.from bits) (omega (arith, length-drop a.from bits, length_bits_of a.src.now))
    (λ i k x some small inside given.
    let read : to_bits k x ≡ take k (drop (a.from + i) bits) = search rules in
    read ∙ ap (take k) (sym (drop-drop i a.from bits)))
    (λ i bytes filled later inside given.
    let read : bits_of filled.now ≡ take (8 * length bytes.now) (drop (a.from + i) bits) = search rules in
    read ∙ ap (take (8 * length bytes.now)) (sym (drop-drop i a.from bits)))
