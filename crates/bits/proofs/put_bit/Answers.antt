-- `bits::put_bit` meets its contract: one byte changes, by one bit. Assumes nothing.
use mathlib.Core.Path.{◌≡◌, ap, ◌∙◌}
use Prim.Native.Nat.{ℕ, ◌-◌, ◌/◌, ◌%◌}
use native.Mathlib.Omega.{arith}
use lib.ListN.{set, get_or}
use Rattle.meaning.specs.Bits.{to_bits}
use Rattle.bits.proofs.OfBytes.{set_bits_of}
use Rattle.bits.proofs.put_bit.Goals as goal

pub returns : goal.returns
returns c =
    let a = c.args in
    let k : 7 - (7 - a.at % 8) ≡ a.at % 8 = omega arith in
    set_bits_of a.d.now a.at c.with_bit.result a.b c.requires
    (c.with_bit.ensures ∙ ap (λ (j : ℕ). set (to_bits 8 (get_or a.d.now (a.at / 8) 0)) j a.b) k)
