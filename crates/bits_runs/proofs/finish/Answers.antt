-- `bits_runs::finish` meets its contract: what is cleared is the rest of the byte that bit w lies in, or nothing. Assumes nothing.
use mathlib.Core.Path.{◌≡◌, ap, ◌∙◌}
use mathlib.Core.Bool.{Bool}
use mathlib.Core.List.{List}
use Prim.Native.Nat.{ℕ, ◌-◌, ◌*◌, ◌%◌}
use native.Mathlib.Omega.{arith}
use lib.Seq.{paste}
use Rattle.meaning.specs.Bits.{bits_of, zeros, room}
use Rattle.bits.proofs.Numbers.{to_bits_zero}
use Rattle.bits_runs.proofs.finish.Goals as goal

pub returns-then-used-ne0 : goal.returns-then-used-ne0
returns-then-used-ne0 c =
    let a = c.args in
    let e : 8 - a.w % 8 ≡ 8 * room a.w - a.w = omega arith in
    c.put_some.ensures
    ∙ ap (λ (v : List Bool). paste (bits_of a.out.now) a.w v (8 - a.w % 8)) (to_bits_zero (8 - a.w % 8))
    ∙ ap (λ (k : ℕ). paste (bits_of a.out.now) a.w (zeros k) k) e
