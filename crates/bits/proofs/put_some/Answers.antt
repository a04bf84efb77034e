-- `bits::put_some` meets its contract: one byte changes, in the run's bits alone. Assumes nothing.
use mathlib.Core.Path.{◌≡◌, ap, ◌∙◌}
use Prim.Native.Nat.{ℕ, ◌+◌, ◌-◌, ◌*◌, ◌/◌, ◌%◌}
use native.Mathlib.Omega.{arith}
use lib.ListN.{get_or}
use lib.Seq.{paste}
use borrow.Author.Rules.{rules}
use Rattle.meaning.specs.Bits.{bits_of, to_bits}
use Rattle.bits.proofs.Stores.{set_part}
use Rattle.bits.proofs.put_some.Goals as goal

pub returns : goal.returns
returns c =
    let a = c.args in
    let within = c.requires.n_bound in
    let place : 8 - (a.n + (8 - a.at % 8 - a.n)) ≡ a.at % 8 = omega arith in
    let all : 8 * (a.at / 8) + a.at % 8 ≡ a.at = omega arith in
    set_part a.d.now (a.at / 8) (a.at % 8) a.n c.with_bits.result (to_bits a.n a.x) (search rules) within
    (c.with_bits.ensures
    ∙ ap (λ (j : ℕ). paste (to_bits 8 (get_or a.d.now (a.at / 8) 0)) j (to_bits a.n a.x) a.n) place)
    ∙ ap (λ (k : ℕ). paste (bits_of a.d.now) k (to_bits a.n a.x) a.n) all
