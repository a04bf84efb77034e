-- `bits::bits_at` meets its contract: the byte that starts at the run, shifted down to the run's length. Assumes nothing.
use mathlib.Core.Path.{◌≡◌, refl, sym, ap, ◌∙◌, subst}
use Prim.Native.Nat.{ℕ}
use native.Mathlib.Omega.{arith}
use lib.ListN.{take, drop}
use lib.Pow.{pow_pos}
use lib.Seq.{take-take}
use borrow.Author.Rules.{rules}
use Rattle.meaning.specs.Bits.{bits_of, to_bits}
use Rattle.bits.proofs.Parts.{to_bits_top, top_below, two_bytes}
use Rattle.bits.proofs.bits_at.Goals as goal

pub returns-then-n-eq0 : goal.returns-then-n-eq0
unfolding to_bits
returns-then-n-eq0 c =
    let a = c.args in
    let none : 0 ≡ a.n = omega arith in record { result_value = subst (λ (k : ℕ). to_bits k 0 ≡ take k (drop a.at (bits_of a.s.now))) none refl; upper_bound = pow_pos a.n }

pub returns : goal.returns
returns c =
    let a = c.args in
    let short = c.requires.n_bound in record {
      result_value = to_bits_top a.n c.straddling.result short
          ∙ ap (take a.n) (c.straddling.ensures ∙ sym (two_bytes a.s.now a.at (search rules)))
          ∙ take-take a.n 8 (drop a.at (bits_of a.s.now)) short;
      upper_bound = top_below a.n c.straddling.result short (search rules);
    }
