-- `bits::byte_at` meets its contract: at a byte's border it is that byte, and elsewhere it comes from two. Assumes nothing.
use Rattle.std.proofs.Common.{◌≡◌, ◌∙◌, sym, ap, ℕ, ◌+◌, ◌*◌, ◌/◌, take, drop, arith, rules}
use Rattle.std.proofs.Math.Seq.{drop-drop}
use Rattle.meaning.specs.Bits.{bits_of}
use Rattle.bits.proofs.OfBytes.{byte_bits}
use Rattle.bits.proofs.Parts.{two_bytes_after}
use Rattle.bits.proofs.byte_at.Goals as goal

pub returns-then-skip-eq0 : goal.returns-then-skip-eq0
returns-then-skip-eq0 c =
    let a = c.args in
    let place : 8 * (a.from / 8 + a.t) ≡ a.from + 8 * a.t = omega arith in
    sym (byte_bits a.s.now (a.from / 8 + a.t) (search rules))
    ∙ ap (λ (i : ℕ). take 8 (drop i (bits_of a.s.now))) place
    ∙ ap (take 8) (sym (drop-drop (8 * a.t) a.from (bits_of a.s.now)))

pub returns : goal.returns
returns c =
    let a = c.args in c.straddling.ensures ∙ two_bytes_after a.s.now a.from a.t (search rules)
