-- `bits_compare::alike_bytes` meets its contract. The loop's invariant: the bytes seen are alike, if it says so. Assumes nothing.
use Rattle.std.proofs.Common.{◌≡◌, ◌∙◌, sym, ap, ◌+◌, ◌*◌, IsTrue, take, subst, arith, rules}
use Rattle.std.proofs.Math.Seq.{drop-drop}
use Rattle.meaning.specs.Bits.{bits_of, to_bits}
use Rattle.bits_compare.specs.Alike.{Alike}
use Rattle.bits_compare.proofs.Comparing.{alike_more}
use Rattle.bits_compare.proofs.alike_bytes.Goals as goal

pub loop-t-preserved : goal.loop-t-preserved
loop-t-preserved c told =
    let a = c.args in
    let l = c.loop-t in
    let so : IsTrue l.alike = search rules in
    let equal : c.byte_at.result ≡ c.byte_at-in-loop-t.result = search rules in
    let next : 8 * l.t + 8 ≡ 8 * (l.t + 1) = omega arith in
    subst (Alike (bits_of a.a.now) a.from (bits_of a.b.now) a.at (8 * a.n)) next
    (alike_more (bits_of a.a.now) a.from (bits_of a.b.now) a.at (8 * a.n) (8 * l.t) 8 (search rules) (l.invariant so)
    (ap (take 8) (sym (drop-drop (8 * l.t) a.from (bits_of a.a.now)))
    ∙ sym c.byte_at.ensures
    ∙ ap (to_bits 8) equal
    ∙ c.byte_at-in-loop-t.ensures
    ∙ ap (take 8) (drop-drop (8 * l.t) a.at (bits_of a.b.now))))
