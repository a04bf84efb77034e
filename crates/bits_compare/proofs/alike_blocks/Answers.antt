-- `bits_compare::alike_blocks` meets its contract. The loop's invariant: the blocks passed are alike. Assumes nothing.
use Rattle.std.proofs.Common.{◌≡◌, ◌+◌, ◌*◌, true, subst, arith, rules}
use Rattle.meaning.specs.Bits.{bits_of}
use Rattle.bits_compare.specs.Alike.{Alike}
use Rattle.bits_compare.proofs.Comparing.{alike_more}
use Rattle.bits_compare.proofs.alike_blocks.Goals as goal
use Rattle.bits_compare.proofs.alike_blocks.Goals.{After-alike_bytes}

-- One more block is alike.
more : (c : After-alike_bytes) → c.alike_bytes.result ≡ true →
    let a = c.args in
    Alike (bits_of a.a.now) a.from (bits_of a.b.now) a.at a.n (c.loop-alike.alike + 8 * a.block)
more c told =
    let a = c.args in
    let l = c.loop-alike in
    alike_more (bits_of a.a.now) a.from (bits_of a.b.now) a.at a.n l.alike (8 * a.block) (omega (arith, l.invariant.counted)) l.invariant
    (search rules)

pub loop-alike-preserved : goal.loop-alike-preserved
loop-alike-preserved c =
    more (goal.at.loop-alike-preserved c).After-alike_bytes c.if-not-alike_bytes.false

pub returns-else-not-alike_bytes : goal.returns-else-not-alike_bytes
returns-else-not-alike_bytes c =
    let a = c.args in
    let all : c.loop-alike.alike + 8 * a.block ≡ a.n = omega (arith, c.loop-alike.invariant.counted) in
    subst (Alike (bits_of a.a.now) a.from (bits_of a.b.now) a.at a.n) all
    (more (goal.at.returns-else-not-alike_bytes c).After-alike_bytes c.if-not-alike_bytes.false)
