-- `bits_bytes::copy_whole` meets its contract. The loop's invariant: the first bytes are filled. Assumes nothing.
use Rattle.std.proofs.Common.{refl, drop, rules}
use Rattle.meaning.specs.Bits.{bits_of}
use Rattle.bits_bytes.proofs.Filled.{bits_of_more}
use Rattle.bits_bytes.proofs.copy_whole.Goals as goal

pub loop-t-init : goal.loop-t-init
unfolding bits_of
loop-t-init c = refl

pub loop-t-preserved : goal.loop-t-preserved
loop-t-preserved c =
    let a = c.args in
    let l = c.loop-t in
    bits_of_more l.dst l.t c.byte_at.result (drop a.from (bits_of a.src.now)) (search rules) l.invariant c.byte_at.ensures
