-- `bits_bytes::copy_whole` meets its contract. The loop's invariant: the first bytes are filled. Assumes nothing.
use Rattle.std.proofs.Common.{◌≡◌, ◌*◌, take, drop}
use Rattle.meaning.specs.Bits.{bits_of}
use Rattle.bits_bytes.proofs.copy_whole.Given as goal

abbrev pub invariant-loop-t : goal.invariant-loop-t
invariant-loop-t l = bits_of (take l.t l.dst) ≡ take (8 * l.t) (drop l.from (bits_of l.src))
