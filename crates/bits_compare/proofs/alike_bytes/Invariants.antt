-- `bits_compare::alike_bytes` meets its contract. The loop's invariant: the bytes seen are alike, if it says so. Assumes nothing.
use Rattle.std.proofs.Common.{◌*◌, IsTrue}
use Rattle.meaning.specs.Bits.{bits_of}
use Rattle.bits_compare.specs.Alike.{Alike}
use Rattle.bits_compare.proofs.alike_bytes.Given as goal

abbrev pub invariant-loop-t : goal.invariant-loop-t
invariant-loop-t l = IsTrue l.alike → Alike (bits_of l.a) l.from (bits_of l.b) l.at (8 * l.n) (8 * l.t)
