-- `bits_compare::alike_blocks` meets its contract. The loop's invariant: the blocks passed are alike. Assumes nothing.
use Rattle.std.proofs.Common.{◌-◌}
use Rattle.meaning.specs.Bits.{bits_of}
use Rattle.bits_compare.specs.Alike.{Alike}
use Rattle.bits_compare.proofs.alike_blocks.Given as goal

abbrev pub invariant-loop-alike : goal.invariant-loop-alike
invariant-loop-alike l = Alike (bits_of l.a) l.from (bits_of l.b) l.at l.n l.alike

abbrev pub decreases-loop-alike : goal.decreases-loop-alike
decreases-loop-alike l = l.n - l.alike
