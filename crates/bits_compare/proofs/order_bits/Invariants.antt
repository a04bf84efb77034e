-- `bits_compare::order_bits` meets its contract. The loop's invariant: the bits passed are alike. Assumes nothing.
use Rattle.std.proofs.Common.{◌-◌, min}
use Rattle.meaning.specs.Bits.{bits_of}
use Rattle.bits_compare.specs.Alike.{Alike}
use Rattle.bits_compare.proofs.order_bits.Given as goal

abbrev pub invariant-loop-same : goal.invariant-loop-same
invariant-loop-same l = Alike (bits_of l.a) l.from (bits_of l.b) l.at l.n (min l.same l.n)

abbrev pub decreases-loop-same : goal.decreases-loop-same
decreases-loop-same l = l.n - l.same
