-- `words_segments::write_buffer` meets its contract. The loop's invariant: i segments are written, and what follows in the buffer are the
-- segments below them, holding the data that is left. Assumes nothing.
use Prim.Native.Nat.{◌+◌, ◌-◌, ◌≤◌}
use mathlib.Core.Path.{◌≡◌}
use lib.ListN.{length, drop}
use lib.Seq.{paste}
use Rattle.meaning.specs.Types.{bits}
use Rattle.meaning.specs.Bits.{bits_of}
use Rattle.meaning.specs.Words.{buffer, buffer_bits}
use Rattle.words_laws.proofs.Parts.{segments}
use Rattle.words_segments.proofs.write_buffer.Given as goal

abbrev pub invariant-loop-i : goal.invariant-loop-i
invariant-loop-i l =
    (length l.out ≡ length l.initial.out)
    × (l.i ≤ l.n + 1)
    × (l.done ≤ length l.held)
    × (l.at ≤ bits (buffer l.n))
    × (drop l.at (buffer_bits l.n l.held) ≡ segments (l.n + 1 - l.i) (drop l.done l.held))
    × (bits_of l.out ≡ paste (bits_of l.initial.out) 0 (buffer_bits l.n l.held) l.at)
