-- `shapes::is_buffer` meets its contract. The loop's invariant: the question at this node is the one that was asked. Assumes nothing.
use Prim.Native.Nat.{◌-◌, ◌<◌}
use mathlib.Core.Path.{◌≡◌}
use Rattle.meaning.specs.Types.{same}
use Rattle.meaning.specs.Tables.{ty_at}
use Rattle.meaning.specs.Words.{buffer}
use Rattle.shapes.proofs.is_buffer.Given as goal

abbrev pub invariant-loop-passed : goal.invariant-loop-passed
invariant-loop-passed l =
    (l.at < l.table.count) × (same (ty_at l.table.columns l.node) (buffer l.n) ≡ same (ty_at l.table.columns l.at) (buffer (l.n - l.passed)))
