-- `shapes::is_word` meets its contract. The loop's invariant: the question at this node is the one that was asked. Assumes nothing.
use Prim.Native.Nat.{◌-◌, ◌<◌}
use mathlib.Core.Path.{◌≡◌}
use Rattle.meaning.specs.Tables.{ty_at}
use Rattle.meaning.specs.Words.{is_word}
use Rattle.shapes.proofs.is_word.Given as goal

abbrev pub invariant-loop : goal.invariant-loop
invariant-loop l =
    (l.at < l.table.count) × (is_word l.n (ty_at l.table.columns l.node) ≡ is_word (l.n - l.counter) (ty_at l.table.columns l.at))
