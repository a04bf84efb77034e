-- `facts_entries::first_bad_entry` meets its contract. The loop's invariant: the entries below k are right. Assumes nothing.
use Rattle.std.proofs.Common.{ℕ, ◌≡◌, ◌<◌, true}
use Rattle.meaning.specs.Tables.{entry_right}
use Rattle.facts_entries.proofs.first_bad_entry.Given as goal

abbrev pub invariant-loop-k : goal.invariant-loop-k
invariant-loop-k l = (j : ℕ) → j < l.k → entry_right l.columns j ≡ true
