-- `facts::fill` meets its contract. The loop's invariant: the groups are filled below n, and the chains hold the nodes below n. Assumes nothing.
use Rattle.std.proofs.Common.{◌≡◌}
use Rattle.meaning.specs.TypeCalls.{groups_written}
use Rattle.facts_classes.specs.Chains.{Chained}
use Rattle.facts.proofs.fill.Given as goal

abbrev pub invariant-loop-n : goal.invariant-loop-n
invariant-loop-n l = (l.groups ≡ groups_written l.columns l.n l.initial.groups) × Chained l.columns l.chains l.n
