-- `facts::first_bad` meets its contract. The loop's invariant: all is right below n, and the chains hold the nodes below n. Assumes nothing.
use Rattle.meaning.specs.Tables.{facts_in}
use Rattle.facts_classes.specs.Chains.{Chained}
use Rattle.facts.specs.Known.{Known}
use Rattle.facts.proofs.first_bad.Given as goal

abbrev pub invariant-loop-n : goal.invariant-loop-n
invariant-loop-n l = Known l.table-inside.columns (facts_in l.table-inside.groups.now) l.n × Chained l.table-inside.columns l.chains l.n
