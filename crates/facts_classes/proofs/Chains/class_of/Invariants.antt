-- `facts_classes::Chains::class_of` meets its contract. The loop's invariant: no node with the key lies between n and m, where the walk stands. The
-- measure is m, since chains fall. Assumes nothing.
use Rattle.tables.specs.Kinds.{kind_no}
use Rattle.facts_classes.proofs.Linking.{Along}
use Rattle.facts_classes.proofs.Chains.class_of.Given as goal

abbrev pub invariant-loop-m : goal.invariant-loop-m
invariant-loop-m l = Along l.columns (kind_no l.key.kind) l.key.left l.key.right l.n l.m

abbrev pub decreases-loop-m : goal.decreases-loop-m
decreases-loop-m l = l.m
