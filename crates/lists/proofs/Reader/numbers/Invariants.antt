-- What is left is an end of the list at each turn.
use Rattle.lists.specs.Parts.{EndsWith}
use Rattle.lists.proofs.Reader.numbers.Given as goal

abbrev pub invariant-loop-value : goal.invariant-loop-value
invariant-loop-value l = EndsWith l.fn.self l.self
