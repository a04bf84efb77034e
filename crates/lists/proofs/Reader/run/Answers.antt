-- What is left after a run, or without one, is an end of the list.
use Rattle.lists.proofs.Ends.{◌▸◌}
use Rattle.lists.proofs.Reader.run.Goals as goal

pub returns-clause-left : goal.returns-clause-left
returns-clause-left c = c.size.ensures.left ▸ c.bytes.ensures.left
