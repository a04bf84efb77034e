-- What is left after a number, or without one, is an end of the list.
use Rattle.lists.proofs.Ends.{◌▸◌}
use Rattle.lists.proofs.Reader.number.Goals as goal

pub returns-in_err-bytes-clause-left : goal.returns-in_err-bytes-clause-left
returns-in_err-bytes-clause-left c = c.byte.ensures.left ▸ c.bytes.ensures.left

pub returns-clause-left : goal.returns-clause-left
returns-clause-left c = c.byte.ensures.left ▸ c.bytes.ensures.left
