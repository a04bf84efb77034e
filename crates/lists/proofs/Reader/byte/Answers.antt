-- What is left after a byte is an end of the list.
use Rattle.std.proofs.Common.{rules}
use Rattle.lists.proofs.Ends.{ends_byte}
use Rattle.lists.proofs.Reader.byte.Goals as goal

pub returns-clause-left : goal.returns-clause-left
returns-clause-left c = search (rules, ends_byte)
