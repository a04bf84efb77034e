-- What is left after some bytes, or without them, is an end of the list.
use Rattle.std.proofs.Common.{rules, arith}
use Rattle.std.proofs.lemmas.Grind.{common_steps}
use Rattle.lists.proofs.Ends.{ends_here, ends_bytes}
use Rattle.lists.proofs.Reader.bytes.Goals as goal

pub returns-in_err-front-clause-left : goal.returns-in_err-front-clause-left
returns-in_err-front-clause-left c = search (rules, ends_here)

pub returns-clause-left : goal.returns-clause-left
returns-clause-left c = ends_bytes c.in_ok-front.front.now _ _ (first_of (search rules, grind (arith, common_steps)))
