-- What is left after each part, or without one, is an end of the list, and the bytes stand in the list.
use Rattle.lists.proofs.Ends.{◌▸◌, run_within}
use Rattle.lists.proofs.Reader.record.Goals as goal

pub returns-in_err-size-clause-left : goal.returns-in_err-size-clause-left
returns-in_err-size-clause-left c = c.run.ensures.left ▸ c.size.ensures.left

pub returns-in_err-size-2-clause-left : goal.returns-in_err-size-2-clause-left
returns-in_err-size-2-clause-left c = c.run.ensures.left ▸ c.size.ensures.left ▸ c.size-2.ensures.left

pub returns-clause-lent : goal.returns-clause-lent
returns-clause-lent c = run_within _ _ _ c.in_ok-run.ensures.part

pub returns-clause-left : goal.returns-clause-left
returns-clause-left c = c.run.ensures.left ▸ c.size.ensures.left ▸ c.size-2.ensures.left
