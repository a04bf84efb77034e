-- What is left after each part, or without one, is an end of the list, and the output stands in the list.
use Rattle.lists.proofs.Ends.{◌▸◌, run_within, part_later}
use Rattle.lists.proofs.Reader.expected.Goals as goal

pub returns-in_err-position-clause-left : goal.returns-in_err-position-clause-left
returns-in_err-position-clause-left c = c.number.ensures.left ▸ c.number-2.ensures.left

pub returns-in_err-accepted-clause-left : goal.returns-in_err-accepted-clause-left
returns-in_err-accepted-clause-left c = c.number.ensures.left ▸ c.number-2.ensures.left ▸ c.numbers.ensures

pub returns-in_err-out-clause-left : goal.returns-in_err-out-clause-left
returns-in_err-out-clause-left c = c.number.ensures.left ▸ c.number-2.ensures.left ▸ c.numbers.ensures ▸ c.run.ensures.left

pub returns-in_err-byte-clause-left : goal.returns-in_err-byte-clause-left
returns-in_err-byte-clause-left c = c.number.ensures.left ▸ c.number-2.ensures.left ▸ c.numbers.ensures ▸ c.run.ensures.left ▸ c.byte.ensures.left

pub returns-clause-lent : goal.returns-clause-lent
returns-clause-lent c = part_later (c.number.ensures.left ▸ c.number-2.ensures.left ▸ c.numbers.ensures) (run_within _ _ _ c.in_ok-out.ensures.part)

pub returns-clause-left : goal.returns-clause-left
returns-clause-left c = c.number.ensures.left ▸ c.number-2.ensures.left ▸ c.numbers.ensures ▸ c.run.ensures.left ▸ c.byte.ensures.left
