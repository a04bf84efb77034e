-- What is left after each part, or without one, is an end of the list, and the output stands in the list.
use Rattle.lists.proofs.Ends.{◌▸◌, part_later}
use Rattle.lists.proofs.Reader.case.Goals as goal

pub returns-in_err-expected-clause-left : goal.returns-in_err-expected-clause-left
returns-in_err-expected-clause-left c = c.request.ensures.left ▸ c.expected.ensures.left

pub returns-clause-expected : goal.returns-clause-expected
returns-clause-expected c = part_later c.request.ensures.left c.in_ok-expected.ensures.lent

pub returns-clause-left : goal.returns-clause-left
returns-clause-left c = c.request.ensures.left ▸ c.expected.ensures.left
