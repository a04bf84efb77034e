-- What is left after each number, or without one, is an end of the list.
use Rattle.lists.proofs.Ends.{◌▸◌}
use Rattle.lists.proofs.Reader.numbers.Goals as goal

pub returns-in_err-numbers : goal.returns-in_err-numbers
returns-in_err-numbers c = c.size.ensures.left ▸ c.number.ensures.left

pub returns-in_err-value : goal.returns-in_err-value
returns-in_err-value c = c.loop-value.invariant ▸ c.number-in-loop-value.ensures.left

pub loop-value-preserved : goal.loop-value-preserved
loop-value-preserved c = c.loop-value.invariant ▸ c.number-in-loop-value.ensures.left

pub returns-in_ok-numbers : goal.returns-in_ok-numbers
returns-in_ok-numbers c = c.size.ensures.left ▸ c.number.ensures.left
