-- The measure of `judge_compact` is the node's number: the sides of a node stand before it.
use Rattle.codec_judging.proofs.+judge_compact.Given as goal

abbrev pub decreases-judge_compact : goal.decreases-judge_compact
decreases-judge_compact l = l.node
