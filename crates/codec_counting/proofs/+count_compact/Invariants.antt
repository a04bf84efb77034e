-- `codec_counting::count_compact` ends: the node's number falls. Assumes nothing.
use Rattle.codec_counting.proofs.+count_compact.Given as goal

abbrev pub decreases-count_compact : goal.decreases-count_compact
decreases-count_compact l = l.node
