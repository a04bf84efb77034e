-- The measure of `read_compact` is the node's number: the sides of a node stand before it.
use Rattle.codec_decoding.proofs.+read_compact.Given as goal

abbrev pub decreases-read_compact : goal.decreases-read_compact
decreases-read_compact l = l.node
