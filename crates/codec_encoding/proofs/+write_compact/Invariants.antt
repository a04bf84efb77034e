-- `codec_encoding::write_compact` ends: the node's number falls. Assumes nothing.
use Rattle.codec_encoding.proofs.+write_compact.Given as goal

abbrev pub decreases-write_compact : goal.decreases-write_compact
decreases-write_compact l = l.node
