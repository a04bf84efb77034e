-- The measure of `prune_writing::write` is the target's number. Assumes nothing.
use Rattle.prune_writing.proofs.+write.Given as goal

abbrev pub decreases-write : goal.decreases-write
decreases-write l = l.target
