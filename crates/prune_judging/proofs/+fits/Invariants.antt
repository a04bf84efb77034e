-- The measure of `prune_judging::fits` is the target's number. Assumes nothing.
use Rattle.prune_judging.proofs.+fits.Given as goal

abbrev pub decreases-fits : goal.decreases-fits
decreases-fits l = l.target
