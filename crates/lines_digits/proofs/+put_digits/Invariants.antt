-- The proof of the cycle of calls {put_digits}: the leading digits are those of the tenth part, and the last follows them. The measure is the
-- number. Assumes nothing.
use Rattle.lines_digits.proofs.+put_digits.Given as goal

abbrev pub decreases-put_digits : goal.decreases-put_digits
decreases-put_digits l = l.n
