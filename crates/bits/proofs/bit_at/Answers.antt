-- `bits::bit_at` meets its contract: the bit that the shift brings down is the one that `get_d_bits_of` names. Assumes nothing.
use mathlib.Core.Path.{sym}
use Rattle.meaning.specs.Bits.{odd}
use Rattle.bits.proofs.OfBytes.{get_d_bits_of}
use Rattle.bits.proofs.bit_at.Goals as goal

pub returns : goal.returns
unfolding odd
returns c =
    let a = c.args in sym (get_d_bits_of a.s.now a.at)
