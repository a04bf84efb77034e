-- `checked_writers::write_zeros` meets its contract. Assumes nothing.
use mathlib.Core.Bool.{false}
use lib.ListN.{length-replicate}
use Rattle.meaning.specs.Bits.{zeros}
use Rattle.bits.proofs.OfBytes.{are_bytes}
use Rattle.bits.proofs.Packed.{finished}
use Rattle.checked_writers.proofs.write_zeros.Goals as goal

pub returns : goal.returns
returns c =
    let cleared = c.clear_bits in
    let done = c.finish in
    let entry = c.slice_known-1 in
    let a = c.args in
    finished (zeros a.n) a.n a.out.now c.clear_bits.new.dst c.finish.new.out (length-replicate a.n false)
    (are_bytes a.out.now entry.given)
    (are_bytes c.finish.new.out c.slice_known-3-1.given)
    cleared.ensures
    done.ensures
