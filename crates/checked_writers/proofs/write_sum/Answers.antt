-- `checked_writers::write_sum` meets its contract: tag, padding and payload make the whole, and the last byte is finished. Assumes nothing.
use mathlib.Core.List.{◌∷◌, ◌++◌}
use Prim.Native.Nat.{◌-◌, ◌≤◌}
use native.Mathlib.Omega.{arith}
use lib.ListN.{length, take, drop, length-drop}
use Rattle.meaning.specs.Bits.{bits_of, zeros}
use Rattle.bits.proofs.OfBytes.{are_bytes, length_bits_of}
use Rattle.bits.proofs.Packed.{finished}
use Rattle.checked_writers.proofs.Wholes.{sum_length, sum_whole}
use Rattle.checked_writers.proofs.write_sum.Goals as goal

pub returns : goal.returns
returns c =
    let done = c.finish in
    let copied = c.copy_bits in
    let cleared = c.clear_bits in
    let tagged = c.put_bit in
    let b = c.before.before.before.before.before.before.before.before.before.before.before.before.before.before.before.before.before in
    let a = c.args in
    let run = drop a.from (bits_of a.src.now) in
    let there : a.n ≤ length run = omega (arith, length-drop a.from (bits_of a.src.now), length_bits_of a.src.now, c.requires) in
    finished (a.tag ∷ (zeros (a.w - 1 - a.n) ++ take a.n run)) a.w a.out.now c.copy_bits.new.dst c.finish.new.out
    (sum_length a.tag a.w a.n run c.requires.n_lt_w there)
    (are_bytes a.out.now c.slice_known-1.given)
    (are_bytes c.finish.new.out c.slice_known-5-1.given)
    (sum_whole a.tag a.w a.n run c.requires.n_lt_w there (bits_of a.out.now) (bits_of c.put_bit.new.d) (bits_of c.clear_bits.new.dst)
    (bits_of c.copy_bits.new.dst)
    (omega (arith, length_bits_of a.out.now, c.requires))
    tagged.ensures
    cleared.ensures
    copied.ensures)
    done.ensures
