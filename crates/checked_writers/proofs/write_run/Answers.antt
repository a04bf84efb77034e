-- `checked_writers::write_run` meets its contract: the run is copied to bit 0, and the last byte is finished. Assumes nothing.
use Prim.Native.Nat.{◌+◌, ◌≤◌}
use mathlib.Core.Path.{sym, ◌∙◌}
use native.Mathlib.Omega.{arith}
use lib.ListN.{length, take, drop}
use Rattle.meaning.specs.Bits.{bits_of}
use Rattle.bits.proofs.OfBytes.{are_bytes, length_bits_of}
use Rattle.bits.proofs.Packed.{finished}
use Rattle.meaning.proofs.Pasted.{paste_take}
use Rattle.bits.proofs.Runs.{length_run}
use Rattle.checked_writers.proofs.write_run.Goals as goal

pub returns : goal.returns
returns c =
    let a = c.args in
    let copy = c.copy_bits in
    let done = c.finish in
    let there : a.from + a.n ≤ length (bits_of a.src.now) = omega (arith, length_bits_of a.src.now, c.requires.run_2.inside) in
    finished (take a.n (drop a.from (bits_of a.src.now))) a.n a.out.now c.copy_bits.new.dst c.finish.new.out
    (length_run (bits_of a.src.now) a.from a.n there)
    (are_bytes a.out.now c.slice_known-1.given)
    (are_bytes c.finish.new.out c.slice_known-3-1.given)
    (copy.ensures ∙ sym (paste_take (bits_of a.out.now) 0 (drop a.from (bits_of a.src.now)) a.n))
    done.ensures
