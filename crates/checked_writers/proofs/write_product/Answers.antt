-- `checked_writers::write_product` meets its contract: the two parts make the whole, and the last byte is finished. Assumes nothing.
use mathlib.Core.List.{◌++◌}
use Prim.Native.Nat.{◌-◌, ◌≤◌}
use native.Mathlib.Omega.{arith}
use lib.ListN.{length, take, drop, length-drop}
use Rattle.meaning.specs.Bits.{bits_of}
use Rattle.bits.proofs.OfBytes.{are_bytes, length_bits_of}
use Rattle.bits.proofs.Packed.{finished}
use Rattle.checked_writers.proofs.Wholes.{product_length, product_whole}
use Rattle.checked_writers.proofs.write_product.Goals as goal

pub returns : goal.returns
returns c =
    let done = c.finish in
    let second = c.copy_bits-2 in
    let first = c.copy_bits in
    let b = c.before.before.before.before.before.before.before.before.before.before.before.before.before.before in
    let a = c.args in
    let v = drop a.a_from (bits_of a.a.now) in
    let u = drop a.b_from (bits_of a.b.now) in
    let fits = c.requires.m_le_whole in
    let left : a.m ≤ length v = omega (arith, length-drop a.a_from (bits_of a.a.now), length_bits_of a.a.now, c.requires) in
    let right : a.whole - a.m ≤ length u = omega (arith, length-drop a.b_from (bits_of a.b.now), length_bits_of a.b.now, c.requires) in
    finished (take a.m v ++ take (a.whole - a.m) u) a.whole a.out.now c.copy_bits-2.new.dst c.finish.new.out
    (product_length a.whole a.m v u fits left right)
    (are_bytes a.out.now c.slice_known-1.given)
    (are_bytes c.finish.new.out c.slice_known-4-1.given)
    (product_whole a.whole a.m v u fits left right (bits_of a.out.now) (bits_of c.copy_bits.new.dst) (bits_of c.copy_bits-2.new.dst)
    first.ensures
    second.ensures)
    done.ensures
