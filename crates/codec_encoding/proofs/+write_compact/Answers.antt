-- `codec_encoding::write_compact` meets its contract, piece by piece. The measure is the node's number. Assumes nothing.
use mathlib.Core.Path.{refl}
use mathlib.Core.List.{List, [], ◌∷◌}
use Prim.Native.Nat.{ℕ, ◌+◌, ◌≤◌}
use native.Mathlib.Omega.{arith}
use lib.ListN.{length, drop}
use Rattle.meaning.specs.Bits.{bits_of}
use Rattle.bits.specs.Runs.{Run}
use Rattle.bits.proofs.OfBytes.{length_bits_of}
use Rattle.codec_laws.proofs.Walked.{one_run, tag_there, tag_first, two_parts}
use Rattle.codec_laws.proofs.Writing.{run_as, run_front, run_back, wrote_run, wrote_tag, wrote_both, wrote}
use Rattle.codec_encoding.proofs.+write_compact.Goals as goal

-- There is room for the compact bits among the output's bits.
out_inside : {out : List ℕ} {to n : ℕ} → Run out to n → to + n ≤ length (bits_of out)
out_inside {out} o = omega (arith, o.inside, length_bits_of out)

pub copy_bits-requires-clause-run : goal.copy_bits-requires-clause-run
copy_bits-requires-clause-run t c = (one_run c.requires.named c.node-n.ensures c.requires.run c.if-not-n.true).lies

pub copy_bits-requires-clause-run_2 : goal.copy_bits-requires-clause-run_2
copy_bits-requires-clause-run_2 t c =
    run_as (one_run c.requires.named c.node-n.ensures c.requires.run c.if-not-n.true).counted c.requires.run_2

pub overflow_add-result : goal.overflow_add-result
overflow_add-result t c =
    let w = one_run c.requires.named c.node-n.ensures c.requires.run c.if-not-n.true in
    record { fits = omega arith }

pub returns-then-not-n : goal.returns-then-not-n
returns-then-not-n t c =
    let w = one_run c.requires.named c.node-n.ensures c.requires.run c.if-not-n.true in
    wrote_run (drop c.args.at (bits_of c.args.src.now)) w.bits_are w.counted c.copy_bits.ensures

pub bit_at-right-requires : goal.bit_at-right-requires
bit_at-right-requires t c = tag_there c.requires.named c.node-n.ensures c.requires.run c.in-Sum.is

pub put_bit-requires : goal.put_bit-requires
put_bit-requires t c =
    let w = tag_first c.requires.named c.node-n.ensures c.requires.run c.if-not-n.false c.in-Sum.is c.bit_at-right.ensures c.side-side.ensures in
    omega arith

pub overflow_sub-payload : goal.overflow_sub-payload
overflow_sub-payload t c =
    let w = tag_first c.requires.named c.node-n.ensures c.requires.run c.if-not-n.false c.in-Sum.is c.bit_at-right.ensures c.side-side.ensures in
    omega arith

pub overflow_add-payload : goal.overflow_add-payload
overflow_add-payload t c =
    let w = tag_first c.requires.named c.node-n.ensures c.requires.run c.if-not-n.false c.in-Sum.is c.bit_at-right.ensures c.side-side.ensures in
    record { fits = omega arith }

pub overflow_add-to : goal.overflow_add-to
overflow_add-to t c =
    let w = tag_first c.requires.named c.node-n.ensures c.requires.run c.if-not-n.false c.in-Sum.is c.bit_at-right.ensures c.side-side.ensures in
    record { fits = omega arith }

pub write_compact-requires : goal.write_compact-requires
write_compact-requires t c =
    let w = tag_first c.requires.named c.node-n.ensures c.requires.run c.if-not-n.false c.in-Sum.is c.bit_at-right.ensures c.side-side.ensures in
    (omega arith, (w.side.named, (w.lies, run_back (c.bit_at-right.result ∷ []) _ c.requires.run_2 w.bits_are c.put_bit.auto.d refl)))

pub returns-in-Sum : goal.returns-in-Sum
returns-in-Sum t c =
    let w = tag_first c.requires.named c.node-n.ensures c.requires.run c.if-not-n.false c.in-Sum.is c.bit_at-right.ensures c.side-side.ensures in
    wrote w.bits_are (wrote_tag (omega (arith, out_inside c.requires.run_2)) c.put_bit.ensures c.write_compact.ensures)

pub overflow_add-second : goal.overflow_add-second
overflow_add-second t c =
    let w = two_parts c.requires.named c.node-n.ensures c.requires.run c.if-not-n.false c.in_default.not-Sum in
    record { fits = omega arith }

pub write_compact-next-requires : goal.write_compact-next-requires
write_compact-next-requires t c =
    let w = two_parts c.requires.named c.node-n.ensures c.requires.run c.if-not-n.false c.in_default.not-Sum in
    (omega arith, (w.first.named, (w.first_lies, run_front _ _ c.requires.run_2 w.bits_are)))

pub write_compact-requires-in_default : goal.write_compact-requires-in_default
write_compact-requires-in_default t c =
    let w = two_parts c.requires.named c.node-n.ensures c.requires.run c.if-not-n.false c.in_default.not-Sum in
    let front = c.write_compact-next in
    (omega arith, (w.second.named, (w.second_lies, run_back _ _ c.requires.run_2 w.bits_are front.auto.out front.ensures.ends)))

pub returns-in_default : goal.returns-in_default
returns-in_default t c =
    let w = two_parts c.requires.named c.node-n.ensures c.requires.run c.if-not-n.false c.in_default.not-Sum in
    let o : c.args.to ≤ length (bits_of c.args.out.now) = omega (arith, out_inside c.requires.run_2) in
    wrote w.bits_are (wrote_both o c.write_compact-next.ensures c.write_compact-in_default.ensures)
