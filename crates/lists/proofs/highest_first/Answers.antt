-- One byte more is one more step of the fold, and eight bytes make a number of 64 bits.
use Rattle.std.proofs.Common.{◌<◌, arith}
use Rattle.lists.proofs.Growth.{one_more, grows, fits}
use Rattle.lists.proofs.highest_first.Goals as goal

pub overflow_mul-number : goal.overflow_mul-number
overflow_mul-number c =
    let few : c.loop-byte.byte-index < 8 = omega (arith, c.requires) in
    omega (arith, fits c.loop-byte.number 0 c.loop-byte.byte-index c.loop-byte.invariant.1 (omega arith) few)

pub overflow_add-number : goal.overflow_add-number
overflow_add-number c =
    let few : c.loop-byte.byte-index < 8 = omega (arith, c.requires) in
    omega (arith, fits c.loop-byte.number c.from.result c.loop-byte.byte-index c.loop-byte.invariant.1 (omega arith) few)

pub loop-byte-preserved : goal.loop-byte-preserved
loop-byte-preserved c = (
  omega (arith, c.loop-byte.invariant.0, one_more c.args.bytes.now c.loop-byte.byte-index (omega arith)),
  grows c.loop-byte.number c.from.result c.loop-byte.byte-index c.loop-byte.invariant.1 (omega arith),
)
