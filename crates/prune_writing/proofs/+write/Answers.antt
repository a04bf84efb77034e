-- `prune_writing::write` meets its contract: each return has written what a rule of the cut says, and the walk goes on at the sides of the target, whose
-- numbers are lower. Assumes nothing.
use mathlib.Core.Path.{sym, ◌∙◌}
use native.Mathlib.Omega.{arith}
use Rattle.prune_sides.proofs.Walks.{step_of, equal_width, equal_bits, step_like}
use Rattle.prune_sides.proofs.Walks.{two_sums, accepts_sum, named_sum, run_sum, falls_sum, before_sum, spans_sum}
use Rattle.prune_sides.proofs.Walks.{named_first, run_first, falls_first, named_second, run_second, falls_second, spans_product}
use Rattle.prune_writing.proofs.Writes.{at_sum, at_product, written_equal, written_unit, lies_sum, written_sum}
use Rattle.prune_writing.proofs.Writes.{lies_first, lies_second, cuts_first, cuts_second, written_product}
use Rattle.prune_writing.proofs.+write.Goals as goal

-- Equal types.
pub copy_bits-requires : goal.copy_bits-requires
copy_bits-requires t c =
    let r = c.requires in
    let s = step_of r.named r.named_2 r.run c.node-given_node.ensures c.node-target_node.ensures in
    let w = equal_width s c.if-target_class-given_class.true in
    let n = equal_bits s c.if-target_class-given_class.true in
    let i = r.run in
    let o = r.run_2 in
    record { run = record { inside = omega arith; counted = omega arith }; run_2 = record { inside = omega arith; counted = omega arith } }

pub returns-then-target_class-given_class : goal.returns-then-target_class-given_class
returns-then-target_class-given_class t c =
    let r = c.requires in
    let s = step_of r.named r.named_2 r.run c.node-given_node.ensures c.node-target_node.ensures in
    written_equal s c.args.out.now c.args.to c.copy_bits.new.dst c.if-target_class-given_class.true c.copy_bits.ensures

-- Unit.
pub returns-in-Unit : goal.returns-in-Unit
returns-in-Unit t c =
    let r = c.requires in
    let s = step_of r.named r.named_2 r.run c.node-given_node.ensures c.node-target_node.ensures in
    written_unit s c.args.out.now c.args.to c.in-Unit.is

-- At a sum.
pub taken_side-side-requires : goal.taken_side-side-requires
taken_side-side-requires t c =
    let r = c.requires in
    let s = step_of r.named r.named_2 r.run c.node-given_node.ensures c.node-target_node.ensures in
    two_sums s c.in-Sum.is (step_like s c.in-Sum.is (omega arith) r.target_value)

-- The payloads of both.
pub put_bit-requires : goal.put_bit-requires
put_bit-requires t c =
    let r = c.requires in
    let s = at_sum r.named r.named_2 r.run c.node-given_node.ensures c.node-target_node.ensures r.target_value
    c.if-target_class-given_class.false c.in-Sum.is c.taken_side-side.ensures in
    let o = r.run_2 in
    let n = before_sum s in
    let k = spans_sum s in
    omega arith

pub overflow_add-to : goal.overflow_add-to
overflow_add-to t c =
    let r = c.requires in
    let s = at_sum r.named r.named_2 r.run c.node-given_node.ensures c.node-target_node.ensures r.target_value
    c.if-target_class-given_class.false c.in-Sum.is c.taken_side-side.ensures in
    let o = r.run_2 in
    let n = before_sum s in
    let k = spans_sum s in
    record { fits = omega arith }

pub overflow_sub-before : goal.overflow_sub-before
overflow_sub-before t c =
    let r = c.requires in
    let s = at_sum r.named r.named_2 r.run c.node-given_node.ensures c.node-target_node.ensures r.target_value
    c.if-target_class-given_class.false c.in-Sum.is c.taken_side-side.ensures in
    let n = before_sum s in
    omega arith

pub clear_bits-requires : goal.clear_bits-requires
clear_bits-requires t c =
    let r = c.requires in
    let s = at_sum r.named r.named_2 r.run c.node-given_node.ensures c.node-target_node.ensures r.target_value
    c.if-target_class-given_class.false c.in-Sum.is c.taken_side-side.ensures in
    let o = r.run_2 in
    let n = before_sum s in
    let k = spans_sum s in
    let l = c.put_bit.auto.d in
    record { inside = omega arith; counted = omega arith }

-- Tag and padding are written.
pub overflow_add-at : goal.overflow_add-at
overflow_add-at t c =
    let r = c.requires in
    let s = at_sum r.named r.named_2 r.run c.node-given_node.ensures c.node-target_node.ensures r.target_value
    c.if-target_class-given_class.false c.in-Sum.is c.taken_side-side.ensures in
    let i = (run_sum s).counted in
    record { fits = omega arith }

pub overflow_add-to-in-Sum : goal.overflow_add-to-in-Sum
overflow_add-to-in-Sum t c =
    let r = c.requires in
    let s = at_sum r.named r.named_2 r.run c.node-given_node.ensures c.node-target_node.ensures r.target_value
    c.if-target_class-given_class.false c.in-Sum.is c.taken_side-side.ensures in
    let o = r.run_2 in
    let n = before_sum s in
    let k = spans_sum s in
    record { fits = omega arith }

pub write-requires : goal.write-requires
write-requires t c =
    let r = c.requires in
    let s = at_sum r.named r.named_2 r.run c.node-given_node.ensures c.node-target_node.ensures r.target_value
    c.if-target_class-given_class.false c.in-Sum.is c.taken_side-side.ensures in
    let f = falls_sum s in
    let kept = c.clear_bits.auto.dst ∙ c.put_bit.auto.d in (
      omega arith,
      (
        (named_sum s).0,
        (
          (named_sum s).1,
          (
            run_sum s,
            (
              sym (accepts_sum s) ∙ r.target_value,
              lies_sum s c.args.out.now c.args.to r.run_2 c.clear_bits.new.dst kept,
            ),
          ),
        ),
      ),
    )

pub returns-in-Sum : goal.returns-in-Sum
returns-in-Sum t c =
    let r = c.requires in
    let s = at_sum r.named r.named_2 r.run c.node-given_node.ensures c.node-target_node.ensures r.target_value
    c.if-target_class-given_class.false c.in-Sum.is c.taken_side-side.ensures in
    written_sum s c.args.out.now c.args.to r.run_2 c.put_bit.new.d c.clear_bits.new.dst c.write.new.out r.target_value c.put_bit.ensures
    c.clear_bits.ensures c.write.ensures

-- At a product.
pub write-requires-in-Product : goal.write-requires-in-Product
write-requires-in-Product t c =
    let r = c.requires in
    let s = at_product r.named r.named_2 r.run c.node-given_node.ensures c.node-target_node.ensures r.target_value
    c.if-target_class-given_class.false c.in-Product.is in
    let f = falls_first s in (
      omega arith,
      (
        (named_first s).0,
        (
          (named_first s).1,
          (
            run_first s,
            (
              cuts_first s c.args.out.now c.args.to r.run_2 r.target_value,
              lies_first s c.args.out.now c.args.to r.run_2,
            ),
          ),
        ),
      ),
    )

pub overflow_add-at-in-Product : goal.overflow_add-at-in-Product
overflow_add-at-in-Product t c =
    let r = c.requires in
    let s = at_product r.named r.named_2 r.run c.node-given_node.ensures c.node-target_node.ensures r.target_value
    c.if-target_class-given_class.false c.in-Product.is in
    let i = (run_second s).counted in
    record { fits = omega arith }

pub overflow_add-to-in-Product : goal.overflow_add-to-in-Product
overflow_add-to-in-Product t c =
    let r = c.requires in
    let s = at_product r.named r.named_2 r.run c.node-given_node.ensures c.node-target_node.ensures r.target_value
    c.if-target_class-given_class.false c.in-Product.is in
    let o = r.run_2 in
    let k = spans_product s in
    record { fits = omega arith }

pub write-requires-in-Product-2 : goal.write-requires-in-Product-2
write-requires-in-Product-2 t c =
    let r = c.requires in
    let s = at_product r.named r.named_2 r.run c.node-given_node.ensures c.node-target_node.ensures r.target_value
    c.if-target_class-given_class.false c.in-Product.is in
    let f = falls_second s in (
      omega arith,
      (
        (named_second s).0,
        (
          (named_second s).1,
          (
            run_second s,
            (
              cuts_second s c.args.out.now c.args.to r.run_2 r.target_value,
              lies_second s c.args.out.now c.args.to r.run_2 c.write-in-Product.new.out c.write-in-Product.auto.out,
            ),
          ),
        ),
      ),
    )

pub returns-in-Product : goal.returns-in-Product
returns-in-Product t c =
    let r = c.requires in
    let s = at_product r.named r.named_2 r.run c.node-given_node.ensures c.node-target_node.ensures r.target_value
    c.if-target_class-given_class.false c.in-Product.is in
    written_product s c.args.out.now c.args.to r.run_2 c.write-in-Product.new.out c.write-in-Product-2.new.out r.target_value c.write-in-Product.ensures c.write-in-Product-2.ensures
