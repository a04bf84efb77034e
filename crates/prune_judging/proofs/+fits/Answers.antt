-- `prune_judging::fits` meets its contract: each return is a rule of the cut, and the walk goes on at the sides of the target, whose numbers are lower.
-- Assumes nothing.
use mathlib.Core.Path.{ap, sym, ◌∙◌}
use native.Mathlib.Omega.{arith}
use Rattle.meaning.specs.CutCalls.{is_cut}
use Rattle.prune_sides.proofs.Walks.{step_of, sum_step_of, product_step_of}
use Rattle.prune_sides.proofs.Walks.{step_equal, step_unit, step_unlike, two_sums, accepts_sum, named_sum, run_sum, falls_sum}
use Rattle.prune_sides.proofs.Walks.{first_decides, second_decides, named_first, run_first, falls_first, named_second, run_second, falls_second}
use Rattle.prune_judging.proofs.+fits.Goals as goal

-- Equal types.
pub returns-then-target_class-given_class : goal.returns-then-target_class-given_class
returns-then-target_class-given_class t c =
    let r = c.requires in
    let s = step_of r.named r.named_2 r.run c.node-given_node.ensures c.node-target_node.ensures in
    sym (ap is_cut (step_equal s c.if-target_class-given_class.true))

-- Unit.
pub returns-in-Unit : goal.returns-in-Unit
returns-in-Unit t c =
    let r = c.requires in
    let s = step_of r.named r.named_2 r.run c.node-given_node.ensures c.node-target_node.ensures in
    sym (ap is_cut (step_unit s c.in-Unit.is))

-- Another kind.
pub returns-in_default-2 : goal.returns-in_default-2
returns-in_default-2 t c =
    let r = c.requires in
    let s = step_of r.named r.named_2 r.run c.node-given_node.ensures c.node-target_node.ensures in
    sym (ap is_cut (step_unlike s c.in_default-2.is-0 (omega arith) c.in_default-2.not-Sum-1))

pub returns-in_default-2-2 : goal.returns-in_default-2-2
returns-in_default-2-2 t c =
    let r = c.requires in
    let s = step_of r.named r.named_2 r.run c.node-given_node.ensures c.node-target_node.ensures in
    sym (ap is_cut (step_unlike s c.in_default-2.is-0 (omega arith) c.in_default-2.not-Product-1))

-- At a sum.
pub taken_side-side-requires : goal.taken_side-side-requires
taken_side-side-requires t c =
    let r = c.requires in
    let s = step_of r.named r.named_2 r.run c.node-given_node.ensures c.node-target_node.ensures in
    two_sums s c.in-Sum-Sum.is-0 c.in-Sum-Sum.is-1

-- The payloads of both.
pub overflow_add-at : goal.overflow_add-at
overflow_add-at t c =
    let r = c.requires in
    let p = step_of r.named r.named_2 r.run c.node-given_node.ensures c.node-target_node.ensures in
    let s = sum_step_of p c.if-target_class-given_class.false c.in-Sum-Sum.is-0 c.in-Sum-Sum.is-1 c.taken_side-side.ensures in
    let i = (run_sum s).counted in
    record { fits = omega arith }

pub fits-requires : goal.fits-requires
fits-requires t c =
    let r = c.requires in
    let p = step_of r.named r.named_2 r.run c.node-given_node.ensures c.node-target_node.ensures in
    let s = sum_step_of p c.if-target_class-given_class.false c.in-Sum-Sum.is-0 c.in-Sum-Sum.is-1 c.taken_side-side.ensures in
    let f = falls_sum s in
    (omega arith, ((named_sum s).0, ((named_sum s).1, run_sum s)))

pub returns-in-Sum-Sum : goal.returns-in-Sum-Sum
returns-in-Sum-Sum t c =
    let r = c.requires in
    let p = step_of r.named r.named_2 r.run c.node-given_node.ensures c.node-target_node.ensures in
    let s = sum_step_of p c.if-target_class-given_class.false c.in-Sum-Sum.is-0 c.in-Sum-Sum.is-1 c.taken_side-side.ensures in
    c.fits.ensures ∙ sym (accepts_sum s)

-- At a product.
pub fits-requires-in-Product-Product : goal.fits-requires-in-Product-Product
fits-requires-in-Product-Product t c =
    let r = c.requires in
    let p = step_of r.named r.named_2 r.run c.node-given_node.ensures c.node-target_node.ensures in
    let s = product_step_of p c.if-target_class-given_class.false c.in-Product-Product.is-0 c.in-Product-Product.is-1 in
    let f = falls_first s in
    (omega arith, ((named_first s).0, ((named_first s).1, run_first s)))

pub overflow_add-at-then-fits : goal.overflow_add-at-then-fits
overflow_add-at-then-fits t c =
    let r = c.requires in
    let p = step_of r.named r.named_2 r.run c.node-given_node.ensures c.node-target_node.ensures in
    let s = product_step_of p c.if-target_class-given_class.false c.in-Product-Product.is-0 c.in-Product-Product.is-1 in
    let i = (run_second s).counted in
    record { fits = omega arith }

pub fits-requires-then-fits : goal.fits-requires-then-fits
fits-requires-then-fits t c =
    let r = c.requires in
    let p = step_of r.named r.named_2 r.run c.node-given_node.ensures c.node-target_node.ensures in
    let s = product_step_of p c.if-target_class-given_class.false c.in-Product-Product.is-0 c.in-Product-Product.is-1 in
    let f = falls_second s in
    (omega arith, ((named_second s).0, ((named_second s).1, run_second s)))

pub returns-then-fits : goal.returns-then-fits
returns-then-fits t c =
    let r = c.requires in
    let p = step_of r.named r.named_2 r.run c.node-given_node.ensures c.node-target_node.ensures in
    let s = product_step_of p c.if-target_class-given_class.false c.in-Product-Product.is-0 c.in-Product-Product.is-1 in
    second_decides s c.fits-in-Product-Product.result _ c.fits-in-Product-Product.ensures c.if-fits.true c.fits-then-fits.ensures

pub returns-else-fits : goal.returns-else-fits
returns-else-fits t c =
    let r = c.requires in
    let p = step_of r.named r.named_2 r.run c.node-given_node.ensures c.node-target_node.ensures in
    let s = product_step_of p c.if-target_class-given_class.false c.in-Product-Product.is-0 c.in-Product-Product.is-1 in
    c.if-fits.false ∙ first_decides s c.fits-in-Product-Product.result c.fits-in-Product-Product.ensures c.if-fits.false
