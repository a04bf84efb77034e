-- `facts::facts_at` meets its contract. Assumes nothing.
use Rattle.std.proofs.Common.{◌∙◌, arith}
use Rattle.facts.proofs.Finding.{no_other_kind, class_fits, unit_derived, left_reach, right_reach, classing, node_derived}
use Rattle.facts.proofs.facts_at.Goals as goal

pub unreachable-requires : goal.unreachable-requires
unreachable-requires c = no_other_kind _ _ _ _ c.requires _ c.columns.view_is c.in_default.ensures

pub returns-then-eq : goal.returns-then-eq
returns-then-eq c =
    unit_derived _ _ _ _ c.requires _ c.columns.view_is _ c.in-Ok.ensures c.if-eq.ensures

pub facts_at-x-requires : goal.facts_at-x-requires
facts_at-x-requires c =
    left_reach _ _ _ _ c.requires _ c.columns.view_is _ c.in-Ok.ensures c.if-eq.ensures

pub facts_at-y-requires : goal.facts_at-y-requires
facts_at-y-requires c =
    right_reach _ _ _ _ c.requires _ c.columns.view_is _ c.in-Ok.ensures c.if-eq.ensures

pub class_of-class-requires : goal.class_of-class-requires
class_of-class-requires c =
    classing _ _ _ _ c.requires _ c.columns.view_is _ c.in-Ok.ensures c.if-eq.ensures _ _
    c.facts_at-x.ensures c.facts_at-y.ensures

pub overflow_cast-class : goal.overflow_cast-class
overflow_cast-class c =
    omega (arith, c.class_of-class.ensures, class_fits _ _ _ _ c.requires _ c.columns.view_is)

pub returns : goal.returns
returns c =
    node_derived _ _ _ _ c.requires _ c.columns.view_is _ c.in-Ok.ensures c.if-eq.ensures _ _
    c.facts_at-x.ensures c.facts_at-y.ensures _
    c.facts_by.ensures.width c.facts_by.ensures.size c.facts_by.ensures.padded (c.facts_by.ensures.class ∙ c.class_of-class.ensures) c.facts_by.ensures.least c.slot.ensures
