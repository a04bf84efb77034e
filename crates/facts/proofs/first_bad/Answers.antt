-- `facts::first_bad` meets its contract. Assumes nothing.
use Rattle.std.proofs.Common.{◌≡◌, ◌+◌, ap, sym, ◌∙◌, subst, arith}
use Rattle.meaning.specs.Tables.{kind, left, right, class_of, first_bad, facts_in, entry_right, facts_right}
use Rattle.meaning.proofs.Tests.{and_no_left, and_no_right}
use Rattle.facts.specs.Known.{Known}
use Rattle.facts.proofs.Judging.{bad_here, no_bad, known_none, known_more, table_reach, entry_read}
use Rattle.facts_classes.proofs.Linking.{slot_below}
use Rattle.facts.proofs.Finding.{more_reach}
use Rattle.facts.proofs.first_bad.Goals as goal

pub loop-n-init : goal.loop-n-init
loop-n-init c = (known_none _ _, c.new-chains.ensures _)

pub returns-then-not-entry_right : goal.returns-then-not-entry_right
returns-then-not-entry_right c =
    bad_here _ c.loop-n.n c.loop-n-test.true c.loop-n.invariant.0
    (and_no_left (entry_right c.table.inside.columns c.loop-n.n) _
    (sym (entry_read _ _ _ _ c.columns.view_is c.entry_right.ensures) ∙ c.if-not-entry_right.true))
    ∙ ap first_bad c.table.view_is

pub facts_at-found-requires : goal.facts_at-found-requires
facts_at-found-requires c =
    record {
      reach = more_reach _ _ _ _ (table_reach _ _ _ _ c.table.view_is c.requires) (omega arith);
      known = c.loop-n.invariant.0;
      entry = sym (entry_read _ _ _ _ c.columns.view_is c.entry_right.ensures) ∙ c.if-not-entry_right.false;
      chained = c.loop-n.invariant.1;
    }

pub agrees-requires : goal.agrees-requires
agrees-requires c =
    (more_reach _ _ _ (c.loop-n.n + 1) (table_reach _ _ _ _ c.table.view_is c.requires) (omega arith)).groups-reach

pub returns-then-not-agrees : goal.returns-then-not-agrees
returns-then-not-agrees c =
    bad_here _ c.loop-n.n c.loop-n-test.true c.loop-n.invariant.0
    (and_no_right _ (facts_right c.table.inside.columns (facts_in c.table.inside.groups.now) c.loop-n.n)
    (sym (c.agrees.ensures _ c.facts_at-found.ensures.facts_are) ∙ c.if-not-agrees.true))
    ∙ ap first_bad c.table.view_is

pub add-requires : goal.add-requires
add-requires c =
    let t = c.table.inside.columns in
    let b = slot_below (kind t c.loop-n.n) (class_of t (left t c.loop-n.n)) (class_of t (right t c.loop-n.n)) in
    let r = table_reach _ _ _ _ c.table.view_is c.requires in
    (omega (arith, c.facts_at-found.ensures.slot_is), omega arith)

pub loop-n-preserved : goal.loop-n-preserved
loop-n-preserved c = (
  known_more _ _ _ c.loop-n.invariant.0
      (sym (entry_read _ _ _ _ c.columns.view_is c.entry_right.ensures) ∙ c.if-not-entry_right.false)
      (sym (c.agrees.ensures _ c.facts_at-found.ensures.facts_are) ∙ c.if-not-agrees.false),
  c.add.ensures _ c.loop-n.invariant.1 c.facts_at-found.ensures.facts_are.class_is c.facts_at-found.ensures.slot_is,
)

pub returns : goal.returns
returns c =
    let e : c.loop-n.n ≡ c.table.inside.count = omega arith in
    no_bad _ (subst (λ k. Known c.table.inside.columns (facts_in c.table.inside.groups.now) k) e c.loop-n.invariant.0)
    ∙ ap first_bad c.table.view_is
