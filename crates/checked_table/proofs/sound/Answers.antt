-- `checked_table::sound` meets its contract: the count, the columns and the groups are tested one by one, then the nodes. Assumes nothing.
use native.Mathlib.Omega.{arith}
use Prim.Native.Nat.{◌/◌, ◌≤◌}
use mathlib.Core.Path.{◌≡◌, sym, ap, subst}
use Rattle.facts.specs.Known.{TableReach}
use Rattle.meaning.proofs.Ladders.{Shape, accepted_sound}
use Rattle.checked_table.proofs.Faults.{whole, unfit, grouped, shaped, reaching, faulty_node, faultless}
use Rattle.checked_table.proofs.sound.Goals as goal

pub returns-then-count-eq0-clause-answer : goal.returns-then-count-eq0-clause-answer
returns-then-count-eq0-clause-answer c =
    unfit _ _ c.table.view_is (λ s. omega (arith, s.some_node, c.if-count-eq0.true))

pub returns-then-count-gt1024-clause-answer : goal.returns-then-count-gt1024-clause-answer
returns-then-count-gt1024-clause-answer c =
    unfit _ _ c.table.view_is (λ s. omega (arith, s.few_nodes, c.if-count-gt1024.true))

pub returns-then-columns-count-clause-answer : goal.returns-then-columns-count-clause-answer
returns-then-columns-count-clause-answer c =
    unfit _ _ (whole _ _ _ _ _ c.columns.view_is c.table.view_is) (λ s. omega (arith, s.kinds_reach, c.if-columns-count.true))

pub returns-then-columns-count-2-clause-answer : goal.returns-then-columns-count-2-clause-answer
returns-then-columns-count-2-clause-answer c =
    unfit _ _ (whole _ _ _ _ _ c.columns.view_is c.table.view_is) (λ s. omega (arith, s.lefts_reach, c.if-columns-count-2.true))

pub returns-then-columns-count-3-clause-answer : goal.returns-then-columns-count-3-clause-answer
returns-then-columns-count-3-clause-answer c =
    unfit _ _ (whole _ _ _ _ _ c.columns.view_is c.table.view_is) (λ s. omega (arith, s.rights_reach, c.if-columns-count-3.true))

pub returns-then-groups-count-clause-answer : goal.returns-then-groups-count-clause-answer
returns-then-groups-count-clause-answer c =
    unfit _ _ c.table.view_is (λ s. omega (arith, grouped c.table.inside.groups.now, s.widths_reach, c.if-groups-count.true))

pub first_bad-bad-requires : goal.first_bad-bad-requires
first_bad-bad-requires c =
    subst TableReach (whole _ _ _ _ _ c.columns.view_is c.table.view_is)
    (reaching _ (shaped c.columns.inside.kinds.now c.columns.inside.lefts.now c.columns.inside.rights.now c.table.inside.groups.now c.table.inside.count (omega (arith, c.if-count-eq0.false)) c.if-count-gt1024.false c.if-columns-count.false c.if-columns-count-2.false
    c.if-columns-count-3.false c.if-groups-count.false))

pub returns-then-bad-count-clause-answer : goal.returns-then-bad-count-clause-answer
returns-then-bad-count-clause-answer c =
    faulty_node c.args.table.now
    (subst Shape (whole _ _ _ _ _ c.columns.view_is c.table.view_is) (shaped c.columns.inside.kinds.now c.columns.inside.lefts.now c.columns.inside.rights.now c.table.inside.groups.now c.table.inside.count (omega (arith, c.if-count-eq0.false)) c.if-count-gt1024.false c.if-columns-count.false c.if-columns-count-2.false
    c.if-columns-count-3.false c.if-groups-count.false)) _ c.first_bad-bad.ensures
    (omega (arith, ap (λ t. t.count) c.table.view_is, c.if-bad-count.true))

pub new-requires : goal.new-requires
new-requires c =
    accepted_sound _
    (sym (faultless c.args.table.now
    (subst Shape (whole _ _ _ _ _ c.columns.view_is c.table.view_is) (shaped c.columns.inside.kinds.now c.columns.inside.lefts.now c.columns.inside.rights.now c.table.inside.groups.now c.table.inside.count (omega (arith, c.if-count-eq0.false)) c.if-count-gt1024.false c.if-columns-count.false c.if-columns-count-2.false
    c.if-columns-count-3.false c.if-groups-count.false)) _ c.first_bad-bad.ensures
    (omega (arith, ap (λ t. t.count) c.table.view_is, c.if-bad-count.false))))

pub returns-clause-answer : goal.returns-clause-answer
returns-clause-answer c =
    faultless c.args.table.now
    (subst Shape (whole _ _ _ _ _ c.columns.view_is c.table.view_is) (shaped c.columns.inside.kinds.now c.columns.inside.lefts.now c.columns.inside.rights.now c.table.inside.groups.now c.table.inside.count (omega (arith, c.if-count-eq0.false)) c.if-count-gt1024.false c.if-columns-count.false c.if-columns-count-2.false
    c.if-columns-count-3.false c.if-groups-count.false)) _ c.first_bad-bad.ensures
    (omega (arith, ap (λ t. t.count) c.table.view_is, c.if-bad-count.false))
