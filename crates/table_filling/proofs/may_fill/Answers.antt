-- `table_filling::may_fill` meets its contract: the count and the columns, then the entries, then the room. Assumes nothing.
use mathlib.Core.Path.{sym, ◌∙◌}
use Rattle.table_room.proofs.Room.{columns_reached}
use Rattle.table_filling.proofs.Fillings.{too_few, too_many, short_column, faulty_entry, short_groups, all_right}
use Rattle.table_filling.proofs.may_fill.Goals as goal

pub returns-then-count-lt1 : goal.returns-then-count-lt1
returns-then-count-lt1 c =
    too_few c.args.columns.now c.args.count c.args.groups.now c.if-count-lt1.true

pub returns-then-count-gt1024 : goal.returns-then-count-gt1024
returns-then-count-gt1024 c =
    too_many c.args.columns.now c.args.count c.args.groups.now c.if-count-gt1024.true

pub returns-then-not-columns_reach : goal.returns-then-not-columns_reach
returns-then-not-columns_reach c =
    short_column c.args.columns.now c.args.count c.args.groups.now (sym c.columns_reach.ensures ∙ c.if-not-columns_reach.true)

pub first_bad_entry-bad-requires : goal.first_bad_entry-bad-requires
first_bad_entry-bad-requires c =
    columns_reached c.args.columns.now c.args.count (sym c.columns_reach.ensures ∙ c.if-not-columns_reach.false)

pub returns-then-bad-count : goal.returns-then-bad-count
returns-then-bad-count c =
    faulty_entry c.args.columns.now c.args.count c.args.groups.now c.if-count-lt1.false c.if-count-gt1024.false
    (sym c.columns_reach.ensures ∙ c.if-not-columns_reach.false) _ c.first_bad_entry-bad.ensures c.if-bad-count.true

pub returns-then-not-groups_reach : goal.returns-then-not-groups_reach
returns-then-not-groups_reach c =
    short_groups c.args.columns.now c.args.count c.args.groups.now c.if-count-lt1.false c.if-count-gt1024.false
    (sym c.columns_reach.ensures ∙ c.if-not-columns_reach.false) _ c.first_bad_entry-bad.ensures c.if-bad-count.false
    (sym c.groups_reach.ensures ∙ c.if-not-groups_reach.true)

pub returns : goal.returns
returns c =
    all_right c.args.columns.now c.args.count c.args.groups.now c.if-count-lt1.false c.if-count-gt1024.false
    (sym c.columns_reach.ensures ∙ c.if-not-columns_reach.false) _ c.first_bad_entry-bad.ensures c.if-bad-count.false
    (sym c.groups_reach.ensures ∙ c.if-not-groups_reach.false)
