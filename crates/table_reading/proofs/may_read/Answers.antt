-- `table_reading::may_read` meets its contract: the file first, then the room in the columns and the groups. Assumes nothing.
use mathlib.Core.Path.{sym, ◌∙◌, ap}
use Rattle.files.specs.Readings.{judged_of}
use Rattle.table_reading.proofs.Readings.{file_fault, few_nodes, short_columns, short_room, all_read}
use Rattle.table_reading.proofs.may_read.Goals as goal

pub returns-then-not-columns_reach : goal.returns-then-not-columns_reach
returns-then-not-columns_reach c =
    short_columns c.args.file.now c.args.columns.now c.args.groups.now c.in-Ok.count (sym (ap judged_of c.in-Ok.is) ∙ c.judge_file.ensures)
    (sym c.columns_reach.ensures ∙ c.if-not-columns_reach.true)

pub groups_reach-requires : goal.groups_reach-requires
groups_reach-requires c =
    few_nodes c.args.file.now c.args.columns.now c.args.groups.now c.in-Ok.count (sym (ap judged_of c.in-Ok.is) ∙ c.judge_file.ensures)

pub returns-then-not-groups_reach : goal.returns-then-not-groups_reach
returns-then-not-groups_reach c =
    short_room c.args.file.now c.args.columns.now c.args.groups.now c.in-Ok.count (sym (ap judged_of c.in-Ok.is) ∙ c.judge_file.ensures)
    (sym c.groups_reach.ensures ∙ c.if-not-groups_reach.true)

pub returns : goal.returns
returns c =
    all_read c.args.file.now c.args.columns.now c.args.groups.now c.in-Ok.count (sym (ap judged_of c.in-Ok.is) ∙ c.judge_file.ensures)
    (sym c.columns_reach.ensures ∙ c.if-not-columns_reach.false) (sym c.groups_reach.ensures ∙ c.if-not-groups_reach.false)

pub returns-in-Err : goal.returns-in-Err
returns-in-Err c =
    file_fault c.args.file.now c.args.columns.now c.args.groups.now c.in-Err.fault.place (sym (ap judged_of c.in-Err.is) ∙ c.judge_file.ensures)
