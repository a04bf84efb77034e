-- `table_reading::write_table` meets its contract: the nodes first, and then the facts of what was written. Assumes nothing.
use Rattle.meaning.specs.Tables.{columns}
use Rattle.table_reading.proofs.Readings.{readable, fillable_after}
use Rattle.table_reading.proofs.write_table.Goals as goal

pub write_columns-requires : goal.write_columns-requires
write_columns-requires c =
    let a = c.args in readable a.file.now (columns a.kinds.now a.lefts.now a.rights.now) a.groups.now a.count c.requires

pub fill-requires : goal.fill-requires
fill-requires c =
    let a = c.args in
    fillable_after a.file.now (columns a.kinds.now a.lefts.now a.rights.now) a.groups.now a.count c.requires
    (columns c.write_columns.new.kinds c.write_columns.new.lefts c.write_columns.new.rights) c.write_columns.ensures
