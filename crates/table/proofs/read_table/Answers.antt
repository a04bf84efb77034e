-- `table::read_table` meets its contract: what is judged to be right is read, its nodes first and then their facts. Assumes nothing.
use Rattle.meaning.specs.Tables.{columns}
use Rattle.table_reading.proofs.Readings.{read_written}
use Rattle.table.proofs.read_table.Goals as goal

pub returns-clause-groups_after : goal.returns-clause-groups_after
returns-clause-groups_after c =
    let a = c.args in
    let w = c.write_table.new in
    (read_written a.file.now (columns a.kinds.now a.lefts.now a.rights.now) a.groups.now c.in_ok-count.count (columns w.kinds w.lefts w.rights) w.groups
    c.in_ok-count.ensures c.write_table.ensures.rights_after c.write_table.ensures.groups_after).1.1.1.1
