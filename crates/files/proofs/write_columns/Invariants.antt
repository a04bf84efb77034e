-- `files::write_columns` meets its contract. The loop's invariant: the first n nodes are found and written, and the reader is at the next.
use Rattle.std.proofs.Common.{◌≡◌}
use Rattle.meaning.specs.Tables.{columns}
use Rattle.meaning.specs.TypeCalls.{entries_written}
use Rattle.files.proofs.Whole.{Counted}
use Rattle.files.proofs.Entries.{ReadUpTo, first_nodes}
use Rattle.files.proofs.write_columns.Given as goal

abbrev pub invariant-loop-n : goal.invariant-loop-n
invariant-loop-n l = record {
  counted : Counted l.file l.count l.initial.reader;
  read : ReadUpTo l.initial.reader l.n l.reader;
  written :
      columns l.kinds l.lefts l.rights
      ≡ entries_written (first_nodes l.initial.reader l.n) (columns l.initial.kinds l.initial.lefts l.initial.rights);
}
