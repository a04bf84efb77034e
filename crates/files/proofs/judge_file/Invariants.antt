-- `files::judge_file` meets its contract. The loop's invariant: the first n nodes are found, and the reader is at the next.
use Rattle.files.proofs.Whole.{Counted}
use Rattle.files.proofs.Entries.{ReadUpTo}
use Rattle.files.proofs.judge_file.Given as goal

abbrev pub invariant-loop-n : goal.invariant-loop-n
invariant-loop-n l = record {
  counted : Counted l.file l.count l.initial.reader;
  read : ReadUpTo l.initial.reader l.n l.reader;
}
