-- Which reading of document 01's file form each value of an enum stands for, and what a file must be to have its nodes written.
--
--   node_of                      a node read
--   judged_of file_verdict      the verdict on a whole file: the count of its nodes, or refusal 1 with its place
--   Readable                    a file with no fault, and columns that reach its count
use Rattle.std.specs.Prelude.{ℕ, ◌≤◌, ◌≡◌, List, length, Result, Ok, Err}
use Rattle.meaning.specs.Files as file
use Rattle.meaning.specs.Files.{Reading, faulty, found, table_in}
use Rattle.meaning.specs.TypeCalls.{entries_in}
use Rattle.meaning.specs.Ladder.{Answer, refused, accepted}
use Rattle.tables.specs.Kinds.{kind_no}
use Rattle.files_numbers.specs.declared.Fault.{Fault}
use Rattle.files.specs.declared.Entry.{Entry}

-- A node's entry.
abbrev pub entry_of : Entry → file.Entry
entry_of e = record { kind = kind_no e.kind; left = e.left; right = e.right }

-- A node read, or the fault in it.
abbrev pub node_of : Result Entry Fault → Result file.Entry Fault
node_of (Ok e) = Ok (entry_of e)
node_of (Err f) = Err f

-- The verdict that an answer stands for.
abbrev pub judged_of : Result ℕ Fault → Answer ℕ
judged_of (Ok n) = accepted n
judged_of (Err f) = refused 1 f.place

-- The verdict on a whole file.
abbrev pub file_verdict : Reading (List file.Entry) → Answer ℕ
file_verdict (faulty p) = refused 1 p
file_verdict (found es at) = accepted (length es)

-- A file with no fault, and columns that reach the count of its nodes.
pub record Readable (file kinds lefts rights : List ℕ) : Type 0 where
  pub no_fault : file_verdict (table_in file) ≡ accepted (length (entries_in (table_in file)))
  pub kinds_reach : length (entries_in (table_in file)) ≤ length kinds
  pub lefts_reach : length (entries_in (table_in file)) ≤ length lefts
  pub rights_reach : length (entries_in (table_in file)) ≤ length rights
