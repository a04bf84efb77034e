-- The numbers by which the entries of a list are counted.
--
--   entry_number      an entry's number
use Rattle.std.specs.Prelude.{ℕ}
use Rattle.samples_names.specs.Numbers.{number_of}
use Rattle.samples_names.specs.declared.TheConstants.{CALLS}
use Rattle.replay.specs.declared.steps.Entry.{Entry}

-- A call has its own, and a table the one after all calls'.
abbrev pub entry_number : Entry → ℕ
entry_number (Entry.Call call) = number_of call
entry_number Entry.Table = CALLS
