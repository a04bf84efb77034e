-- What a report does to the bytes that an input has left and to those that an output holds, where they are known.
--
--   Reports                     at most so many bytes were taken from the front of the input, and their report was appended to the output
use Rattle.std.specs.Prelude.{ℕ, ◌≤◌, List, length}
use Rattle.std.specs.Io.KnownBytes.{Consumes, Appends}
use Rattle.std.specs.declared.option.Option.{Option}
use Rattle.lines_digits.specs.Report.{file_text}

-- At most n bytes were taken from the front of the input, and their report was appended to the output.
abbrev pub Reports : ℕ → Option (List ℕ) → Option (List ℕ) → Option (List ℕ) → Option (List ℕ) → Type 0
Reports n left left' held held' = (file : List ℕ) × (length file ≤ n) × Consumes left left' file × Appends held held' (file_text file)
