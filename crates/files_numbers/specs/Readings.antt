-- How a reading of the file form is told.
--
--   answer_of                   what was read, or the fault
--   seen_at                     what a number at an offset was seen to be
use Rattle.std.specs.Prelude.{ℕ, Option, Some, None, Result, Ok, Err}
use Rattle.meaning.specs.Files.{Reading, faulty, found}
use Rattle.files_numbers.specs.declared.Fault.{Fault}

-- What was read, or the fault with its place.
abbrev pub answer_of : {A : Type 0} → Reading A → Result A Fault
answer_of (faulty p) = Err (record { place = p })
answer_of (found a next) = Ok a

-- A number with the offset after it, where one stands at the offset; the place of a fault is the number's first byte.
abbrev pub seen_at : ℕ → Option (ℕ × ℕ) → Reading ℕ
seen_at at (Some s) = found s.0 s.1
seen_at at None = faulty at
