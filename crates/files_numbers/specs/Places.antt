-- Where a reader of a table's file stands.
--
--   Place                       a file, and the offset of the byte that is next
--   place_at front              the byte at an offset is next, or the file's first byte
--   behind                      where a reading leaves off
use Rattle.std.specs.Prelude.{ℕ, List}
use Rattle.meaning.specs.Files.{Reading, faulty, found}

-- A file, and the offset of the byte that is next.
pub record Place : Type 0 where
  pub file : List ℕ
  pub at : ℕ

-- The byte at an offset is next, which may lie past the file's end.
abbrev pub place_at : List ℕ → ℕ → Place
place_at file offset = record { file = file; at = offset }

-- The file's first byte is next.
abbrev pub front : List ℕ → Place
front file = record { file = file; at = 0 }

-- Behind what was found, or at the fault.
abbrev pub behind : {A : Type 0} → Place → Reading A → Place
behind p (faulty q) = record { file = p.file; at = q }
behind p (found a next) = record { file = p.file; at = next }
