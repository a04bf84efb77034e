-- The word that is chosen for bytes.
--
--   chosen_rungs    1 to 7 of a call that makes it
use Rattle.std.specs.Prelude.{ℕ, true, false, Option, None, Some, List}
use Rattle.meaning.specs.Tables.{Table}
use Rattle.meaning.specs.Words.{is_word}
use Rattle.meaning.specs.Ladder.{Rung, type_at}
use Rattle.meaning.specs.WordCalls.{from_range}

-- 6 where there is no word for the bytes, 7 where the result is another than that word.
abbrev pub chosen_rungs : Table → Option ℕ → ℕ → List Rung
chosen_rungs t None res = from_range t res false false
chosen_rungs t (Some n) res = from_range t res true (is_word n (type_at t res))
