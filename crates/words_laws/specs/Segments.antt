-- What a segment of a buffer holds.
--
--   held_by        how many bytes of the data segment k holds
use Rattle.std.specs.Prelude.{ℕ, ◌/◌, ◌^◌, cond, List, length}
use Rattle.meaning.specs.Bits.{odd}

-- A present segment holds 2 to the k bytes, an absent one none.
abbrev pub held_by : ℕ → List ℕ → ℕ
held_by k bytes = cond (odd (length bytes / 2 ^ k)) (2 ^ k) 0
