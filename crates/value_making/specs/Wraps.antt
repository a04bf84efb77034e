-- The bits of a record that is made of its payload.
--
--   wrap_bits      a sum, over the tag
use Rattle.std.specs.Prelude.{ℕ, Bool, List}
use Rattle.meaning.specs.Tables.{Table}
use Rattle.meaning.specs.Ladder.{Record, type_at, record_bits}
use Rattle.checked.specs.Sides.{wrapped}

-- The bits of a sum with this tag and payload.
abbrev pub wrap_bits : Bool → Table → Record → ℕ → List Bool
wrap_bits g t p result = wrapped g (type_at t result) (record_bits t p)
