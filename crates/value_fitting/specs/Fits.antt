-- When a result fits what is to be put into it, given the nodes of the payloads.
--
--   option_fits wrap_fits join_fits     an option, a sum over the tag, a product
use Rattle.std.specs.Prelude.{ℕ, Bool, ◌&&◌}
use Rattle.meaning.specs.Types.{same, is_unit, is_sum, is_prod, left_side, right_side}
use Rattle.meaning.specs.Tables.{Table}
use Rattle.meaning.specs.Ladder.{type_at}
use Rattle.checked.specs.Sides.{side_type}

-- The result is a sum with a unit left side.
abbrev pub option_fits : Table → ℕ → Bool
option_fits t result = is_sum (type_at t result) && is_unit (left_side (type_at t result))

-- The result is a sum whose side of this tag is the payload's type.
abbrev pub wrap_fits : Bool → Table → ℕ → ℕ → Bool
wrap_fits g t n result = is_sum (type_at t result) && same (side_type g (type_at t result)) (type_at t n)

-- The result is the product of the two types.
abbrev pub join_fits : Table → ℕ → ℕ → ℕ → Bool
join_fits t m n result =
    is_prod (type_at t result) && same (left_side (type_at t result)) (type_at t m) && same (right_side (type_at t result)) (type_at t n)
