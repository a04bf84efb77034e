-- Left and right said once, over the tag that names the side: 0 the left one, 1 the right one.
--
--   side_node side_type padding     the node and the type of a side, and the padding before its payload
--   says                            a tag is the one asked for
--   wrapped                         a record made of its payload
use Rattle.std.specs.Prelude.{ℕ, Bool, true, false, not, List}
use Rattle.meaning.specs.Types.{Ty, left_side, right_side}
use Rattle.meaning.specs.Tables.{Columns, left, right}
use Rattle.meaning.specs.Records.{pad_left, pad_right, in_left, in_right}

-- The node of a side, as the column has it.
abbrev pub side_node : Bool → Columns → ℕ → ℕ
side_node true c n = right c n
side_node false c n = left c n

-- The type of a side.
abbrev pub side_type : Bool → Ty → Ty
side_type true t = right_side t
side_type false t = left_side t

-- The padding between the tag and the payload of a side.
abbrev pub padding : Bool → Ty → ℕ
padding true t = pad_right (left_side t) (right_side t)
padding false t = pad_left (left_side t) (right_side t)

-- The tag is this one.
abbrev pub says : Bool → Bool → Bool
says true g = g
says false g = not g

-- The record with this tag and payload, new padding zero.
abbrev pub wrapped : Bool → Ty → List Bool → List Bool
wrapped true t p = in_right (left_side t) (right_side t) p
wrapped false t p = in_left (left_side t) (right_side t) p
