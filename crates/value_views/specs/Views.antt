-- Views, after the rungs that all calls on records share.
--
--   payload_spot payload_rungs payload_at   the payload of a sum, over the tag: its place, its own rungs, the answer
--   parts_spots parts_rungs parts_at         the same of the parts of a product
use Rattle.std.specs.Prelude.{◌+◌, Bool, ◌&&◌, List, ◌++◌}
use Rattle.meaning.specs.Types.{bits, is_sum, is_prod, left_side}
use Rattle.meaning.specs.Tables.{Table, left, right}
use Rattle.meaning.specs.Records.{tag}
use Rattle.meaning.specs.Ladder.{Answer, Rung, ladder, Record, type_of, record_bits, shaped}
use Rattle.meaning.specs.RecordCalls.{Spot, Spots, addressed}
use Rattle.checked.specs.Sides.{side_node, padding, says}

-- Where the payload of a record with this tag lies.
abbrev pub payload_spot : Bool → Table → Record → Spot
payload_spot g t r = record { offset = r.offset + (1 + padding g (type_of t r)); node = side_node g t.columns r.node }

-- The payload's own rungs: 5 where its offset might be no 64-bit number, 7.
abbrev pub payload_rungs : Bool → Table → Record → List Rung
payload_rungs g t r = addressed t r ++ shaped (is_sum (type_of t r) && says g (tag (record_bits t r)))

-- The payload of a record with this tag.
abbrev pub payload_at : Bool → Table → Record → Answer Spot
payload_at g t r = ladder (payload_rungs g t r) (payload_spot g t r)

-- Where the parts of a product lie.
abbrev pub parts_spots : Table → Record → Spots
parts_spots t r =
    record {
      first = record { offset = r.offset; node = left t.columns r.node };
      second = record { offset = r.offset + bits (left_side (type_of t r)); node = right t.columns r.node };
    }

-- Their own rungs.
abbrev pub parts_rungs : Table → Record → List Rung
parts_rungs t r = addressed t r ++ shaped (is_prod (type_of t r))

-- The parts of a product.
abbrev pub parts_at : Table → Record → Answer Spots
parts_at t r = ladder (parts_rungs t r) (parts_spots t r)
