-- Equality and order of two records, after the rungs that all calls on records share.
--
--   alike_at       the same type and the same bits
--   ordered_at     the order
use Prim.Native.Nat.{Ordering}
use Rattle.std.specs.Prelude.{Bool, ◌&&◌}
use Rattle.meaning.specs.Types.{same}
use Rattle.meaning.specs.Tables.{Table}
use Rattle.meaning.specs.Records.{same_bits, order_bits}
use Rattle.meaning.specs.Ladder.{Record, type_of, record_bits}
use Rattle.meaning.specs.RecordCalls.{order_then, order_types}

-- Two records have the same type and the same bits.
abbrev pub alike_at : Table → Record → Record → Bool
alike_at t a b = same (type_of t a) (type_of t b) && same_bits (record_bits t a) (record_bits t b)

-- The order of two records.
abbrev pub ordered_at : Table → Record → Record → Ordering
ordered_at t a b = order_then (order_types t a.node b.node) (order_bits (record_bits t a) (record_bits t b))
