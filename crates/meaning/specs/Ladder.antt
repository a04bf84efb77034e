-- The refusal ladder: document 01, "The refusal ladder". A call's answer is a list of rungs in the order of their numbers: the first whose
-- fact holds refuses, and where none holds the call is accepted.
--
--   Answer Rung ladder          answers, a fact with its number and place, the first that holds
--   kept                        a lent buffer afterwards: as it stood if refused
--   Record record_of Stream stream_of       bytes, offset and node; bytes, length and position, in bits
--   type_at type_of               the type of a node, and of a record
--   record_bits rest_of          the own bits of a record; the bits of a stream from its position to its length
--   widest largest              the limits of 3 and 4
--   sound present small named within stream_fits ranged shaped room_for
--                               the rungs that many calls share: 1; 2; 3 and 4; 1 to 4; 5; 5; 6; 7; 9
--   makes made                  a call that writes bits: its answer and its output
use Rattle.std.specs.Prelude.{ℕ, ◌+◌, ◌*◌, Bool, true, false, not, ◌&&◌, ◌||◌, List, [], ◌∷◌, ◌++◌, length, take, drop, ltb, leb}
use Rattle.meaning.specs.Choice.{any}
use Rattle.meaning.specs.Types.{Ty, bits, size}
use Rattle.meaning.specs.Tables.{Table, ty_at, count_right, columns_reach, facts_reach, first_bad}
use Rattle.meaning.specs.Bits.{bits_of, room, written}

-- A refusal with its number and place, or what was accepted.
pub data Answer (A : Type 0) : Type 0 where
  refused : ℕ → ℕ → Answer A
  accepted : A → Answer A

-- A fact that refuses, with its number and its place.
pub data Rung : Type 0 where
  rung : Bool → ℕ → ℕ → Rung

-- The first rung whose fact holds refuses; where none holds, the value is accepted.
unfoldable pub ladder : {A : Type 0} → List Rung → A → Answer A
ladder [] a = accepted a
ladder (rung true n p ∷ rs) a = refused n p
ladder (rung false n p ∷ rs) a = ladder rs a

-- A lent buffer after a call: a refusal leaves it as it stood.
abbrev pub kept : {A : Type 0} → Answer A → List ℕ → List ℕ → List ℕ
kept (refused n p) before after = before
kept (accepted a) before after = after

-- A record is bytes, a bit offset and a node.
pub record Record : Type 0 where
  pub bytes : List ℕ
  pub offset : ℕ
  pub node : ℕ

-- A record from its parts.
abbrev pub record_of : List ℕ → ℕ → ℕ → Record
record_of b o n = record { bytes = b; offset = o; node = n }

-- A stream is bytes, a length in bits (`until`) and a position.
pub record Stream : Type 0 where
  pub bytes : List ℕ
  pub until : ℕ
  pub position : ℕ

-- A stream from its parts.
abbrev pub stream_of : List ℕ → ℕ → ℕ → Stream
stream_of b l p = record { bytes = b; until = l; position = p }

-- The type of a node that a call names.
abbrev pub type_at : Table → ℕ → Ty
type_at t n = ty_at t.columns n

-- The type of a record.
abbrev pub type_of : Table → Record → Ty
type_of t r = ty_at t.columns r.node

-- A record's own bits: the next width bits from its offset on.
unfoldable pub record_bits : Table → Record → List Bool
record_bits t r = take (bits (type_of t r)) (drop r.offset (bits_of r.bytes))

-- The bits of a stream from its position to its length.
unfoldable pub rest_of : Stream → List Bool
rest_of s = drop s.position (take s.until (bits_of s.bytes))

-- 1: a bad count, a short column or too few groups, at 0; then the first node at fault.
abbrev pub sound : Table → List Rung
sound t =
    rung (not (count_right t.count && columns_reach t.columns t.count && facts_reach t.facts t.count)) 1 0
    ∷ rung (ltb (first_bad t) t.count) 1 (first_bad t)
    ∷ []

-- 2: a named node isn't in the table.
abbrev pub present : Table → List ℕ → List Rung
present t ns = rung (any (λ n. leb t.count n) ns) 2 0 ∷ []

-- The widest record type, and the largest, that a call takes.
abbrev pub widest : ℕ
widest = 524288

abbrev pub largest : ℕ
largest = 2097152

-- 3 and 4: a named record type is wider than 524,288 bits; its size is above 2,097,152.
abbrev pub small : Table → List ℕ → List Rung
small t ns =
    rung (any (λ n. ltb widest (bits (ty_at t.columns n))) ns) 3 0 ∷ rung (any (λ n. ltb largest (size (ty_at t.columns n))) ns) 4 0 ∷ []

-- 1 to 4, of all nodes that a call names as record types.
abbrev pub named : Table → List ℕ → List Rung
named t ns = sound t ++ (present t ns ++ small t ns)

-- 5: offset plus width runs past the bytes.
abbrev pub within : Table → List Record → List Rung
within t rs = rung (any (λ r. ltb (8 * length r.bytes) (r.offset + bits (type_of t r))) rs) 5 0 ∷ []

-- 5: a stream's length runs past the bytes, or the position lies past that length.
abbrev pub stream_fits : Stream → List Rung
stream_fits s = rung (ltb (8 * length s.bytes) s.until || ltb s.until s.position) 5 0 ∷ []

-- 6: a number is outside its range.
abbrev pub ranged : Bool → List Rung
ranged in_range = rung (not in_range) 6 0 ∷ []

-- 7: wrong shape.
abbrev pub shaped : Bool → List Rung
shaped right = rung (not right) 7 0 ∷ []

-- 9: the output is shorter than the whole result needs.
abbrev pub room_for : List Bool → List ℕ → List Rung
room_for v out = rung (ltb (length out) (room (length v))) 9 0 ∷ []

-- A call that writes bits from bit 0 of its output on: after its other rungs the room decides, and the answer is how many bits they are.
abbrev pub makes : List Rung → List Bool → List ℕ → Answer ℕ
makes rs v out = ladder (rs ++ room_for v out) (length v)

-- Its output afterwards.
abbrev pub made : List Rung → List Bool → List ℕ → List ℕ
made rs v out = kept (makes rs v out) out (written v out)
