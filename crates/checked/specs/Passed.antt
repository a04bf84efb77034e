-- What the first rungs of a call let pass, in one vocabulary. Inner functions rely on it and laws about calls assume it; no public call does.
--
--   All            every member of a list
--   Present        a node of a sound table: 1 and 2 do not apply
--   Named          a record type within the limits: nor do 3 and 4
--   Held           a record of such a type that lies within its bytes: nor does 5
--   Streamed       a stream within its bytes, a position within the stream, and the type that is read there: the same of a reader
use Rattle.std.specs.Prelude.{ℕ, ◌+◌, ◌*◌, ◌≤◌, ◌<◌, List, [], ◌∷◌, length}
use Rattle.meaning.specs.Types.{bits, size}
use Rattle.meaning.specs.Tables.{Table}
use Rattle.meaning.specs.Ladder.{Record, Stream, type_at, type_of}
use Rattle.meaning.specs.Checked.{Sound}

-- Every member of a list has a property.
abbrev pub All : {A : Type 0} → (A → Type 0) → List A → Type 0
All p [] = Unit {0}
All p (x ∷ xs) = p x × All p xs

-- A node of a sound table.
pub record Present (t : Table) (n : ℕ) : Type 0 where
  pub sound : Sound t
  pub here : n < t.count

-- A node of a sound table whose type is at most 524,288 bits wide and of a size of at most 2,097,152.
pub record Named (t : Table) (n : ℕ) : Type 0 where
  pub sound : Sound t
  pub here : n < t.count
  pub narrow : bits (type_at t n) ≤ 524288
  pub few : size (type_at t n) ≤ 2097152

-- A record of such a node within its bytes.
pub record Held (t : Table) (r : Record) : Type 0 where
  pub named : Named t r.node
  pub ends : r.offset + bits (type_of t r) ≤ 8 * length r.bytes

-- A stream within its bytes, a position within the stream, and such a node.
pub record Streamed (t : Table) (s : Stream) (n : ℕ) : Type 0 where
  pub named : Named t n
  pub ends : s.until ≤ 8 * length s.bytes
  pub begins : s.position ≤ s.until
