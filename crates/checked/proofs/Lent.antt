-- Records and streams in the bytes that a call lends its inner functions, `&bytes[offset / 8..]`: the laws of lent bytes, for what was checked.
--
--   part_run                a run within a run
--   lent starts             the part of a record's bytes that is lent; it begins within the bytes
--   lent_run                the record lies within the part
--   lent_bits lent_tag      its bits, and its first bit, read from the part
--   own_length              it has as many bits as its type is wide
--   lent_stream             the part of a stream's bytes that is lent, from the byte of its position on
--   stream_starts stream_inside     the part begins within the bytes, and what is left of the stream lies within the part
--   stream_taken stream_rest rest_length    what is left, read from the part: as many bits from the position on, or the bits up to the length
--                                   from the position on; and how much that is
--   padded_run padded_short padded_lent     padded reading of it: the run that it reads, and what it reads, by how many bits are left
-- Assumes nothing.
use mathlib.Core.Path.{◌≡◌, refl, sym, ap, ap₂, ◌∙◌}
use mathlib.Core.Bool.{Bool, false}
use mathlib.Core.List.{List}
use Prim.Native.Nat.{ℕ, ◌+◌, ◌-◌, ◌*◌, ◌/◌, ◌%◌, ◌≤◌, ◌<◌}
use native.Mathlib.Nat.{add-zero}
use native.Mathlib.Omega.{arith}
use lib.ListN.{length, get_or, take, drop}
use lib.Seq.{get_or-take, get_or-drop, take-take}
use Rattle.meaning.specs.Types.{bits}
use Rattle.meaning.specs.Tables.{Table}
use Rattle.meaning.specs.Bits.{bits_of}
use Rattle.meaning.specs.Records.{tag}
use Rattle.meaning.specs.Codecs.{early, decoded, decode_padded}
use Rattle.meaning.specs.Ladder.{Record, Stream, type_at, type_of, record_bits, rest_of}
use Rattle.bits.specs.Runs.{Run}
use Rattle.bits.proofs.Lent as bytes
use Rattle.bits.proofs.OfBytes.{part_lent}
use Rattle.bits.proofs.Runs.{drop_run}
use Rattle.checked.specs.Passed.{Held, Streamed}

pub part_run : {s : List ℕ} {at n : ℕ} → Run s at n → (k m : ℕ) → k + m ≤ n → Run s (at + k) m
part_run r k m l = record { inside = omega (arith, r.inside); counted = omega (arith, r.counted) }

-- Dropping from what was taken.
drop_taken : {A : Type 0} (k n : ℕ) (v : List A) → drop k (take (k + n) v) ≡ take n (drop k v)
drop_taken k n v =
    let e : k + n - k ≡ n = omega arith in
    let f : 0 + k ≡ k = omega arith in
    drop_run v 0 (k + n) k ∙ ap₂ (λ (i j : ℕ). take i (drop j v)) e f

-- The part of a record's bytes that is lent.
abbrev pub lent : Record → List ℕ
lent r = bytes.lent r.bytes r.offset

module _ (t : Table) (r : Record) (h : Held t r) where
  pub starts : r.offset / 8 ≤ length r.bytes
  starts = bytes.lent_starts r.bytes r.offset (bits (type_of t r)) h.ends

  pub lent_run : (n : ℕ) → n ≡ bits (type_of t r) → Run (lent r) (r.offset % 8) n
  lent_run n e = bytes.lent_run r.bytes r.offset n (omega (arith, h.ends)) (omega (arith, h.named.narrow))

  pub lent_bits : (n : ℕ) → n ≡ bits (type_of t r) → take n (drop (r.offset % 8) (bits_of (lent r))) ≡ record_bits t r
  lent_bits n e = bytes.lent_record t r n e

  pub lent_tag : 0 < bits (type_of t r) → get_or (bits_of (lent r)) (r.offset % 8) false ≡ tag (record_bits t r)
  lent_tag w =
      ap (λ (i : ℕ). get_or (bits_of (lent r)) i false) (sym (add-zero (r.offset % 8)))
      ∙ sym (get_or-drop (r.offset % 8) (bits_of (lent r)) 0 false)
      ∙ sym (get_or-take (bits (type_of t r)) (drop (r.offset % 8) (bits_of (lent r))) 0 false w)
      ∙ ap tag (lent_bits (bits (type_of t r)) refl)

  pub own_length : length (record_bits t r) ≡ bits (type_of t r)
  own_length = bytes.record_length t r h.ends

-- The part of a stream's bytes that is lent, from the byte of its position on.
abbrev pub lent_stream : Stream → List ℕ
lent_stream s = bytes.lent s.bytes s.position

module _ (t : Table) (s : Stream) (n : ℕ) (h : Streamed t s n) where
  -- The bits from the position on, in the part.
  abbrev from : List Bool
  from = drop (s.position % 8) (bits_of (lent_stream s))

  abbrev left : ℕ
  left = s.until - s.position

  pub stream_starts : s.position / 8 ≤ length s.bytes
  stream_starts = omega (arith, h.ends, h.begins)

  pub stream_inside : s.position % 8 + (s.until - s.position) ≤ 8 * length (lent_stream s)
  stream_inside = bytes.lent_inside s.bytes s.position left (omega (arith, h.ends, h.begins))

  pub stream_taken : take (s.until - s.position) (drop (s.position % 8) (bits_of (lent_stream s))) ≡ rest_of s
  unfolding rest_of
  stream_taken =
      let e : s.position + left ≡ s.until = omega (arith, h.begins) in
      ap (take left) (part_lent s.position s.bytes)
      ∙ sym (drop_taken s.position left (bits_of s.bytes))
      ∙ ap (λ (k : ℕ). drop s.position (take k (bits_of s.bytes))) e

  pub stream_rest : drop (s.position % 8) (take (s.position % 8 + (s.until - s.position)) (bits_of (lent_stream s))) ≡ rest_of s
  stream_rest = drop_taken (s.position % 8) left (bits_of (lent_stream s)) ∙ stream_taken

  pub rest_length : length (rest_of s) ≡ s.until - s.position
  rest_length = bytes.rest_length s h.ends

  pub padded_short : s.until - s.position < bits (type_at t n) → decode_padded (type_at t n) (rest_of s) ≡ early
  padded_short l = bytes.padded_early (type_at t n) (rest_of s) (omega (arith, rest_length))

  module _ (l : bits (type_at t n) ≤ s.until - s.position) where
    pub padded_run : Run (lent_stream s) (s.position % 8) (bits (type_at t n))
    padded_run = record { inside = omega (arith, stream_inside); counted = omega (arith, h.named.narrow) }

    pub padded_lent : decode_padded (type_at t n) (rest_of s)
        ≡ decoded (take (bits (type_at t n)) (drop (s.position % 8) (bits_of (lent_stream s)))) (bits (type_at t n))
    padded_lent =
        let w = bits (type_at t n) in
        bytes.padded_whole (type_at t n) (rest_of s) (omega (arith, rest_length))
        ∙ ap (λ (v : List Bool). decoded v w) (ap (take w) (sym stream_taken) ∙ take-take w left from l)
