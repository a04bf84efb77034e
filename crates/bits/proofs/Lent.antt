-- A call hands its inner function the bytes from the byte of an offset on, `&bytes[offset / 8..]`, and the bit offset % 8 there, so that the
-- numbers of bits stay small. The bits are the same.
--
--   lent lent_length            those bytes
--   lent_starts lent_inside     they begin within the bytes, and n bits from the offset on lie in them
--   lent_run lent_record        the own bits of a record, read there
--   record_length               a record that lies within its bytes has as many bits as its type is wide
--   rest_length                 what is left of a stream
--   padded_early padded_whole   padded reading, by how many bits are left
-- Assumes nothing.
use mathlib.Core.Path.{◌≡◌, ap, ap₂, ◌∙◌}
use mathlib.Core.Bool.{Bool, cond}
use mathlib.Core.List.{List}
use Prim.Native.Nat.{ℕ, ◌+◌, ◌-◌, ◌*◌, ◌/◌, ◌%◌, ◌^◌, ◌≤◌, ◌<◌}
use native.Mathlib.Omega.{arith}
use lib.ListN.{length, take, drop, length-take, length-drop}
use borrow.Author.Tests.{le-leb, lt-leb}
use Rattle.meaning.specs.Types.{Ty, bits}
use Rattle.meaning.specs.Tables.{Table}
use Rattle.meaning.specs.Bits.{bits_of}
use Rattle.meaning.specs.Codecs.{early, decoded, decode_padded}
use Rattle.meaning.specs.Ladder.{Record, Stream, type_of, record_bits, rest_of}
use Rattle.bits.specs.Runs.{Run}
use Rattle.bits.proofs.OfBytes.{length_bits_of, tail, part_lent}
use Rattle.bits.proofs.Runs.{length_run}

-- The bytes from the byte of bit o on, as a slice has them.
abbrev pub lent : List ℕ → ℕ → List ℕ
lent bytes o = take (length bytes - o / 8) (drop (o / 8) bytes)

pub lent_length : (bytes : List ℕ) (o : ℕ) → length (lent bytes o) ≡ length bytes - o / 8
lent_length bytes o = ap length (tail (o / 8) bytes) ∙ length-drop (o / 8) bytes

module _ (bytes : List ℕ) (o n : ℕ) (h : o + n ≤ 8 * length bytes) where
  pub lent_starts : o / 8 ≤ length bytes
  lent_starts = omega arith

  pub lent_inside : o % 8 + n ≤ 8 * length (lent bytes o)
  lent_inside = omega (arith, lent_length bytes o)

  pub lent_run : n ≤ 2 ^ 63 → Run (lent bytes o) (o % 8) n
  lent_run low = record { inside = lent_inside; counted = omega arith }

pub lent_record : (t : Table) (r : Record) (w : ℕ) → w ≡ bits (type_of t r)
    → take w (drop (r.offset % 8) (bits_of (lent r.bytes r.offset))) ≡ record_bits t r
unfolding record_bits
lent_record t r w e = ap₂ take e (part_lent r.offset r.bytes)

pub record_length : (t : Table) (r : Record) → r.offset + bits (type_of t r) ≤ 8 * length r.bytes → length (record_bits t r) ≡ bits (type_of t r)
unfolding record_bits
record_length t r h =
    length_run (bits_of r.bytes) r.offset (bits (type_of t r)) (omega (arith, length_bits_of r.bytes))

pub rest_length : (s : Stream) → s.until ≤ 8 * length s.bytes → length (rest_of s) ≡ s.until - s.position
unfolding rest_of
rest_length s h =
    omega (
      arith,
      length-drop s.position (take s.until (bits_of s.bytes)),
      length-take s.until (bits_of s.bytes),
      length_bits_of s.bytes,
    )

pub padded_early : (t : Ty) (s : List Bool) → length s < bits t → decode_padded t s ≡ early
unfolding decode_padded
padded_early t s h = ap (λ (b : Bool). cond b (decoded (take (bits t) s) (bits t)) early) (lt-leb (bits t) (length s) h)

pub padded_whole : (t : Ty) (s : List Bool) → bits t ≤ length s → decode_padded t s ≡ decoded (take (bits t) s) (bits t)
unfolding decode_padded
padded_whole t s h = ap (λ (b : Bool). cond b (decoded (take (bits t) s) (bits t)) early) (le-leb (bits t) (length s) h)
