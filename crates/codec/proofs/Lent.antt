-- Compact bits in the bytes that a call lends its walk.
--
--   record_compact            those of a record
--   stream_same               a whole reading of a stream: past its end nothing matters
-- Assumes nothing.
use mathlib.Core.Path.{◌≡◌, refl, sym, ap, ◌∙◌}
use mathlib.Core.Bool.{Bool}
use mathlib.Core.List.{List}
use Prim.Native.Nat.{ℕ, ◌-◌, ◌%◌}
use lib.ListN.{take, drop, take-append-drop}
use Rattle.meaning.specs.Types.{bits}
use Rattle.meaning.specs.Tables.{Table}
use Rattle.meaning.specs.Bits.{bits_of}
use Rattle.meaning.specs.Records.{compact}
use Rattle.meaning.specs.Codecs.{decoded, decode_compact}
use Rattle.meaning.specs.Ladder.{Record, Stream, type_at, type_of}
use Rattle.meaning.specs.CodecCalls.{compact_in, compact_bits}
use Rattle.laws.proofs.CodecExact.{compact_more_bits}
use Rattle.checked.specs.Passed.{Held, Streamed}
use Rattle.checked.proofs.Lent.{lent, lent_bits, lent_stream, stream_taken}
use Rattle.codec_laws.proofs.Pieces.{compact_take}

pub record_compact : (t : Table) (r : Record) → Held t r → compact (type_of t r) (drop (r.offset % 8) (bits_of (lent r))) ≡ compact_bits t r
record_compact t r h =
    sym (compact_take (type_of t r) (drop (r.offset % 8) (bits_of (lent r))))
    ∙ ap (compact (type_of t r)) (lent_bits t r h (bits (type_of t r)) refl)

pub stream_same : (t : Table) (s : Stream) (n : ℕ) → Streamed t s n → {v : List Bool} {k : ℕ} → compact_in t s n ≡ decoded v k
    → decode_compact (type_at t n) (drop (s.position % 8) (bits_of (lent_stream s))) ≡ decoded v k
stream_same t s n h {v} {k} e =
    let type = type_at t n in
    let left = s.until - s.position in
    let from = drop (s.position % 8) (bits_of (lent_stream s)) in
    ap (decode_compact type) (sym (take-append-drop left from))
    ∙ compact_more_bits type (take left from) (drop left from) v k (ap (decode_compact type) (stream_taken t s n h) ∙ e)
