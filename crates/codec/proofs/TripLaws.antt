-- Writing and reading undo one another, as a caller meets them: what one call has written, the next one takes.
--
--   compact_write_read_calls              compact bits that were written are read back to the record with zero padding, whatever follows them
--   compact_write_read_plain_calls        a record with zero padding comes back bit for bit
--   compact_read_write_calls              what was read, written again, is what was consumed
--   padded_write_read_calls padded_read_write_calls     the same of padded bits, with the padding as it is
-- Assumes nothing.
use mathlib.Core.Path.{◌≡◌, sym, ap, ◌∙◌, subst}
use mathlib.Core.Bool.{Bool}
use mathlib.Core.List.{List, ◌++◌}
use Prim.Native.Nat.{ℕ, ◌+◌, ◌-◌, ◌*◌, ◌≤◌}
use native.Mathlib.Nat.{zero-add}
use native.Mathlib.Omega.{arith}
use lib.ListN.{length, take, drop}
use lib.Seq.{take-append-add}
use Rattle.meaning.specs.Types.{bits}
use Rattle.meaning.specs.Tables.{Table}
use Rattle.meaning.specs.Bits.{bits_of, zeros, room, written}
use Rattle.meaning.specs.Records.{plain}
use Rattle.meaning.specs.Ladder.{accepted, Record, stream_of, Stream, type_at, type_of, record_bits, rest_of}
use Rattle.meaning.specs.CodecCalls.{compact_bits, from_compact_call, from_compact_out, from_padded_call, from_padded_out, to_compact_call, to_compact_out, to_padded_call, to_padded_out}
use Rattle.bits.proofs.Packed.{bits_of_written, length_written}
use Rattle.laws.proofs.RecordPrefixes.{Begins}
use Rattle.checked.specs.Passed.{Streamed}
use Rattle.checked.proofs.Lent.{own_length}
use Rattle.codec.proofs.ReadLaws.{at_zero, compact_got, padded_got, compact_reads, padded_reads}
use Rattle.codec.proofs.WriteLaws.{WrittenOut, compact_wrote, padded_wrote, compact_writes, padded_writes}

-- Bits that were written begin the stream of the output, however far that goes past them.
begin : (v : List Bool) (out : List ℕ) (u : ℕ) → length v ≤ u → Begins v (rest_of (stream_of (written v out) u 0))
unfolding rest_of
begin v out u l =
    let after = zeros (8 * room (length v) - length v) ++ drop (8 * room (length v)) (bits_of out) in
    let e : length v + (u - length v) ≡ u = omega arith in (
      take (u - length v) after,
      sym (take-append-add v after (u - length v))
          ∙ ap (λ (k : ℕ). take k (v ++ after)) e
          ∙ ap (take u) (sym (bits_of_written v out)),
    )

-- The stream of an output that a writer has written: up to some bit after the last one written.
streamed : (t : Table) (r : Record) (v : List Bool) (out after : List ℕ) (n u : ℕ) → WrittenOut t r v out n → after ≡ written v out
    → u ≤ 8 * length out → Streamed t (stream_of after u 0) r.node
streamed t r v out after n u w e h =
    record {
      named = w.held.named;
      ends = omega (arith, ap length e, length_written v out w.has_room);
      begins = omega arith;
    }

module _ (t : Table) (r : Record) (out next-out : List ℕ) (n u : ℕ) (l : n ≤ u) (h : u ≤ 8 * length out)
    (room-left : room (bits (type_of t r)) ≤ length next-out) where
  pub compact_write_read_calls : to_compact_call t r out ≡ accepted n
      → (from_compact_call t (stream_of (to_compact_out t r out) u 0) r.node next-out ≡ accepted n)
      × (record_bits t (at_zero (from_compact_out t (stream_of (to_compact_out t r out) u 0) r.node next-out) r.node)
      ≡ plain (type_of t r) (record_bits t r))
  compact_write_read_calls c =
      let w = compact_wrote t r out n c in
      let s = stream_of (to_compact_out t r out) u 0 in
      let b : Begins (compact_bits t r) (rest_of s) =
      subst (λ (o : List ℕ). Begins (compact_bits t r) (rest_of (stream_of o u 0))) (sym w.output)
      (begin (compact_bits t r) out u (omega (arith, w.count))) in
      let got =
      compact_reads t s r.node next-out (record_bits t r)
      (streamed t r (compact_bits t r) out (to_compact_out t r out) n u w w.output h)
      b
      room-left in
      (got.0 ∙ ap accepted (zero-add (length (compact_bits t r)) ∙ sym w.count), got.1)

  pub compact_write_read_plain_calls : to_compact_call t r out ≡ accepted n → plain (type_of t r) (record_bits t r) ≡ record_bits t r
      → record_bits t (at_zero (from_compact_out t (stream_of (to_compact_out t r out) u 0) r.node next-out) r.node) ≡ record_bits t r
  compact_write_read_plain_calls c z = (compact_write_read_calls c).1 ∙ z

  pub padded_write_read_calls : to_padded_call t r out ≡ accepted n
      → (from_padded_call t (stream_of (to_padded_out t r out) u 0) r.node next-out ≡ accepted n)
      × (record_bits t (at_zero (from_padded_out t (stream_of (to_padded_out t r out) u 0) r.node next-out) r.node) ≡ record_bits t r)
  padded_write_read_calls c =
      let w = padded_wrote t r out n c in
      let s = stream_of (to_padded_out t r out) u 0 in
      let wide = own_length t r w.held in
      let b : Begins (record_bits t r) (rest_of s) =
      subst (λ (o : List ℕ). Begins (record_bits t r) (rest_of (stream_of o u 0))) (sym w.output)
      (begin (record_bits t r) out u (omega (arith, w.count))) in
      let got =
      padded_reads t s r.node next-out (record_bits t r)
      (streamed t r (record_bits t r) out (to_padded_out t r out) n u w w.output h)
      wide
      b
      room-left in
      (got.0 ∙ ap accepted (zero-add (bits (type_of t r)) ∙ sym wide ∙ sym w.count), got.1)

module _ (t : Table) (s : Stream) (node : ℕ) (out next-out : List ℕ) (next : ℕ) where
  pub compact_read_write_calls : from_compact_call t s node out ≡ accepted next → room (next - s.position) ≤ length next-out
      → (to_compact_call t (at_zero (from_compact_out t s node out) node) next-out ≡ accepted (next - s.position))
      × (to_compact_out t (at_zero (from_compact_out t s node out) node) next-out ≡ written (take (next - s.position) (rest_of s)) next-out)
  compact_read_write_calls c l =
      let g = compact_got t s node out next c in
      let r = at_zero (from_compact_out t s node out) node in
      let n : length (compact_bits t r) ≡ next - s.position = omega (arith, g.consumed_count) in
      let put = compact_writes t r next-out g.held (subst (λ (k : ℕ). room k ≤ length next-out) (sym n) l) in
      (put.0 ∙ ap accepted n, put.1 ∙ ap (λ (v : List Bool). written v next-out) g.consumed_bits)

  pub padded_read_write_calls : from_padded_call t s node out ≡ accepted next → room (next - s.position) ≤ length next-out
      → (to_padded_call t (at_zero (from_padded_out t s node out) node) next-out ≡ accepted (next - s.position))
      × (to_padded_out t (at_zero (from_padded_out t s node out) node) next-out ≡ written (take (next - s.position) (rest_of s)) next-out)
  padded_read_write_calls c l =
      let g = padded_got t s node out next c in
      let r = at_zero (from_padded_out t s node out) node in
      let b : bits (type_at t node) ≡ next - s.position = omega (arith, g.consumed_count) in
      let n : length (record_bits t r) ≡ next - s.position = own_length t r g.held ∙ b in
      let put = padded_writes t r next-out g.held (subst (λ (k : ℕ). room k ≤ length next-out) (sym n) l) in (
        put.0 ∙ ap accepted n,
        put.1 ∙ ap (λ (v : List Bool). written v next-out) (g.as_read ∙ ap (λ (k : ℕ). take k (rest_of s)) b),
      )
