-- The laws of the two readers as a caller meets them. They speak of the equations that the calls are proved to meet, `from_compact_call` and
-- `from_padded_call` for the answer, and those with `_out` for the output. `Streamed` is a sound table, a node within the limits and a stream that
-- fits: 1 to 5 do not apply.
--
--   at_zero                         the record that a call has written, at bit 0 of its output
--   CompactGot compact_got          what an accepted compact reading has read and consumed
--   PaddedGot padded_got            the same of padded reading
--   compact_reads padded_reads      a record that begins the stream is read, where there is room
--   compact_accepted_own padded_accepted_own    an accepted reading depends on the bits that it consumed alone
--   compact_refused_own padded_refused_own      a refusal, 1 to 9, on those from the position to the length (`AgreeStream` of
--                                   `checked/proofs/OwnStream`)
--   unpadded_read                   no padding: both readers answer and write the same
-- Assumes nothing.
use mathlib.Core.Path.{◌≡◌, refl, sym, ap, ◌∙◌}
use mathlib.Core.Bool.{Bool, false}
use mathlib.Core.List.{List, []}
use Prim.Native.Nat.{ℕ, ◌+◌, ◌-◌, ◌≤◌, ◌<◌}
use native.Mathlib.Omega.{arith}
use lib.ListN.{length, take}
use Rattle.meaning.specs.Types.{bits, width, padded, top}
use Rattle.meaning.specs.Tables.{Table}
use Rattle.meaning.specs.Bits.{room, written}
use Rattle.meaning.specs.Records.{compact, plain}
use Rattle.meaning.specs.Codecs.{Decoded, decoded, decode_compact, decode_padded, is_early, decoded_record, consumed}
use Rattle.meaning.specs.Ladder.{refused, accepted, Record, Stream, record_of, type_at, record_bits, rest_of}
use Rattle.meaning.specs.CodecCalls.{reads, read_out, read_rungs, compact_in, padded_in, from_compact_call, from_compact_out, from_padded_call, from_padded_out}
use Rattle.meaning.proofs.Types.{width_bits}
use Rattle.bits.proofs.Packed.{length_written}
use Rattle.checked.specs.Passed.{Held, Streamed}
use Rattle.checked.proofs.Passed.{stream_passed}
use Rattle.checked.proofs.Passes.{stream_passes}
use Rattle.checked.proofs.Made.{written_bits}
use Rattle.checked.proofs.Read.{done, AcceptedRead, accepts}
use Rattle.checked.proofs.OwnStream.{AgreeStream, accepted_own, stream_own, refused_own}
use Rattle.laws.proofs.RecordPlain.{plain_length}
use Rattle.laws.proofs.RecordPrefixes.{Begins, compact_begins_read, padded_begins_read}
use Rattle.laws.proofs.CodecRoundTrips.{compact_read_write, padded_read_write}
use Rattle.laws.proofs.CodecExact.{decoded_test, compact_own_bits, padded_own_bits}
use Rattle.laws.proofs.CodecReaders.{unpadded_same_reading}

-- The record that a call has written for a node.
abbrev pub at_zero : List ℕ → ℕ → Record
at_zero out node = record_of out 0 node

-- A reader that decodes d.
module _ (t : Table) (s : Stream) (node : ℕ) (d : Decoded) (out : List ℕ) where
  -- Where it is accepted, the reading is whole, and its output holds the record.
  taken : (next : ℕ) → reads (read_rungs t s node) s d out ≡ accepted next → AcceptedRead (read_rungs t s node) s d out next
  taken next h = accepts (read_rungs t s node) s d out next h

  accepted_whole : (next : ℕ) → reads (read_rungs t s node) s d out ≡ accepted next → d ≡ decoded (decoded_record d) (consumed d)
  accepted_whole next h = (decoded_test d).0 (taken next h).whole

  accepted_bits : (next : ℕ) → reads (read_rungs t s node) s d out ≡ accepted next → length (decoded_record d) ≡ bits (type_at t node)
      → record_bits t (at_zero (read_out (read_rungs t s node) s d out) node) ≡ decoded_record d
  accepted_bits next h l =
      ap (λ (o : List ℕ). record_bits t (at_zero o node)) (taken next h).output ∙ written_bits t node (decoded_record d) out l

  accepted_held : (next : ℕ) → reads (read_rungs t s node) s d out ≡ accepted next → length (decoded_record d) ≡ bits (type_at t node)
      → Held t (at_zero (read_out (read_rungs t s node) s d out) node)
  accepted_held next h l =
      let f = taken next h in
      let k = ap length f.output ∙ length_written (decoded_record d) out f.roomy in
      record { named = (stream_passed t s node f.clear).named; ends = omega (arith, f.roomy, k, l) }

  -- A record that is there is read.
  reads_record : (v : List Bool) (n : ℕ) → Streamed t s node → d ≡ decoded v n → length v ≡ bits (type_at t node)
      → room (bits (type_at t node)) ≤ length out
      → (reads (read_rungs t s node) s d out ≡ accepted (s.position + n))
      × (record_bits t (at_zero (read_out (read_rungs t s node) s d out) node) ≡ v)
  reads_record v n w e l r =
      let rec : decoded_record d ≡ v = ap decoded_record e in
      let got : accepted (s.position + n) ≡ reads (read_rungs t s node) s d out =
      (done (read_rungs t s node) s d out (stream_passes t s node w) (ap is_early e) (omega (arith, ap length rec)) (s.position + n)
      (ap (λ (k : ℕ). s.position + k) (sym (ap consumed e)))
      (written (decoded_record d) out)
      refl
      ).0 in
      (sym got, accepted_bits (s.position + n) (sym got) (ap length rec ∙ l) ∙ rec)

module _ (t : Table) (s : Stream) (node : ℕ) (out : List ℕ) where
  -- What an accepted compact reading has read, as the output holds it, and what it has consumed.
  pub record CompactGot (next : ℕ) : Type 0 where
    pub streamed : Streamed t s node
    pub zero_padded : plain (type_at t node) (record_bits t (at_zero (from_compact_out t s node out) node))
        ≡ record_bits t (at_zero (from_compact_out t s node out) node)
    pub consumed_bits : compact (type_at t node) (record_bits t (at_zero (from_compact_out t s node out) node))
        ≡ take (next - s.position) (rest_of s)
    pub consumed_count : next ≡ s.position + length (compact (type_at t node) (record_bits t (at_zero (from_compact_out t s node out) node)))
    pub output : from_compact_out t s node out ≡ written (record_bits t (at_zero (from_compact_out t s node out) node)) out
    pub held : Held t (at_zero (from_compact_out t s node out) node)

  pub compact_got : (next : ℕ) → from_compact_call t s node out ≡ accepted next → CompactGot next
  compact_got next h =
      let d = compact_in t s node in
      let f = taken t s node d out next h in
      let c = compact_read_write (type_at t node) (rest_of s) (decoded_record d) (consumed d) (accepted_whole t s node d out next h) in
      let b = accepted_bits t s node d out next h c.as_wide in
      let n : consumed d ≡ next - s.position = omega (arith, f.ends) in
      record {
        streamed = stream_passed t s node f.clear;
        zero_padded = ap (plain (type_at t node)) b ∙ c.zero_padded ∙ sym b;
        consumed_bits = ap (compact (type_at t node)) b ∙ c.consumed_bits ∙ ap (λ (k : ℕ). take k (rest_of s)) n;
        consumed_count = f.ends ∙ ap (λ (k : ℕ). s.position + k) (c.consumed_count ∙ ap (λ (v : List Bool). length (compact (type_at t node) v)) (sym b));
        output = f.output ∙ ap (λ (v : List Bool). written v out) (sym b);
        held = accepted_held t s node d out next h c.as_wide;
      }

  -- The same of padded reading.
  pub record PaddedGot (next : ℕ) : Type 0 where
    pub streamed : Streamed t s node
    pub as_read : record_bits t (at_zero (from_padded_out t s node out) node) ≡ take (bits (type_at t node)) (rest_of s)
    pub consumed_count : next ≡ s.position + bits (type_at t node)
    pub output : from_padded_out t s node out ≡ written (record_bits t (at_zero (from_padded_out t s node out) node)) out
    pub held : Held t (at_zero (from_padded_out t s node out) node)

  pub padded_got : (next : ℕ) → from_padded_call t s node out ≡ accepted next → PaddedGot next
  padded_got next h =
      let d = padded_in t s node in
      let f = taken t s node d out next h in
      let c = padded_read_write (type_at t node) (rest_of s) (decoded_record d) (consumed d) (accepted_whole t s node d out next h) in
      let b = accepted_bits t s node d out next h c.as_wide in
      record {
        streamed = stream_passed t s node f.clear;
        as_read = b ∙ c.consumed_bits ∙ ap (λ (k : ℕ). take k (rest_of s)) c.consumed_count;
        consumed_count = f.ends ∙ ap (λ (k : ℕ). s.position + k) c.consumed_count;
        output = f.output ∙ ap (λ (v : List Bool). written v out) (sym b);
        held = accepted_held t s node d out next h c.as_wide;
      }

  pub compact_reads : (v : List Bool) → Streamed t s node → Begins (compact (type_at t node) v) (rest_of s)
      → room (bits (type_at t node)) ≤ length out
      → (from_compact_call t s node out ≡ accepted (s.position + length (compact (type_at t node) v)))
      × (record_bits t (at_zero (from_compact_out t s node out) node) ≡ plain (type_at t node) v)
  compact_reads v w b r =
      reads_record t s node (compact_in t s node) out (plain (type_at t node) v) (length (compact (type_at t node) v)) w
      (compact_begins_read (type_at t node) v (rest_of s) b)
      (plain_length (type_at t node) v)
      r

  pub padded_reads : (v : List Bool) → Streamed t s node → length v ≡ bits (type_at t node) → Begins v (rest_of s)
      → room (bits (type_at t node)) ≤ length out
      → (from_padded_call t s node out ≡ accepted (s.position + bits (type_at t node)))
      × (record_bits t (at_zero (from_padded_out t s node out) node) ≡ v)
  padded_reads v w l b r =
      reads_record t s node (padded_in t s node) out v (bits (type_at t node)) w (padded_begins_read (type_at t node) v (rest_of s) l b) l r

  pub unpadded_read : Streamed t s node → padded (type_at t node) ≡ false
      → (from_compact_call t s node out ≡ from_padded_call t s node out) × (from_compact_out t s node out ≡ from_padded_out t s node out)
  unpadded_read w p =
      let low : width (type_at t node) < top = omega (arith, width_bits (type_at t node), w.named.narrow) in
      let e = unpadded_same_reading (type_at t node) (rest_of s) p low in
      (ap (λ (d : Decoded). reads (read_rungs t s node) s d out) e, ap (λ (d : Decoded). read_out (read_rungs t s node) s d out) e)

  -- Another stream, that 1 to 5 let pass.
  module _ (s' : Stream) (w : Streamed t s' node) where
    pub compact_accepted_own : (next : ℕ) → from_compact_call t s node out ≡ accepted next
        → take (next - s.position) (rest_of s') ≡ take (next - s.position) (rest_of s)
        → (from_compact_call t s' node out ≡ accepted (s'.position + (next - s.position)))
        × (from_compact_out t s' node out ≡ from_compact_out t s node out)
    compact_accepted_own next h e =
        accepted_own (decode_compact (type_at t node)) (read_rungs t s node) (read_rungs t s' node) [] s s' out (stream_passes t s' node w)
        (compact_own_bits (type_at t node)) next h e

    pub padded_accepted_own : (next : ℕ) → from_padded_call t s node out ≡ accepted next
        → take (next - s.position) (rest_of s') ≡ take (next - s.position) (rest_of s)
        → (from_padded_call t s' node out ≡ accepted (s'.position + (next - s.position)))
        × (from_padded_out t s' node out ≡ from_padded_out t s node out)
    padded_accepted_own next h e =
        accepted_own (decode_padded (type_at t node)) (read_rungs t s node) (read_rungs t s' node) [] s s' out (stream_passes t s' node w)
        (padded_own_bits (type_at t node)) next h e

  -- Another stream, that agrees with this one.
  module _ (s' : Stream) (g : AgreeStream s s') where
    pub compact_refused_own : (n p : ℕ) → from_compact_call t s node out ≡ refused n p
        → (from_compact_call t s' node out ≡ refused n p) × (from_compact_out t s' node out ≡ out)
    compact_refused_own =
        refused_own (decode_compact (type_at t node)) (read_rungs t s node) (read_rungs t s' node) s s' out (stream_own t s s' node g) g

    pub padded_refused_own : (n p : ℕ) → from_padded_call t s node out ≡ refused n p
        → (from_padded_call t s' node out ≡ refused n p) × (from_padded_out t s' node out ≡ out)
    padded_refused_own =
        refused_own (decode_padded (type_at t node)) (read_rungs t s node) (read_rungs t s' node) s s' out (stream_own t s s' node g) g
