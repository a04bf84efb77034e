-- `codec::codecs::from_compact_bits` meets its contract. Assumes nothing.
use mathlib.Core.Path.{◌≡◌, sym, ap, ◌∙◌}
use mathlib.Core.Bool.{Bool, false}
use mathlib.Core.List.{List}
use Prim.Native.Nat.{ℕ, ◌+◌, ◌-◌, ◌*◌, ◌%◌, ◌≤◌}
use native.Mathlib.Omega.{arith}
use lib.ListN.{length, take, drop}
use Rattle.meaning.specs.Types.{bits}
use Rattle.meaning.specs.Tables.{Table}
use Rattle.meaning.specs.Bits.{bits_of, written}
use Rattle.meaning.specs.Codecs.{Decoded, decoded, decode_compact, is_early, decoded_record, consumed}
use Rattle.meaning.specs.Ladder.{Stream, stream_of, type_at, rest_of}
use Rattle.meaning.specs.CodecCalls.{read_rungs, compact_in}
use Rattle.laws.proofs.CodecRoundTrips.{CompactRead, compact_read_write}
use Rattle.answers.proofs.Exits.{handed_on}
use Rattle.checked.specs.Passed.{Streamed}
use Rattle.checked.proofs.Read.{stopped}
use Rattle.checked.proofs.Lent.{lent_stream, stream_starts, stream_inside, stream_rest, rest_length}
use Rattle.codec.proofs.Lent.{stream_same}
use Rattle.codec.proofs.Passing.{streamed, reads_early, reads_short, reads_done}
use Rattle.codec_laws.proofs.Readings.{whole}
use Rattle.codec.proofs.codecs.from_compact_bits.Goals as goal

module _ {t : Table} {s : Stream} {node : ℕ} (w : Streamed t s node) where
  inside : s.position % 8 + (s.until - s.position) ≤ 8 * length (lent_stream s)
  inside = stream_inside t s node w

  -- Whether the stream ends early, as it is asked of the bytes lent.
  abbrev asked : Bool
  asked = is_early (decode_compact (type_at t node) (drop (s.position % 8) (take (s.position % 8 + (s.until - s.position)) (bits_of (lent_stream s)))))

  verdict : {b : Bool} → b ≡ asked → {k : Bool} → b ≡ k → is_early (compact_in t s node) ≡ k
  verdict e f = sym (e ∙ ap (λ (v : List Bool). is_early (decode_compact (type_at t node) v)) (stream_rest t s node w)) ∙ f

  -- The record is there whole.
  module _ (g : is_early (compact_in t s node) ≡ false) where
    found : CompactRead (type_at t node) (rest_of s) (decoded_record (compact_in t s node)) (consumed (compact_in t s node))
    found =
        let d = compact_in t s node in
        compact_read_write (type_at t node) (rest_of s) (decoded_record d) (consumed d) (whole g)

    -- The same reading, of the bytes lent.
    abbrev again : Decoded
    again = decode_compact (type_at t node) (drop (s.position % 8) (bits_of (lent_stream s)))

    same : again ≡ decoded (decoded_record (compact_in t s node)) (consumed (compact_in t s node))
    same = stream_same t s node w (whole g)

    within : consumed again ≤ s.until - s.position
    within = omega (arith, ap consumed same, found.enough, rest_length t s node w)

    as_wide : {n : ℕ} → n ≡ bits (type_at t node) → n ≡ length (decoded_record (compact_in t s node))
    as_wide e = e ∙ sym found.as_wide

pub returns-in_err-checked : goal.returns-in_err-checked
returns-in_err-checked c =
    let a = c.args in
    let s = stream_of a.bytes.now a.until a.position in
    let both =
    stopped (read_rungs a.table.now s a.node) s (compact_in a.table.now s a.node) a.out.now _ _ (sym c.in_err-checked.ensures.answer) in
    record { result_value = handed_on (λ n. n) _ _ c.from_residual.ensures.1 _ both.0; out_after = both.1 }

pub slice_bounds-src-count : goal.slice_bounds-src-count
slice_bounds-src-count c =
    let s = stream_of c.args.bytes.now c.args.until c.args.position in
    stream_starts _ s c.args.node (streamed c.in_ok-checked.ensures.same s c.args.node c.in_ok-checked.ensures.answer)

pub slice_bounds-src-start : goal.slice_bounds-src-start
slice_bounds-src-start c = slice_bounds-src-count c

pub overflow_sub-until : goal.overflow_sub-until
overflow_sub-until c =
    let s = stream_of c.args.bytes.now c.args.until c.args.position in
    (streamed c.in_ok-checked.ensures.same s c.args.node c.in_ok-checked.ensures.answer).begins

pub ends_early-requires : goal.ends_early-requires
ends_early-requires c =
    let s = stream_of c.args.bytes.now c.args.until c.args.position in
    let w = streamed c.in_ok-checked.ensures.same s c.args.node c.in_ok-checked.ensures.answer in
    record { named = w.named; at_le_until = (omega arith, inside w) }

pub returns-then-ends_early : goal.returns-then-ends_early
returns-then-ends_early c =
    let a = c.args in
    let s = stream_of a.bytes.now a.until a.position in
    let ok = c.in_ok-checked.ensures in
    let w = streamed ok.same s a.node ok.answer in
    let both =
    reads_early ok.same s a.node ok.answer (λ (t : Table). compact_in t s a.node) a.out.now
    (verdict w c.ends_early.ensures c.if-ends_early.true) in
    record { result_value = both.0; out_after = both.1 }

pub width_of-requires : goal.width_of-requires
width_of-requires c =
    let s = stream_of c.args.bytes.now c.args.until c.args.position in
    (streamed c.in_ok-checked.ensures.same s c.args.node c.in_ok-checked.ensures.answer).named

pub bytes_for-requires : goal.bytes_for-requires
bytes_for-requires c =
    let s = stream_of c.args.bytes.now c.args.until c.args.position in
    let w = streamed c.in_ok-checked.ensures.same s c.args.node c.in_ok-checked.ensures.answer in
    omega arith

pub returns-then-out-bytes_for : goal.returns-then-out-bytes_for
returns-then-out-bytes_for c =
    let a = c.args in
    let s = stream_of a.bytes.now a.until a.position in
    let ok = c.in_ok-checked.ensures in
    let w = streamed ok.same s a.node ok.answer in
    let g = verdict w c.ends_early.ensures c.if-ends_early.false in
    let both =
    reads_short ok.same s a.node ok.answer (λ (t : Table). compact_in t s a.node) a.out.now g (as_wide w g c.width_of.ensures) (omega arith) in
    record { result_value = both.0; out_after = both.1 }

pub read_record-next-requires : goal.read_record-next-requires
read_record-next-requires c =
    let s = stream_of c.args.bytes.now c.args.until c.args.position in
    let w = streamed c.in_ok-checked.ensures.same s c.args.node c.in_ok-checked.ensures.answer in
    let g = verdict w c.ends_early.ensures c.if-ends_early.false in
    let l = within w g in
    record {
      named = w.named;
      src_value = ap is_early (same w g);
      run = record { inside = omega (arith, l, inside w); counted = omega (arith, l, w.begins, c.ranges.until.fits) };
      run_2 = record { inside = omega arith; counted = omega arith };
    }

pub overflow_add-result : goal.overflow_add-result
overflow_add-result c =
    let s = stream_of c.args.bytes.now c.args.until c.args.position in
    let w = streamed c.in_ok-checked.ensures.same s c.args.node c.in_ok-checked.ensures.answer in
    let l = within w (verdict w c.ends_early.ensures c.if-ends_early.false) in
    record { fits = omega (arith, c.read_record-next.ensures.value, l, w.begins, c.ranges.until.fits) }

pub returns : goal.returns
returns c =
    let a = c.args in
    let s = stream_of a.bytes.now a.until a.position in
    let ok = c.in_ok-checked.ensures in
    let w = streamed ok.same s a.node ok.answer in
    let g = verdict w c.ends_early.ensures c.if-ends_early.false in
    let out = a.out.now in
    let both =
    reads_done ok.same s a.node ok.answer (λ (t : Table). compact_in t s a.node) out g (as_wide w g c.width_of.ensures) (omega arith)
    (omega (arith, c.read_record-next.ensures.value, ap consumed (same w g)))
    (c.read_record-next.ensures.out_after ∙ ap (λ (d : Decoded). written (decoded_record d) out) (same w g)) in
    record { result_value = both.0; out_after = both.1 }
