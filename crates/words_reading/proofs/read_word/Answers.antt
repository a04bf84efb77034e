-- `words_reading::read_word` meets its contract: the ladder's 6 to 9 in their order, then the bits as they stand. Assumes nothing.
use Prim.Native.Nat.{ℕ, ◌+◌, ◌-◌, ◌%◌, ◌≤◌, ◌<◌}
use mathlib.Core.Path.{◌≡◌, sym, ap, ◌∙◌}
use mathlib.Core.Bool.{Bool, true, false}
use mathlib.Core.List.{List}
use native.Mathlib.Omega.{arith}
use lib.Dec.{ltb}
use lib.ListN.{length, get_or, take, drop}
use borrow.Author.Tests.{lt-ltb, le-ltb}
use Rattle.meaning.specs.Types.{Ty, bits}
use Rattle.meaning.specs.Tables.{Table}
use Rattle.meaning.specs.Bits.{bits_of, room, written}
use Rattle.meaning.specs.Words.{word_widths, is_word}
use Rattle.meaning.specs.Codecs.{Decoded, decoded, is_early, decoded_record, consumed}
use Rattle.meaning.specs.Ladder.{refused, accepted, Rung, ladder, Stream, stream_of, type_at}
use Rattle.meaning.specs.CodecCalls.{read_rungs, padded_in}
use Rattle.meaning.specs.WordCalls.{word_read_rungs, word_read_call, word_read_out}
use Rattle.meaning.proofs.WordWidths.{word_widths_bits}
use Rattle.meaning.proofs.Words.{is_word_word}
use Rattle.bits.proofs.OfBytes.{length_bits_of}
use Rattle.bits.proofs.Runs.{length_run}
use Rattle.checked.specs.Passed.{Streamed}
use Rattle.checked.proofs.Passes.{stream_passes}
use Rattle.checked.proofs.Read.{stopped, early, short, done}
use Rattle.checked.proofs.Shaped.{range_missed, range_shape, range_pass}
use Rattle.checked.proofs.Lent.{lent_stream, padded_short, padded_run, padded_lent}
use Rattle.words_reading.proofs.read_word.Goals as goal

module _ (t : Table) (s : Stream) (n node : ℕ) (out : List ℕ) (h : Streamed t s node) where
  -- The rungs before 6, the tests of 6 and 7, the call's rungs and what it decodes.
  abbrev type : Ty
  type = type_at t node

  abbrev before6 : List Rung
  before6 = read_rungs t s node

  abbrev rungs : List Rung
  rungs = word_read_rungs t s n node

  abbrev found : Decoded
  found = padded_in t s node

  passed : ladder before6 (tt {0}) ≡ accepted (tt {0})
  passed = stream_passes t s node h

  no_range : 32 ≤ n → (refused 6 0 ≡ word_read_call t s n node out) × (out ≡ word_read_out t s n node out)
  no_range l = stopped rungs s found out 6 0 (range_missed before6 (ltb n 32) (is_word n type) passed (le-ltb n 32 l))

  module _ (l : n < 32) where
    other_shape : is_word n type ≡ false → (refused 7 0 ≡ word_read_call t s n node out) × (out ≡ word_read_out t s n node out)
    other_shape f = stopped rungs s found out 7 0 (range_shape before6 (ltb n 32) (is_word n type) passed (lt-ltb n 32 l) f)

    -- Past 7 the width is the type's, and small.
    module _ (f : is_word n type ≡ true) (w : ℕ) (e : w ≡ get_or word_widths n 0) where
      clear : ladder rungs (tt {0}) ≡ accepted (tt {0})
      clear = range_pass before6 (ltb n 32) (is_word n type) passed (lt-ltb n 32 l) f

      width_is : w ≡ bits type
      width_is = e ∙ word_widths_bits n l ∙ sym (ap bits (is_word_word n type f))

      narrow : w ≤ 524288
      narrow = omega (arith, width_is, h.named.narrow)

      ends_early : s.until - s.position < w → (refused 8 0 ≡ word_read_call t s n node out) × (out ≡ word_read_out t s n node out)
      ends_early m = early rungs s found out clear (ap is_early (padded_short t s node h (omega (arith, width_is, m))))

      -- The stream is long enough.
      module _ (m : w ≤ s.until - s.position) where
        abbrev run : ℕ → List Bool
        run k = take k (drop (s.position % 8) (bits_of (lent_stream s)))

        enough : bits type ≤ s.until - s.position
        enough = omega (arith, width_is, m)

        whole : found ≡ decoded (run (bits type)) (bits type)
        whole = padded_lent t s node h enough

        count_is : length (decoded_record found) ≡ w
        count_is =
            ap (λ (d : Decoded). length (decoded_record d)) whole
            ∙ length_run (bits_of (lent_stream s)) (s.position % 8) (bits type)
            (omega (arith, length_bits_of (lent_stream s), (padded_run t s node h enough).inside))
            ∙ sym width_is

        no_room : length out < room w → (refused 9 0 ≡ word_read_call t s n node out) × (out ≡ word_read_out t s n node out)
        no_room k = short rungs s found out clear (ap is_early whole) (omega (arith, count_is, k))

        read : room w ≤ length out → (new : List ℕ) → new ≡ written (run w) out
            → (accepted (s.position + w) ≡ word_read_call t s n node out) × (new ≡ word_read_out t s n node out)
        read k new g =
            done rungs s found out clear (ap is_early whole) (omega (arith, count_is, k)) (s.position + w)
            (ap (λ (j : ℕ). s.position + j) (width_is ∙ sym (ap consumed whole)))
            new
            (g ∙ ap (λ (j : ℕ). written (run j) out) width_is ∙ ap (λ (d : Decoded). written (decoded_record d) out) (sym whole))

pub returns-then-n-ge-WORDS : goal.returns-then-n-ge-WORDS
returns-then-n-ge-WORDS c =
    let a = c.args in
    let both = no_range a.table.now (stream_of a.bytes.now a.until a.position) a.n a.node a.out.now c.requires c.if-n-ge-WORDS.true in
    record { result_value = both.0; out_after = both.1 }

pub returns-then-not-is_word : goal.returns-then-not-is_word
returns-then-not-is_word c =
    let a = c.args in
    let both =
    other_shape a.table.now (stream_of a.bytes.now a.until a.position) a.n a.node a.out.now c.requires c.if-n-ge-WORDS.false
    (sym c.is_word.ensures ∙ c.if-not-is_word.true) in
    record { result_value = both.0; out_after = both.1 }

pub returns-then-until-position : goal.returns-then-until-position
returns-then-until-position c =
    let a = c.args in
    let both =
    ends_early a.table.now (stream_of a.bytes.now a.until a.position) a.n a.node a.out.now c.requires c.if-n-ge-WORDS.false
    (sym c.is_word.ensures ∙ c.if-not-is_word.false) _ c.word_width-width.ensures c.if-until-position.true in
    record { result_value = both.0; out_after = both.1 }

pub bytes_for-requires : goal.bytes_for-requires
bytes_for-requires c =
    let a = c.args in
    let m =
    narrow a.table.now (stream_of a.bytes.now a.until a.position) a.n a.node a.out.now c.requires c.if-n-ge-WORDS.false
    (sym c.is_word.ensures ∙ c.if-not-is_word.false) _ c.word_width-width.ensures in
    omega arith

pub returns-then-out-bytes_for : goal.returns-then-out-bytes_for
returns-then-out-bytes_for c =
    let a = c.args in
    let both =
    no_room a.table.now (stream_of a.bytes.now a.until a.position) a.n a.node a.out.now c.requires c.if-n-ge-WORDS.false
    (sym c.is_word.ensures ∙ c.if-not-is_word.false) _ c.word_width-width.ensures c.if-until-position.false (omega arith) in
    record { result_value = both.0; out_after = both.1 }

pub returns : goal.returns
returns c =
    let a = c.args in
    let both =
    read a.table.now (stream_of a.bytes.now a.until a.position) a.n a.node a.out.now c.requires c.if-n-ge-WORDS.false
    (sym c.is_word.ensures ∙ c.if-not-is_word.false) _ c.word_width-width.ensures c.if-until-position.false (omega arith) c.write_run.new.out
    c.write_run.ensures in
    record { result_value = both.0; out_after = both.1 }
