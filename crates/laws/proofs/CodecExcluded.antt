-- Readers and writers that are not the calls of the codecs: document 01, "What the statements have to settle". Those of CodecReaders are
-- decoders; these are calls by what their contracts say of them: a writer by its output, a reader by its answer.
--
--   Writer Reader                   what a writer leaves in its output; what a reader answers
--   WritesAs ReadsAs                it is as a call has it, always
--   TouchesNothing RefusesAll       every output stays as it stood; every answer is a refusal
--   untouched_compact_excluded      a writer that touches nothing is not `to_compact_bits`
--   untouched_padded_excluded       nor `to_padded_bits`
--   refusing_compact_excluded       a reader that refuses everything, whatever the number and the place, is not `from_compact_bits`
--   refusing_padded_excluded        nor `from_padded_bits`
--   made_up_compact_excluded        nor is one with a made-up next position: the position is moved by the length of the compact bits of
--                                   what the definition reads (of the record in the output: `compact_got` of `codec/proofs/ReadLaws`)
--   made_up_padded_excluded         of padded reading: by the width of the type
--   word_reader                     `word_from_bits` for n, as a reader
--   refusing_word_excluded made_up_word_excluded    the same of it: for n = 0; for every n
-- Assumes nothing.
use Prim.Native.Nat.{ℕ, ◌+◌}
use mathlib.Core.Path.{◌≡◌, refl, sym, ap, ◌∙◌}
use mathlib.Core.List.{List, [], ◌∷◌}
use native.Mathlib.Omega.{arith}
use lib.ListN.{length, get_or}
use Rattle.meaning.specs.Choice.{least, from}
use Rattle.meaning.specs.Types.{same, bits, width, size, padded, least_length}
use Rattle.meaning.specs.Groups.{low, low_bytes, fact_in}
use Rattle.meaning.specs.Tables.{Table, table, columns, ty_to, ty_at, class_of, first_bad, entry_right, facts_right}
use Rattle.meaning.specs.Bits.{odd, to_bits, bits_of, value, pack_to, pack, written}
use Rattle.meaning.specs.Records.{compact}
use Rattle.meaning.specs.Codecs.{Decoded, is_early, decoded, decode_compact, decode_padded, decoded_record, consumed}
use Rattle.meaning.specs.Ladder.{Answer, refused, accepted, Rung, rung, ladder, Record, record_of, Stream, stream_of, type_at, record_bits, rest_of, room_for}
use Rattle.meaning.specs.TypeCalls.{group_of, groups_of}
use Rattle.meaning.specs.CodecCalls.{reads, read_rungs, compact_in, padded_in, from_compact_call, from_padded_call, to_compact_out, to_padded_out}
use Rattle.meaning.specs.Words.{is_word}
use Rattle.meaning.specs.WordCalls.{word_read_rungs, word_read_call}
use Rattle.meaning.proofs.Ladders.{accepted_refused, ladder_parts, ladder_clear, ladder_value}
use Rattle.laws.proofs.CodecRoundTrips.{compact_read_write, padded_read_write}
use Rattle.laws.proofs.CodecExact.{decoded_test}

-- What a writer leaves in its output, of a table, a record and the output as it stood.
abbrev pub Writer : Type 0
Writer = Table → Record → List ℕ → List ℕ

-- What a reader answers, of a table, a stream, a node and its output.
abbrev pub Reader : Type 0
Reader = Table → Stream → ℕ → List ℕ → Answer ℕ

-- It is as a call has it, always.
abbrev pub WritesAs : Writer → Writer → Type 0
WritesAs w call = (t : Table) (r : Record) (out : List ℕ) → w t r out ≡ call t r out

abbrev pub ReadsAs : Reader → Reader → Type 0
ReadsAs read call = (t : Table) (s : Stream) (node : ℕ) (out : List ℕ) → read t s node out ≡ call t s node out

-- It touches nothing: every output stays as it stood.
abbrev pub TouchesNothing : Writer → Type 0
TouchesNothing w = (t : Table) (r : Record) (out : List ℕ) → w t r out ≡ out

-- It refuses everything, with whatever number and place.
abbrev pub RefusesAll : Reader → Type 0
RefusesAll read = (t : Table) (s : Stream) (node : ℕ) (out : List ℕ) → (n : ℕ) × ((p : ℕ) × (read t s node out ≡ refused n p))

-- Unit and unit + unit, with the groups of their facts.
unfoldable one_bit : Table
one_bit = table (0 ∷ 1 ∷ []) (0 ∷ 0 ∷ []) (0 ∷ 0 ∷ []) (groups_of (columns (0 ∷ 1 ∷ []) (0 ∷ 0 ∷ []) (0 ∷ 0 ∷ [])) 2) 2

-- The bit 1 as a record and as a stream, and an output of one byte that is 0.
abbrev bit_record : Record
bit_record = record_of (0x80 ∷ []) 0 1

abbrev bit_stream : Stream
bit_stream = stream_of (0x80 ∷ []) 8 0

abbrev zero_byte : List ℕ
zero_byte = 0 ∷ []

-- Both writers write it, the readers read it and consume one bit.
writes_one : (to_compact_out one_bit bit_record zero_byte ≡ 0x80 ∷ []) × (to_padded_out one_bit bit_record zero_byte ≡ 0x80 ∷ [])
unfolding one_bit group_of groups_of low low_bytes fact_in least from same bits width size padded least_length ty_to ty_at class_of first_bad entry_right facts_right odd to_bits bits_of value pack_to pack written compact ladder record_bits
writes_one = (refl, refl)

reads_one : (from_compact_call one_bit bit_stream 1 zero_byte ≡ accepted 1) × (from_padded_call one_bit bit_stream 1 zero_byte ≡ accepted 1)
    × (word_read_call one_bit bit_stream 0 1 zero_byte ≡ accepted 1)
unfolding one_bit group_of groups_of low low_bytes fact_in least from same bits width size padded least_length ty_to ty_at class_of first_bad entry_right facts_right odd to_bits bits_of decode_compact decode_padded ladder rest_of is_word
reads_one = (refl, refl, refl)

untouched : (w call : Writer) → call one_bit bit_record zero_byte ≡ 0x80 ∷ [] → TouchesNothing w → ¬ WritesAs w call
untouched w call e still is =
    let z : ◌≡◌ {A = ℕ} 0 0x80 = ap (λ (o : List ℕ). get_or o 0 0) (sym (still one_bit bit_record zero_byte) ∙ is one_bit bit_record zero_byte ∙ e) in omega arith

pub untouched_compact_excluded : (w : Writer) → TouchesNothing w → ¬ WritesAs w to_compact_out
untouched_compact_excluded w = untouched w to_compact_out writes_one.0

pub untouched_padded_excluded : (w : Writer) → TouchesNothing w → ¬ WritesAs w to_padded_out
untouched_padded_excluded w = untouched w to_padded_out writes_one.1

refusing : (read call : Reader) → call one_bit bit_stream 1 zero_byte ≡ accepted 1 → RefusesAll read → ¬ ReadsAs read call
refusing read call e never is =
    let r = never one_bit bit_stream 1 zero_byte in
    accepted_refused 1 r.0 r.1.0 (sym e ∙ sym (is one_bit bit_stream 1 zero_byte) ∙ r.1.1)

pub refusing_compact_excluded : (read : Reader) → RefusesAll read → ¬ ReadsAs read from_compact_call
refusing_compact_excluded read = refusing read from_compact_call reads_one.0

pub refusing_padded_excluded : (read : Reader) → RefusesAll read → ¬ ReadsAs read from_padded_call
refusing_padded_excluded read = refusing read from_padded_call reads_one.1

-- `word_from_bits` for n, as a reader.
abbrev pub word_reader : ℕ → Reader
word_reader n t s node out = word_read_call t s n node out

pub refusing_word_excluded : (read : Reader) → RefusesAll read → ¬ ReadsAs read (word_reader 0)
refusing_word_excluded read never is = refusing read (word_reader 0) reads_one.2 never is

-- An accepted reading is whole, and its position is moved by what it consumed.
record Moved (s : Stream) (d : Decoded) (next : ℕ) : Type 0 where
  whole : d ≡ decoded (decoded_record d) (consumed d)
  moved : next ≡ s.position + consumed d

accepted_moved : (rs : List Rung) (s : Stream) (d : Decoded) (out : List ℕ) (next : ℕ) → reads rs s d out ≡ accepted next → Moved s d next
accepted_moved rs s d out next h =
    let own = rung (is_early d) 8 0 ∷ room_for (decoded_record d) out in
    let n = s.position + consumed d in
    let last = (ladder_parts rs own (tt {0}) n next h).1 in
    record {
      whole = (decoded_test d).0 (ladder_clear (is_early d) 8 0 (room_for (decoded_record d) out) n next last).0;
      moved = ladder_value own n next (sym last);
    }

pub made_up_compact_excluded : (read : Reader) → ReadsAs read from_compact_call → (t : Table) (s : Stream) (node : ℕ) (out : List ℕ) (next : ℕ)
    → (next ≡ s.position + length (compact (type_at t node) (decoded_record (compact_in t s node))) → ⊥) → read t s node out ≡ accepted next → ⊥
made_up_compact_excluded read is t s node out next wrong e =
    let d = compact_in t s node in
    let m = accepted_moved (read_rungs t s node) s d out next (sym (is t s node out) ∙ e) in
    let c = compact_read_write (type_at t node) (rest_of s) (decoded_record d) (consumed d) m.whole in
    wrong (m.moved ∙ ap (λ (k : ℕ). s.position + k) c.consumed_count)

padded_moved : (rs : List Rung) (t : Table) (s : Stream) (node : ℕ) (out : List ℕ) (next : ℕ) → reads rs s (padded_in t s node) out ≡ accepted next
    → next ≡ s.position + bits (type_at t node)
padded_moved rs t s node out next e =
    let d = padded_in t s node in
    let m = accepted_moved rs s d out next e in
    let c = padded_read_write (type_at t node) (rest_of s) (decoded_record d) (consumed d) m.whole in
    m.moved ∙ ap (λ (k : ℕ). s.position + k) c.consumed_count

pub made_up_padded_excluded : (read : Reader) → ReadsAs read from_padded_call → (t : Table) (s : Stream) (node : ℕ) (out : List ℕ) (next : ℕ)
    → (next ≡ s.position + bits (type_at t node) → ⊥) → read t s node out ≡ accepted next → ⊥
made_up_padded_excluded read is t s node out next wrong e =
    wrong (padded_moved (read_rungs t s node) t s node out next (sym (is t s node out) ∙ e))

pub made_up_word_excluded : (n : ℕ) (read : Reader) → ReadsAs read (word_reader n) → (t : Table) (s : Stream) (node : ℕ) (out : List ℕ) (next : ℕ)
    → (next ≡ s.position + bits (type_at t node) → ⊥) → read t s node out ≡ accepted next → ⊥
made_up_word_excluded n read is t s node out next wrong e =
    wrong (padded_moved (word_read_rungs t s n node) t s node out next (sym (is t s node out) ∙ e))
