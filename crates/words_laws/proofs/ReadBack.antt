-- What a word was made of is read back from it.
--
--   written_bytes               an output that whole bytes were written to
--   word_bits word_bytes word_read      a word made of bytes: its own bits, the bytes that hold them, and the reader's answer and output
--   BytesBack                   the bytes of a word, read back from its record, and by `word_from_bits` into another output
--   bytes_read_back array_read_back     this of `u8` … `u512` and of `from_byte_array`
--   number_read_back            the number of `u1`, `u2` and `u4`
-- Assumes nothing.
use Prim.Native.Nat.{ℕ, ◌+◌, ◌-◌, ◌*◌, ◌^◌, ◌≤◌, ◌<◌}
use mathlib.Core.Path.{◌≡◌, refl, sym, ap, ap₂, ◌∙◌}
use mathlib.Core.Bool.{Bool, true}
use mathlib.Core.List.{List, [], ◌∷◌, ◌++◌}
use native.Mathlib.Nat.{mod-eq_of_lt}
use native.Mathlib.Omega.{arith}
use lib.Dec.{eqb, ltb}
use lib.ListN.{length, take, drop}
use lib.Pow.{pow_mono}
use borrow.Author.Tests.{eqb-true, ltb-true, lt-ltb}
use Rattle.meaning.specs.Types.{bits}
use Rattle.meaning.specs.Tables.{Table}
use Rattle.meaning.specs.Bits.{to_bits, bits_of, value, room, pack, written}
use Rattle.meaning.specs.Words.{is_word, exponent}
use Rattle.meaning.specs.Codecs.{Decoded, decoded, decode_padded, is_early, decoded_record, consumed}
use Rattle.meaning.specs.Ladder.{accepted, Rung, ladder, Stream, stream_of, record_of, type_at, record_bits, rest_of, named, makes, made}
use Rattle.meaning.specs.CodecCalls.{read_rungs}
use Rattle.meaning.specs.WordCalls.{from_range, number_call, number_out, number_rungs, bytes_call, bytes_out, array_call, array_out, word_read_call, word_read_out, word_read_rungs}
use Rattle.meaning.specs.Checked.{Bytes}
use Rattle.meaning.proofs.Words.{is_word_bits}
use Rattle.bits.proofs.Numbers.{length_to_bits, value_to_bits}
use Rattle.bits.proofs.OfBytes.{length_bits_of}
use Rattle.bits.proofs.Packed.{pack_bits_of}
use Rattle.checked.specs.Passed.{Named}
use Rattle.checked.proofs.Passed.{named_passed}
use Rattle.checked.proofs.Passes.{stream_passes}
use Rattle.checked.proofs.Made.{Accepted, accepts, made_length, made_record}
use Rattle.checked.proofs.Read.{done}
use Rattle.checked.proofs.Shaped.{range_pass, range_accepted}
use Rattle.words_laws.proofs.Ranges.{eight_times, exponent_bytes}
use Rattle.bits.proofs.Lent.{padded_whole, rest_length}
use Rattle.words_laws.proofs.Streams.{rest_take}

pub written_bytes : (bs old : List ℕ) → Bytes bs → written (bits_of bs) old ≡ bs ++ drop (length bs) old
unfolding written
written_bytes bs old b =
    let e : room (length (bits_of bs)) ≡ length bs = omega (arith, length_bits_of bs) in
    ap₂ (λ (p : List ℕ) (k : ℕ). p ++ drop k old) (pack_bits_of bs b) e

-- A word that is not too wide is one of the list.
small : (n : ℕ) → 2 ^ n ≤ 524288 → n < 32
small n h = let f : 32 ≤ n → ⊥ = over in omega arith
  where
    over : 32 ≤ n → ⊥
    over l = let p : 2 ^ 32 ≤ 2 ^ n = pow_mono l in omega arith

-- A word type n that was made of as many bytes as it asks.
module _ (t : Table) (result n : ℕ) (r : Bool) (bs out : List ℕ) (w : ℕ) (b : Bytes bs) (f : r ≡ true → 8 * length bs ≡ 2 ^ n)
    (h : makes (from_range t result r (is_word n (type_at t result))) (bits_of bs) out ≡ accepted w) where
  abbrev rungs : List Rung
  rungs = from_range t result r (is_word n (type_at t result))

  abbrev new : List ℕ
  new = made rungs (bits_of bs) out

  did : Accepted rungs (bits_of bs) out w
  did = accepts rungs (bits_of bs) out w h

  passed : (ladder (named t (result ∷ [])) (tt {0}) ≡ accepted (tt {0})) × (r ≡ true) × (is_word n (type_at t result) ≡ true)
  passed = range_accepted (named t (result ∷ [])) r (is_word n (type_at t result)) did.clear

  whole : Named t result
  whole = (named_passed t (result ∷ []) passed.0).1.0

  power : bits (type_at t result) ≡ 2 ^ n
  power = is_word_bits n (type_at t result) passed.2

  wide : bits (type_at t result) ≡ length (bits_of bs)
  wide = power ∙ sym (f passed.1) ∙ sym (length_bits_of bs)

  pub word_bits : record_bits t (record_of new 0 result) ≡ bits_of bs
  word_bits = made_record t result rungs (bits_of bs) out w h wide

  pub word_bytes : pack (record_bits t (record_of new 0 result)) ≡ bs
  word_bytes = ap pack word_bits ∙ pack_bits_of bs b

  -- The word as a stream of its own bits.
  abbrev source : Stream
  source = stream_of new w 0

  count_is : w ≡ bits (type_at t result)
  count_is = did.counts ∙ sym wide

  ends : w ≤ 8 * length new
  ends = let l = made_length rungs (bits_of bs) out w h in let e = did.counts in let o = did.roomy in omega arith

  begins : ladder (read_rungs t source result) (tt {0}) ≡ accepted (tt {0})
  begins = stream_passes t source result (record { named = whole; ends = ends; begins = omega arith })

  rungs_pass : ladder (word_read_rungs t source n result) (tt {0}) ≡ accepted (tt {0})
  rungs_pass =
      let p = whole.narrow in
      let e = power in
      range_pass (read_rungs t source result) (ltb n 32) (is_word n (type_at t result)) begins (lt-ltb n 32 (small n (omega arith))) passed.2

  own_bits : take (bits (type_at t result)) (rest_of source) ≡ bits_of bs
  unfolding record_bits
  own_bits = rest_take source (bits (type_at t result)) (omega (arith, count_is)) ∙ word_bits

  found : decode_padded (type_at t result) (rest_of source) ≡ decoded (take (bits (type_at t result)) (rest_of source)) (bits (type_at t result))
  found =
      let l = rest_length source ends in
      let e = count_is in
      padded_whole (type_at t result) (rest_of source) (omega arith)

  pub word_read : (other : List ℕ) → length bs ≤ length other
      → (accepted w ≡ word_read_call t source n result other) × (bs ++ drop (length bs) other ≡ word_read_out t source n result other)
  word_read other l =
      let d : Decoded = decode_padded (type_at t result) (rest_of source) in
      let e : decoded_record d ≡ bits_of bs = ap decoded_record found ∙ own_bits in
      let k : length (decoded_record d) ≡ 8 * length bs = ap length e ∙ length_bits_of bs in
      let f : w ≡ consumed d = count_is ∙ sym (ap consumed found) in
      done (word_read_rungs t source n result) source d other rungs_pass (ap is_early found) (omega arith) w (omega arith)
      (bs ++ drop (length bs) other)
      (sym (written_bytes bs other b) ∙ ap (λ (z : List Bool). written z other) (sym e))

-- The bytes of a word, read back from its record, and by `word_from_bits` into another output.
pub record BytesBack (t : Table) (n : ℕ) (bs : List ℕ) (result : ℕ) (new : List ℕ) (w : ℕ) : Type 0 where
  pub held : pack (record_bits t (record_of new 0 result)) ≡ bs
  pub answer : (other : List ℕ) → length bs ≤ length other → accepted w ≡ word_read_call t (stream_of new w 0) n result other
  pub output : (other : List ℕ) → length bs ≤ length other → bs ++ drop (length bs) other ≡ word_read_out t (stream_of new w 0) n result other

pub bytes_read_back : (t : Table) (n : ℕ) (bs : List ℕ) (result : ℕ) (out : List ℕ) (w : ℕ) → 3 ≤ n → Bytes bs
    → bytes_call t n bs result out ≡ accepted w
    → BytesBack t n bs result (bytes_out t n bs result out) w
bytes_read_back t n bs result out w l b h =
    record {
      held = word_bytes t result n (eqb (length bs) (2 ^ (n - 3))) bs out w b as_many h;
      answer = λ other k. (word_read t result n (eqb (length bs) (2 ^ (n - 3))) bs out w b as_many h other k).0;
      output = λ other k. (word_read t result n (eqb (length bs) (2 ^ (n - 3))) bs out w b as_many h other k).1;
    }
  where
    as_many : eqb (length bs) (2 ^ (n - 3)) ≡ true → 8 * length bs ≡ 2 ^ n
    as_many e = ap (λ (k : ℕ). 8 * k) (eqb-true (length bs) (2 ^ (n - 3)) e) ∙ eight_times n l

pub array_read_back : (t : Table) (bs : List ℕ) (result : ℕ) (out : List ℕ) (w : ℕ) → Bytes bs → array_call t bs result out ≡ accepted w
    → BytesBack t (3 + exponent (length bs)) bs result (array_out t bs result out) w
array_read_back t bs result out w b h =
    let n : ℕ = 3 + exponent (length bs) in
    record {
      held = word_bytes t result n (ltb (exponent (length bs)) 29) bs out w b as_many h;
      answer = λ other k. (word_read t result n (ltb (exponent (length bs)) 29) bs out w b as_many h other k).0;
      output = λ other k. (word_read t result n (ltb (exponent (length bs)) 29) bs out w b as_many h other k).1;
    }
  where
    as_many : ltb (exponent (length bs)) 29 ≡ true → 8 * length bs ≡ 2 ^ (3 + exponent (length bs))
    as_many e = exponent_bytes (exponent (length bs)) (length bs) refl (ltb-true (exponent (length bs)) 29 e)

pub number_read_back : (t : Table) (n x result : ℕ) (out : List ℕ) (w : ℕ) → number_call t n x result out ≡ accepted w
    → value (2 ^ n) (record_bits t (record_of (number_out t n x result out) 0 result)) ≡ x
number_read_back t n x result out w h =
    let rs : List Rung = number_rungs t n x result in
    let v : List Bool = to_bits (2 ^ n) x in
    let passed =
    range_accepted (named t (result ∷ [])) (ltb x (2 ^ (2 ^ n))) (is_word n (type_at t result)) (accepts rs v out w h).clear in
    let wide : bits (type_at t result) ≡ length v =
    is_word_bits n (type_at t result) passed.2 ∙ sym (length_to_bits (2 ^ n) x) in
    ap (value (2 ^ n)) (made_record t result rs v out w h wide)
    ∙ value_to_bits (2 ^ n) x
    ∙ mod-eq_of_lt (ltb-true x (2 ^ (2 ^ n)) passed.1)
