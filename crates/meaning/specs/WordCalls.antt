-- The calls on words, byte arrays, buffers and the hash state.
--
--   from_range                  1 to 7 of a call that makes a record from numbers or bytes
--   number_rungs bytes_rungs array_rungs join_rungs word_read_rungs buffer_rungs ctx8_rungs  the rungs of each
--   number_call bytes_call array_call join_call word_read_call buffer_call ctx8_call, and the same with `_out` for the output
use Rattle.std.specs.Prelude.{ℕ, ◌+◌, ◌-◌, ◌^◌, Bool, ◌&&◌, List, [], ◌∷◌, ◌++◌, length, eqb, ltb, leb}
use Rattle.meaning.specs.Types.{same}
use Rattle.meaning.specs.Tables.{Table}
use Rattle.meaning.specs.Words.{is_word, exponent, joins, buffer, buffer_bits, ctx8, HashState, ctx8_bits}
use Rattle.meaning.specs.Ladder.{Answer, Rung, Record, Stream, type_at, type_of, named, stream_fits, ranged, shaped, makes, made}
use Rattle.meaning.specs.RecordCalls.{results, product_bits}
use Rattle.meaning.specs.Bits.{to_bits, bits_of}
use Rattle.meaning.specs.CodecCalls.{reads, read_out, padded_in}

-- A call that makes a record of a named result from numbers or bytes: 6 for a value outside its range, 7 for another result.
abbrev pub from_range : Table → ℕ → Bool → Bool → List Rung
from_range t result in_range right = named t (result ∷ []) ++ (ranged in_range ++ shaped right)

-- `u1`, `u2`, `u4` (n of 0, 1 and 2): a number of 2^n bits, for a result that is word n. Its bits are those of the number.
abbrev pub number_rungs : Table → ℕ → ℕ → ℕ → List Rung
number_rungs t n x result = from_range t result (ltb x (2 ^ (2 ^ n))) (is_word n (type_at t result))

-- `u8` … `u512` (n of 3 to 9): 2^(n − 3) big-endian bytes, for a result that is word n. Their bits are the record's.
abbrev pub bytes_rungs : Table → ℕ → List ℕ → ℕ → List Rung
bytes_rungs t n given result = from_range t result (eqb (length given) (2 ^ (n - 3))) (is_word n (type_at t result))

-- `from_byte_array`: a power of two of bytes, for a result that is the word of so many bytes.
abbrev pub array_rungs : Table → List ℕ → ℕ → List Rung
array_rungs t given result =
    from_range t result (ltb (exponent (length given)) 29) (is_word (3 + exponent (length given)) (type_at t result))

-- `word_product`: two records of the same word type join to the next. The bits are left, then right.
abbrev pub join_rungs : Table → Record → Record → ℕ → List Rung
join_rungs t a b result = results t (a ∷ b ∷ []) result (joins (type_of t a) (type_of t b) (type_at t result))

-- `word_from_bits`: 1 to 7; n above 31 is 6, and a node that is not word n is 7. It decodes as padded reading does.
abbrev pub word_read_rungs : Table → Stream → ℕ → ℕ → List Rung
word_read_rungs t s n node = named t (node ∷ []) ++ (stream_fits s ++ (ranged (ltb n 32) ++ shaped (is_word n (type_at t node))))

-- `buffer8_two_n_plus_one`: n is 0 to 12, and the data holds at most 2^(n+1) − 1 bytes.
abbrev pub buffer_rungs : Table → ℕ → List ℕ → ℕ → List Rung
buffer_rungs t n held result =
    from_range t result (ltb n 13 && ltb (length held) (2 ^ (n + 1))) (same (type_at t result) (buffer n))

-- `ctx8`: at most sixty-three bytes are used.
abbrev pub ctx8_rungs : Table → HashState → ℕ → List Rung
ctx8_rungs t s result = from_range t result (leb s.used 63) (same (type_at t result) ctx8)

-- `u1`, `u2`, `u4`: the answer.
abbrev pub number_call : Table → ℕ → ℕ → ℕ → List ℕ → Answer ℕ
number_call t n x result out = makes (number_rungs t n x result) (to_bits (2 ^ n) x) out

-- `u1`, `u2`, `u4`: the output.
abbrev pub number_out : Table → ℕ → ℕ → ℕ → List ℕ → List ℕ
number_out t n x result out = made (number_rungs t n x result) (to_bits (2 ^ n) x) out

-- `u8` … `u512`: the answer.
abbrev pub bytes_call : Table → ℕ → List ℕ → ℕ → List ℕ → Answer ℕ
bytes_call t n given result out = makes (bytes_rungs t n given result) (bits_of given) out

-- `u8` … `u512`: the output.
abbrev pub bytes_out : Table → ℕ → List ℕ → ℕ → List ℕ → List ℕ
bytes_out t n given result out = made (bytes_rungs t n given result) (bits_of given) out

-- `from_byte_array`: the answer.
abbrev pub array_call : Table → List ℕ → ℕ → List ℕ → Answer ℕ
array_call t given result out = makes (array_rungs t given result) (bits_of given) out

-- `from_byte_array`: the output.
abbrev pub array_out : Table → List ℕ → ℕ → List ℕ → List ℕ
array_out t given result out = made (array_rungs t given result) (bits_of given) out

-- `word_product`: the answer.
abbrev pub join_call : Table → Record → Record → ℕ → List ℕ → Answer ℕ
join_call t a b result out = makes (join_rungs t a b result) (product_bits t a b) out

-- `word_product`: the output.
abbrev pub join_out : Table → Record → Record → ℕ → List ℕ → List ℕ
join_out t a b result out = made (join_rungs t a b result) (product_bits t a b) out

-- `buffer8_two_n_plus_one`: the answer.
abbrev pub buffer_call : Table → ℕ → List ℕ → ℕ → List ℕ → Answer ℕ
buffer_call t n held result out = makes (buffer_rungs t n held result) (buffer_bits n held) out

-- `buffer8_two_n_plus_one`: the output.
abbrev pub buffer_out : Table → ℕ → List ℕ → ℕ → List ℕ → List ℕ
buffer_out t n held result out = made (buffer_rungs t n held result) (buffer_bits n held) out

-- `ctx8`: the answer.
abbrev pub ctx8_call : Table → HashState → ℕ → List ℕ → Answer ℕ
ctx8_call t s result out = makes (ctx8_rungs t s result) (ctx8_bits s) out

-- `ctx8`: the output.
abbrev pub ctx8_out : Table → HashState → ℕ → List ℕ → List ℕ
ctx8_out t s result out = made (ctx8_rungs t s result) (ctx8_bits s) out

-- `word_from_bits`: the answer.
abbrev pub word_read_call : Table → Stream → ℕ → ℕ → List ℕ → Answer ℕ
word_read_call t s n node out = reads (word_read_rungs t s n node) s (padded_in t s node) out

-- `word_from_bits`: the output.
abbrev pub word_read_out : Table → Stream → ℕ → ℕ → List ℕ → List ℕ
word_read_out t s n node out = read_out (word_read_rungs t s n node) s (padded_in t s node) out
