-- Words, buffers and the hash state: document 01, "Words and buffers".
--
--   two word                    2 is unit + unit; the next word type is the square of the last
--   word_widths                 the thirty-two word widths, in one fixed list
--   is_word as_word             a type is word n; the n of a word type, or 32 where it is none
--   exponent                    the k of a length 2^k, or 29 where it is none or longer than any word
--   joins                       two words of one type and the next word
--   segment buffer              the buffer types
--   segment_bits after_segment buffer_bits  a segment, what is left after it, and a buffer that holds data
--   ctx8 HashState ctx8_bits    the hash state
use Rattle.std.specs.Prelude.{ℕ, zero, suc, ◌+◌, ◌*◌, ◌/◌, ◌^◌, Bool, true, false, cond, ◌&&◌, List, [], ◌∷◌, ◌++◌, length, take, drop, eqb, ltb}
use Rattle.meaning.specs.Choice.{least}
use Rattle.meaning.specs.Types.{Ty, unit, sum, prod, same}
use Rattle.meaning.specs.Bits.{odd, to_bits, bits_of, zeros}

-- The type of one bit.
abbrev pub two : Ty
two = sum unit unit

-- Word type n: 2, squared n times.
unfoldable pub word : ℕ → Ty
word zero = two
word (suc n) = prod (word n) (word n)

-- The thirty-two word widths, 2 to the n for n from 0 to 31.
unfoldable pub word_widths : List ℕ
word_widths =
    1 ∷ 2 ∷ 4 ∷ 8 ∷ 16 ∷ 32 ∷ 64 ∷ 128 ∷ 256 ∷ 512 ∷ 1024 ∷ 2048 ∷ 4096 ∷ 8192 ∷ 16384 ∷ 32768 ∷ 65536 ∷ 131072 ∷ 262144 ∷ 524288
    ∷ 1048576 ∷ 2097152 ∷ 4194304 ∷ 8388608 ∷ 16777216 ∷ 33554432 ∷ 67108864 ∷ 134217728 ∷ 268435456 ∷ 536870912 ∷ 1073741824
    ∷ 2147483648 ∷ []

-- The type is that exact tree, followed down from n.
unfoldable pub is_word : ℕ → Ty → Bool
is_word zero t = same two t
is_word (suc n) unit = false
is_word (suc n) (sum a b) = false
is_word (suc n) (prod a b) = is_word n a && is_word n b

-- The n of a word type, or 32 where the type is no word of the list.
unfoldable pub as_word : Ty → ℕ
as_word t = least (λ n. is_word n t) 32

-- The k of a length that is 2 to the k, for bytes of words up to the last of the list; 29 for any other length.
unfoldable pub exponent : ℕ → ℕ
exponent len = least (λ k. eqb (2 ^ k) len) 29

-- Two types are the same word type, and the third is the next one.
abbrev pub joins : Ty → Ty → Ty → Bool
joins a b c = ltb (as_word a) 31 && is_word (as_word a) b && is_word (suc (as_word a)) c

-- Segment n of a buffer: 2 to the n bytes that may be absent.
abbrev pub segment : ℕ → Ty
segment n = sum unit (word (3 + n))

-- Buffer type n: segment n, then buffer type n − 1; nothing follows segment 0.
unfoldable pub buffer : ℕ → Ty
buffer zero = segment 0
buffer (suc n) = prod (segment (suc n)) (buffer n)

-- Segment n of data: present exactly if that bit of the length is set; an absent one is zero.
abbrev pub segment_bits : ℕ → List ℕ → List Bool
segment_bits n bytes = cond (odd (length bytes / 2 ^ n)) (true ∷ bits_of (take (2 ^ n) bytes)) (false ∷ zeros (8 * 2 ^ n))

-- The data that follows segment n.
abbrev pub after_segment : ℕ → List ℕ → List ℕ
after_segment n bytes = cond (odd (length bytes / 2 ^ n)) (drop (2 ^ n) bytes) bytes

-- A buffer that holds data: its segments from n down.
unfoldable pub buffer_bits : ℕ → List ℕ → List Bool
buffer_bits zero bytes = segment_bits 0 bytes
buffer_bits (suc n) bytes = segment_bits (suc n) bytes ++ buffer_bits n (after_segment (suc n) bytes)

-- The hash state's type: a buffer of up to 63 bytes, a 64-bit count, 32 midstate bytes.
unfoldable pub ctx8 : Ty
ctx8 = prod (buffer 5) (prod (word 6) (word 8))

-- A hash state: 32 midstate bytes, a count, 63 buffered bytes of which the first so many are used. The struct's arrays have these lengths.
pub record HashState : Type 0 where
  pub midstate : List ℕ
  pub counted : ℕ
  pub buffered : List ℕ
  pub used : ℕ

-- The bits of a hash state: buffer, count, midstate.
unfoldable pub ctx8_bits : HashState → List Bool
ctx8_bits s = buffer_bits 5 (take s.used s.buffered) ++ (to_bits 64 s.counted ++ bits_of s.midstate)
