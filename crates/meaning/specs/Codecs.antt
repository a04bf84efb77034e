-- The two readings: document 01, "Bits of a record". A stream is read from its position on.
--
--   Decoded                     the record and how many bits it consumed, or an early end
--   under_tag after_first both_parts    what a sum and a product decode to, from what their sides do
--   decode_compact              compact reading: zero padding
--   decode_padded               padded reading: padding as read
--   is_early decoded_record consumed  whether it ended early, the record, and how many bits it took
use Rattle.std.specs.Prelude.{ℕ, ◌+◌, Bool, true, false, cond, List, [], ◌∷◌, ◌++◌, length, take, drop, leb}
use Rattle.meaning.specs.Types.{Ty, unit, sum, prod, bits}
use Rattle.meaning.specs.Records.{in_left, in_right}

-- A record with the number of bits that it consumed, or a stream that ends early.
pub data Decoded : Type 0 where
  early : Decoded
  decoded : List Bool → ℕ → Decoded

-- A decoded payload after a tag becomes the record of the sum.
abbrev pub under_tag : (List Bool → List Bool) → Decoded → Decoded
under_tag wrap early = early
under_tag wrap (decoded v n) = decoded (wrap v) (1 + n)

-- The second part of a product after the first.
abbrev pub after_first : List Bool → ℕ → Decoded → Decoded
after_first v n early = early
after_first v n (decoded w m) = decoded (v ++ w) (n + m)

-- The first part of a product, and then the second, read where the first ended.
abbrev pub both_parts : Decoded → (ℕ → Decoded) → Decoded
both_parts early second = early
both_parts (decoded v n) second = after_first v n (second n)

-- Compact reading: a tag for each sum on the walk, left before right; padding is zero.
unfoldable pub decode_compact : Ty → List Bool → Decoded
decode_compact unit s = decoded [] 0
decode_compact (sum a b) [] = early
decode_compact (sum a b) (t ∷ s) = cond t (under_tag (in_right a b) (decode_compact b s)) (under_tag (in_left a b) (decode_compact a s))
decode_compact (prod a b) s = both_parts (decode_compact a s) (λ n. decode_compact b (drop n s))

-- Padded reading: as many bits as the type is wide, as they are.
unfoldable pub decode_padded : Ty → List Bool → Decoded
decode_padded t s = cond (leb (bits t) (length s)) (decoded (take (bits t) s) (bits t)) early

-- The stream ends early.
abbrev pub is_early : Decoded → Bool
is_early early = true
is_early (decoded v n) = false

-- The record that was read.
abbrev pub decoded_record : Decoded → List Bool
decoded_record early = []
decoded_record (decoded v n) = v

-- The number of bits that it consumed.
abbrev pub consumed : Decoded → ℕ
consumed early = 0
consumed (decoded v n) = n
