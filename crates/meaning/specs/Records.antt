-- Records: document 01, "Bits of a record". A record of a type is a list of as many bits as the type is wide.
--
--   tag pad_left pad_right      the first bit of a sum; how much padding follows it on either side
--   left_of right_of             the payload of a sum, at its end
--   first_of second_of            the parts of a product
--   in_left in_right            a record made of its payload, new padding zero
--   compact                     the tags met on the walk, left before right, without padding
--   plain                       the record with the same tags and zero padding
--   same_bits order_bit order_bits  equality and order of bits
use Prim.Native.Nat.{ℕ, ◌+◌, ◌-◌, max, Ordering}
use Rattle.std.specs.Prelude.{Bool, true, false, cond, ◌&&◌, List, [], ◌∷◌, ◌++◌, take, drop, get_or}
use Rattle.std.specs.Bool.{beq}
use Rattle.meaning.specs.Types.{Ty, unit, sum, prod, bits}
use Rattle.meaning.specs.Bits.{zeros}

-- The tag of a sum is its first bit: 0 left, 1 right.
abbrev pub tag : List Bool → Bool
tag v = get_or v 0 false

-- The padding between the tag and a left payload: up to the larger side.
abbrev pub pad_left : Ty → Ty → ℕ
pad_left a b = max (bits a) (bits b) - bits a

-- The padding between the tag and a right payload.
abbrev pub pad_right : Ty → Ty → ℕ
pad_right a b = max (bits a) (bits b) - bits b

-- The payload of a left record: what follows tag and padding.
abbrev pub left_of : Ty → Ty → List Bool → List Bool
left_of a b v = drop (1 + pad_left a b) v

-- The payload of a right record.
abbrev pub right_of : Ty → Ty → List Bool → List Bool
right_of a b v = drop (1 + pad_right a b) v

-- The first part of a product.
abbrev pub first_of : Ty → List Bool → List Bool
first_of a v = take (bits a) v

-- The second part of a product.
abbrev pub second_of : Ty → List Bool → List Bool
second_of a v = drop (bits a) v

-- A left record: tag 0, zero padding, the payload with its own padding.
abbrev pub in_left : Ty → Ty → List Bool → List Bool
in_left a b p = false ∷ (zeros (pad_left a b) ++ p)

-- A right record: tag 1, zero padding, the payload with its own padding.
abbrev pub in_right : Ty → Ty → List Bool → List Bool
in_right a b p = true ∷ (zeros (pad_right a b) ++ p)

-- The compact bits of a record.
unfoldable pub compact : Ty → List Bool → List Bool
compact unit v = []
compact (sum a b) v = cond (tag v) (true ∷ compact b (right_of a b v)) (false ∷ compact a (left_of a b v))
compact (prod a b) v = compact a (first_of a v) ++ compact b (second_of a v)

-- The record with the same tags and zero padding.
unfoldable pub plain : Ty → List Bool → List Bool
plain unit v = []
plain (sum a b) v = cond (tag v) (in_right a b (plain b (right_of a b v))) (in_left a b (plain a (left_of a b v)))
plain (prod a b) v = plain a (first_of a v) ++ plain b (second_of a v)

-- Two lists of bits are the same.
unfoldable pub same_bits : List Bool → List Bool → Bool
same_bits [] [] = true
same_bits [] (c ∷ w) = false
same_bits (b ∷ v) [] = false
same_bits (b ∷ v) (c ∷ w) = beq b c && same_bits v w

-- The order of two bits: 0 before 1.
abbrev pub order_bit : Bool → Bool → Ordering → Ordering
order_bit true true rest = rest
order_bit true false rest = Ordering.gt
order_bit false true rest = Ordering.lt
order_bit false false rest = rest

-- The order of two records of one type: the first differing bit decides.
unfoldable pub order_bits : List Bool → List Bool → Ordering
order_bits [] w = Ordering.eq
order_bits (b ∷ v) [] = Ordering.eq
order_bits (b ∷ v) (c ∷ w) = order_bit b c (order_bits v w)
