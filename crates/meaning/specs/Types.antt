-- Types and their facts: document 01, "The type table".
--
--   Ty                          a type: unit, a sum or a product
--   same                        two types are the same tree
--   is_unit is_sum is_prod       which of the three it is
--   left_side right_side        its sides
--   bits                        its true width, in bits
--   top stop                    the end of the 64-bit numbers, and an addition that stops there
--   width size padded           its facts
--   fewest least_length         its true least compact length, and as a fact: document 02, K1
use Rattle.std.specs.Prelude.{ℕ, ◌+◌, ◌-◌, ◌^◌, min, max, Bool, true, false, not, ◌&&◌, ◌||◌, eqb}

-- A type is unit, a sum of two types or a product of two types.
pub data Ty : Type 0 where
  unit : Ty
  sum : Ty → Ty → Ty
  prod : Ty → Ty → Ty

-- Two types are equal if they are the same tree.
unfoldable pub same : Ty → Ty → Bool
same unit unit = true
same unit (sum c d) = false
same unit (prod c d) = false
same (sum a b) unit = false
same (sum a b) (sum c d) = same a c && same b d
same (sum a b) (prod c d) = false
same (prod a b) unit = false
same (prod a b) (sum c d) = false
same (prod a b) (prod c d) = same a c && same b d

-- It is unit.
abbrev pub is_unit : Ty → Bool
is_unit unit = true
is_unit (sum a b) = false
is_unit (prod a b) = false

-- It is a sum.
abbrev pub is_sum : Ty → Bool
is_sum unit = false
is_sum (sum a b) = true
is_sum (prod a b) = false

-- It is a product.
abbrev pub is_prod : Ty → Bool
is_prod unit = false
is_prod (sum a b) = false
is_prod (prod a b) = true

-- The left side of a sum or a product.
abbrev pub left_side : Ty → Ty
left_side unit = unit
left_side (sum a b) = a
left_side (prod a b) = a

-- The right side of a sum or a product.
abbrev pub right_side : Ty → Ty
right_side unit = unit
right_side (sum a b) = b
right_side (prod a b) = b

-- The true width: none for unit, one more than the larger side for a sum, both sides for a product.
unfoldable pub bits : Ty → ℕ
bits unit = 0
bits (sum a b) = 1 + max (bits a) (bits b)
bits (prod a b) = bits a + bits b

-- The end of the 64-bit numbers, 18,446,744,073,709,551,615.
abbrev pub top : ℕ
top = 2 ^ 64 - 1

-- An addition that stops at the end.
abbrev pub stop : ℕ → ℕ → ℕ
stop a b = min (a + b) top

-- The width as a 64-bit fact: each addition stops at the end by itself.
unfoldable pub width : Ty → ℕ
width unit = 0
width (sum a b) = stop 1 (max (width a) (width b))
width (prod a b) = stop (width a) (width b)

-- The size as a 64-bit fact: one and both sides, each addition stopping by itself.
unfoldable pub size : Ty → ℕ
size unit = 1
size (sum a b) = stop 1 (stop (size a) (size b))
size (prod a b) = stop 1 (stop (size a) (size b))

-- Padded: a sum whose sides differ in width, or with a padded side; a product with a padded side.
unfoldable pub padded : Ty → Bool
padded unit = false
padded (sum a b) = padded a || padded b || not (eqb (width a) (width b))
padded (prod a b) = padded a || padded b

-- The true least compact length: no bit for unit, one more than the smaller side for a sum, both sides for a product.
unfoldable pub fewest : Ty → ℕ
fewest unit = 0
fewest (sum a b) = 1 + min (fewest a) (fewest b)
fewest (prod a b) = fewest a + fewest b

-- The least compact length as a 64-bit fact: each addition stops at the end by itself.
unfoldable pub least_length : Ty → ℕ
least_length unit = 0
least_length (sum a b) = stop 1 (min (least_length a) (least_length b))
least_length (prod a b) = stop (least_length a) (least_length b)
