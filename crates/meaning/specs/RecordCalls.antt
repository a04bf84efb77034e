-- The calls on records: views, equality and order, lengths, constructors.
--
--   handed                      1 to 5 of a call on records
--   Spot Spots addressed        sub-views, and where their offsets can be told
--   as_left_call as_right_call as_product_call  views
--   order_then order_types      the order of types, and then of bits
--   equal_call compare_call     equality and order
--   padded_len_call compact_len_call    lengths
--   results                     1 to 7 of a constructor
--   unit_rungs zero_rungs left_rungs …, zero_bits left_bits …  the rungs of each constructor, and the bits that it makes
--   unit_call zero_call left_call right_call none_call some_call product_call, and the same with `_out` for the output
use Prim.Native.Nat.{ℕ, ◌+◌, Ordering, compare}
use Rattle.std.specs.Prelude.{Bool, not, ◌&&◌, List, [], ◌∷◌, ◌++◌, map, length, ltb}
use Rattle.meaning.specs.Types.{same, bits, top, is_unit, is_sum, is_prod, left_side, right_side}
use Rattle.meaning.specs.Tables.{Table, class_of, left, right}
use Rattle.meaning.specs.Bits.{zeros}
use Rattle.meaning.specs.Records.{tag, pad_left, pad_right, in_left, in_right, compact, same_bits, order_bits}
use Rattle.meaning.specs.Ladder.{Answer, Rung, rung, ladder, Record, type_of, type_at, record_bits, named, within, shaped, makes, made}

-- 1 to 5 of a call on records that also names these nodes.
abbrev pub handed : Table → List Record → List ℕ → List Rung
handed t rs ns = named t (map (λ r. r.node) rs ++ ns) ++ within t rs

-- A sub-view: the caller's bytes at another offset and node.
pub record Spot : Type 0 where
  pub offset : ℕ
  pub node : ℕ

-- Two sub-views.
pub record Spots : Type 0 where
  pub first : Spot
  pub second : Spot

-- 5, of a view: offset plus width is no 64-bit number, so a sub-view's offset might not be one. It takes 2^61 bytes to get there.
abbrev pub addressed : Table → Record → List Rung
addressed t r = rung (ltb top (r.offset + bits (type_of t r))) 5 0 ∷ []

-- `as_left`: the payload of a left record, after tag and padding; the node is the side as the column has it.
abbrev pub as_left_call : Table → Record → Answer Spot
as_left_call t r =
    ladder (handed t (r ∷ []) [] ++ (addressed t r ++ shaped (is_sum (type_of t r) && not (tag (record_bits t r)))))
    (record {
      offset = r.offset + (1 + pad_left (left_side (type_of t r)) (right_side (type_of t r)));
      node = left t.columns r.node;
    })

-- `as_right`: the payload of a right record.
abbrev pub as_right_call : Table → Record → Answer Spot
as_right_call t r =
    ladder (handed t (r ∷ []) [] ++ (addressed t r ++ shaped (is_sum (type_of t r) && tag (record_bits t r))))
    (record {
      offset = r.offset + (1 + pad_right (left_side (type_of t r)) (right_side (type_of t r)));
      node = right t.columns r.node;
    })

-- `as_product`: the two parts, one after the other.
abbrev pub as_product_call : Table → Record → Answer Spots
as_product_call t r =
    ladder (handed t (r ∷ []) [] ++ (addressed t r ++ shaped (is_prod (type_of t r))))
    (record {
      first = record { offset = r.offset; node = left t.columns r.node };
      second = record { offset = r.offset + bits (left_side (type_of t r)); node = right t.columns r.node };
    })

-- `equal`: the same class, which is the same tree, and the same width bits.
abbrev pub equal_call : Table → Record → Record → Answer Bool
equal_call t a b = ladder (handed t (a ∷ b ∷ []) []) (same (type_of t a) (type_of t b) && same_bits (record_bits t a) (record_bits t b))

-- The order of two types goes first; where it does not decide, the bits do.
abbrev pub order_then : Ordering → Ordering → Ordering
order_then Ordering.lt rest = Ordering.lt
order_then Ordering.eq rest = rest
order_then Ordering.gt rest = Ordering.gt

-- The order of the types of two nodes: the smaller class number first.
abbrev pub order_types : Table → ℕ → ℕ → Ordering
order_types t a b = compare (class_of t.columns a) (class_of t.columns b)

-- `compare`: by type, and within a class by the first differing bit.
abbrev pub compare_call : Table → Record → Record → Answer Ordering
compare_call t a b =
    ladder (handed t (a ∷ b ∷ []) [])
    (order_then (order_types t a.node b.node) (order_bits (record_bits t a) (record_bits t b)))

-- `padded_len`: the width.
abbrev pub padded_len_call : Table → Record → Answer ℕ
padded_len_call t r = ladder (handed t (r ∷ []) []) (bits (type_of t r))

-- `compact_len`: the number of compact bits.
abbrev pub compact_len_call : Table → Record → Answer ℕ
compact_len_call t r = ladder (handed t (r ∷ []) []) (length (compact (type_of t r) (record_bits t r)))

-- The rungs of a constructor whose result is a type of the right shape.
abbrev pub results : Table → List Record → ℕ → Bool → List Rung
results t rs result right = handed t rs (result ∷ []) ++ shaped right

-- `unit`: a record of no bits, of a unit node.
abbrev pub unit_rungs : Table → ℕ → List Rung
unit_rungs t result = results t [] result (is_unit (type_at t result))

-- `zero`: all bits zero, of any node.
abbrev pub zero_rungs : Table → ℕ → List Rung
zero_rungs t result = handed t [] (result ∷ [])

-- The bits of `zero`.
abbrev pub zero_bits : Table → ℕ → List Bool
zero_bits t result = zeros (bits (type_at t result))

-- `left`: the result is a sum whose left side is the payload's type.
abbrev pub left_rungs : Table → Record → ℕ → List Rung
left_rungs t p result = results t (p ∷ []) result (is_sum (type_at t result) && same (left_side (type_at t result)) (type_of t p))

-- The bits of `left`.
abbrev pub left_bits : Table → Record → ℕ → List Bool
left_bits t p result = in_left (left_side (type_at t result)) (right_side (type_at t result)) (record_bits t p)

-- `right`: the result is a sum whose right side is the payload's type.
abbrev pub right_rungs : Table → Record → ℕ → List Rung
right_rungs t p result = results t (p ∷ []) result (is_sum (type_at t result) && same (right_side (type_at t result)) (type_of t p))

-- The bits of `right`.
abbrev pub right_bits : Table → Record → ℕ → List Bool
right_bits t p result = in_right (left_side (type_at t result)) (right_side (type_at t result)) (record_bits t p)

-- `none`: the result is a sum with a unit left side; the left record of unit.
abbrev pub none_rungs : Table → ℕ → List Rung
none_rungs t result = results t [] result (is_sum (type_at t result) && is_unit (left_side (type_at t result)))

-- The bits of `none`.
abbrev pub none_bits : Table → ℕ → List Bool
none_bits t result = in_left (left_side (type_at t result)) (right_side (type_at t result)) []

-- `some`: the result is the sum of unit and the payload's type; the right record of the payload.
abbrev pub some_rungs : Table → Record → ℕ → List Rung
some_rungs t p result =
    results t (p ∷ []) result
    (is_sum (type_at t result) && is_unit (left_side (type_at t result)) && same (right_side (type_at t result)) (type_of t p))

-- The bits of `some`.
abbrev pub some_bits : Table → Record → ℕ → List Bool
some_bits t p result = in_right (left_side (type_at t result)) (right_side (type_at t result)) (record_bits t p)

-- `product`: the result is the product of the two types.
abbrev pub product_rungs : Table → Record → Record → ℕ → List Rung
product_rungs t a b result =
    results t (a ∷ b ∷ []) result
    (is_prod (type_at t result) && same (left_side (type_at t result)) (type_of t a) && same (right_side (type_at t result)) (type_of t b))

-- The bits of `product`: left, then right.
abbrev pub product_bits : Table → Record → Record → List Bool
product_bits t a b = record_bits t a ++ record_bits t b

-- `unit`: the answer.
abbrev pub unit_call : Table → ℕ → List ℕ → Answer ℕ
unit_call t result out = makes (unit_rungs t result) [] out

-- `unit`: the output.
abbrev pub unit_out : Table → ℕ → List ℕ → List ℕ
unit_out t result out = made (unit_rungs t result) [] out

-- `zero`: the answer.
abbrev pub zero_call : Table → ℕ → List ℕ → Answer ℕ
zero_call t result out = makes (zero_rungs t result) (zero_bits t result) out

-- `zero`: the output.
abbrev pub zero_out : Table → ℕ → List ℕ → List ℕ
zero_out t result out = made (zero_rungs t result) (zero_bits t result) out

-- `left`: the answer.
abbrev pub left_call : Table → Record → ℕ → List ℕ → Answer ℕ
left_call t p result out = makes (left_rungs t p result) (left_bits t p result) out

-- `left`: the output.
abbrev pub left_out : Table → Record → ℕ → List ℕ → List ℕ
left_out t p result out = made (left_rungs t p result) (left_bits t p result) out

-- `right`: the answer.
abbrev pub right_call : Table → Record → ℕ → List ℕ → Answer ℕ
right_call t p result out = makes (right_rungs t p result) (right_bits t p result) out

-- `right`: the output.
abbrev pub right_out : Table → Record → ℕ → List ℕ → List ℕ
right_out t p result out = made (right_rungs t p result) (right_bits t p result) out

-- `none`: the answer.
abbrev pub none_call : Table → ℕ → List ℕ → Answer ℕ
none_call t result out = makes (none_rungs t result) (none_bits t result) out

-- `none`: the output.
abbrev pub none_out : Table → ℕ → List ℕ → List ℕ
none_out t result out = made (none_rungs t result) (none_bits t result) out

-- `some`: the answer.
abbrev pub some_call : Table → Record → ℕ → List ℕ → Answer ℕ
some_call t p result out = makes (some_rungs t p result) (some_bits t p result) out

-- `some`: the output.
abbrev pub some_out : Table → Record → ℕ → List ℕ → List ℕ
some_out t p result out = made (some_rungs t p result) (some_bits t p result) out

-- `product`: the answer.
abbrev pub product_call : Table → Record → Record → ℕ → List ℕ → Answer ℕ
product_call t a b result out = makes (product_rungs t a b result) (product_bits t a b) out

-- `product`: the output.
abbrev pub product_out : Table → Record → Record → ℕ → List ℕ → List ℕ
product_out t a b result out = made (product_rungs t a b result) (product_bits t a b) out
