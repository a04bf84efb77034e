-- Pruning: document 01, "Pruning". `cut target type v` cuts the record v of a type to a target; `none` is wrong shape.
--
--   rebuilt joined              a payload that was cut, wrapped again; two parts that were cut, one after the other
--   cut_to_sum cut_to_prod      the rules for sums and for products
--   cut                         the four rules in their order
use Rattle.std.specs.Prelude.{Bool, cond, List, [], ◌++◌}
use Rattle.std.proofs.Math.Option.{Option, none, some}
use Rattle.meaning.specs.Types.{Ty, unit, sum, prod, same}
use Rattle.meaning.specs.Records.{tag, left_of, right_of, first_of, second_of, in_left, in_right}

-- What becomes of a payload that was cut.
abbrev pub rebuilt : (List Bool → List Bool) → Option (List Bool) → Option (List Bool)
rebuilt wrap none = none
rebuilt wrap (some v) = some (wrap v)

-- What becomes of two parts that were cut.
abbrev pub joined : Option (List Bool) → Option (List Bool) → Option (List Bool)
joined none w = none
joined (some v) none = none
joined (some v) (some w) = some (v ++ w)

-- A cut to a sum: take the tag, cut that payload to that side, rebuild with zero padding. The untaken side may be any type.
abbrev pub cut_to_sum : Ty → Ty → (Ty → List Bool → Option (List Bool)) → (Ty → List Bool → Option (List Bool)) → Ty → List Bool → Option (List Bool)
cut_to_sum a b cutLeft cutRight unit v = none
cut_to_sum a b cutLeft cutRight (sum c d) v =
    cond (tag v) (rebuilt (in_right a b) (cutRight d (right_of c d v))) (rebuilt (in_left a b) (cutLeft c (left_of c d v)))
cut_to_sum a b cutLeft cutRight (prod c d) v = none

-- A cut to a product: cut both parts.
abbrev pub cut_to_prod : (Ty → List Bool → Option (List Bool)) → (Ty → List Bool → Option (List Bool)) → Ty → List Bool → Option (List Bool)
cut_to_prod cutFirst cutSecond unit v = none
cut_to_prod cutFirst cutSecond (sum c d) v = none
cut_to_prod cutFirst cutSecond (prod c d) v = joined (cutFirst c (first_of c v)) (cutSecond d (second_of c v))

-- Target equal to the type: all bits kept, padding too. Else unit: empty. Else sum; else product. Anything else is wrong shape.
unfoldable pub cut : Ty → Ty → List Bool → Option (List Bool)
cut unit t v = cond (same unit t) (some v) (some [])
cut (sum a b) t v = cond (same (sum a b) t) (some v) (cut_to_sum a b (cut a) (cut b) t v)
cut (prod a b) t v = cond (same (prod a b) t) (some v) (cut_to_prod (cut a) (cut b) t v)
