-- The rules of pruning, each as a law: document 01, "Pruning". They are asked in this order.
--
--   cut_same                        target equal to the type: all bits kept, padding too
--   cut_unit                        else unit: empty (and a record of unit is empty itself)
--   cut_sum_left cut_sum_right      else sum: take the tag, cut that payload to that side, rebuild with zero padding
--   cut_product                     else product: cut both parts
--   cut_sum_of_unit cut_sum_of_product cut_product_of_unit cut_product_of_sum      anything else is wrong shape
--   different                       unequal types fail the test that the rules ask
-- Assumes nothing.
use mathlib.Core.Path.{◌≡◌, refl, ap}
use mathlib.Core.Bool.{Bool, true, false}
use mathlib.Core.List.{List, []}
use mathlib.Core.Option.{none, some}
use lib.ListN.{length}
use Rattle.meaning.specs.Types.{Ty, unit, sum, prod, same, bits}
use Rattle.meaning.specs.Records.{tag, left_of, right_of, first_of, second_of, in_left, in_right}
use Rattle.meaning.specs.Cuts.{rebuilt, joined, cut}
use Rattle.meaning.proofs.Types.{same_refl, same_eq}
use Rattle.meaning.proofs.Records.{no_bits}

-- Unequal types fail the test of equality.
pub different : (a t : Ty) → ¬ (a ≡ t) → same a t ≡ false
different a t n = go (same a t) refl
  where
    go : (g : Bool) → same a t ≡ g → g ≡ false
    go true e = absurd (n (same_eq a t e))
    go false e = refl

pub cut_same : (t : Ty) (v : List Bool) → cut t t v ≡ some v
unfolding cut
cut_same unit v = rw (same_refl unit)
cut_same (sum a b) v = rw (same_refl (sum a b))
cut_same (prod a b) v = rw (same_refl (prod a b))

pub cut_unit : (t : Ty) (v : List Bool) → length v ≡ bits t → cut unit t v ≡ some []
unfolding cut same bits
cut_unit unit v h = ap some (no_bits v h)
cut_unit (sum a b) v h = refl
cut_unit (prod a b) v h = refl

-- The untaken sides, b of the target and d of the type, may be any type.
pub cut_sum_left : (a b c d : Ty) (v : List Bool) → same (sum a b) (sum c d) ≡ false → tag v ≡ false →
    cut (sum a b) (sum c d) v ≡ rebuilt (in_left a b) (cut a c (left_of c d v))
unfolding cut
cut_sum_left a b c d v e h = rw (e, h)

-- The untaken sides, a of the target and c of the type, may be any type.
pub cut_sum_right : (a b c d : Ty) (v : List Bool) → same (sum a b) (sum c d) ≡ false → tag v ≡ true →
    cut (sum a b) (sum c d) v ≡ rebuilt (in_right a b) (cut b d (right_of c d v))
unfolding cut
cut_sum_right a b c d v e h = rw (e, h)

pub cut_product : (a b c d : Ty) (v : List Bool) → same (prod a b) (prod c d) ≡ false →
    cut (prod a b) (prod c d) v ≡ joined (cut a c (first_of c v)) (cut b d (second_of c v))
unfolding cut
cut_product a b c d v e = rw e

pub cut_sum_of_unit : (a b : Ty) (v : List Bool) → cut (sum a b) unit v ≡ none
unfolding cut same
cut_sum_of_unit a b v = refl

pub cut_sum_of_product : (a b c d : Ty) (v : List Bool) → cut (sum a b) (prod c d) v ≡ none
unfolding cut same
cut_sum_of_product a b c d v = refl

pub cut_product_of_unit : (a b : Ty) (v : List Bool) → cut (prod a b) unit v ≡ none
unfolding cut same
cut_product_of_unit a b v = refl

pub cut_product_of_sum : (a b c d : Ty) (v : List Bool) → cut (prod a b) (sum c d) v ≡ none
unfolding cut same
cut_product_of_sum a b c d v = refl
