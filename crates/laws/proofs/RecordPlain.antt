-- Zero padding. A record is a list of the width of its type; these laws hold of any list of bits.
--
--   plain_length                        with zero padding it has the width of its type
--   compact_plain                       zeroing the padding leaves the compact bits as they were
--   plain_plain                         zeroing it twice is zeroing it once
-- That compact bits are never more than the width is `compact_most` of meaning. Assumes nothing.
use mathlib.Core.Path.{◌≡◌, refl, sym, ap, ap₂, ◌∙◌}
use mathlib.Core.Bool.{Bool, true, false, cond}
use mathlib.Core.List.{List, ◌∷◌, ◌++◌}
use lib.ListN.{length}
use Rattle.meaning.specs.Types.{Ty, unit, sum, prod, bits}
use Rattle.meaning.specs.Records.{tag, left_of, right_of, first_of, second_of, in_left, in_right, compact, plain}
use Rattle.meaning.proofs.Records.{length_in_left, length_in_right, length_pair, bits_unit}
use Rattle.laws.proofs.RecordParts.{compact_in_left, compact_in_right, plain_in_left, plain_in_right, compact_pair, plain_pair}

pub plain_length : (t : Ty) (v : List Bool) → length (plain t v) ≡ bits t
unfolding plain
plain_length unit v = sym bits_unit
plain_length (sum a b) v =
    let right = plain b (right_of a b v) in
    let left = plain a (left_of a b v) in
    elim (tag v) as (λ (c : Bool). length (cond c (in_right a b right) (in_left a b left)) ≡ bits (sum a b)) [
      | true ↦ length_in_right a b right (plain_length b (right_of a b v))
      | false ↦ length_in_left a b left (plain_length a (left_of a b v))
    ]
plain_length (prod a b) v =
    length_pair a b (plain a (first_of a v)) (plain b (second_of a v)) (plain_length a (first_of a v)) (plain_length b (second_of a v))

pub compact_plain : (t : Ty) (v : List Bool) → compact t (plain t v) ≡ compact t v
unfolding compact plain
compact_plain unit v = refl
compact_plain (sum a b) v =
    let right = right_of a b v in
    let left = left_of a b v in
    elim (tag v)
    as (λ (c : Bool). compact (sum a b) (cond c (in_right a b (plain b right)) (in_left a b (plain a left)))
    ≡ cond c (true ∷ compact b right) (false ∷ compact a left)) [
      | true ↦ compact_in_right a b (plain b right) ∙ ap (λ (u : List Bool). true ∷ u) (compact_plain b right)
      | false ↦ compact_in_left a b (plain a left) ∙ ap (λ (u : List Bool). false ∷ u) (compact_plain a left)
    ]
compact_plain (prod a b) v =
    compact_pair a b (plain a (first_of a v)) (plain b (second_of a v)) (plain_length a (first_of a v))
    ∙ ap₂ ◌++◌ (compact_plain a (first_of a v)) (compact_plain b (second_of a v))

pub plain_plain : (t : Ty) (v : List Bool) → plain t (plain t v) ≡ plain t v
unfolding plain
plain_plain unit v = refl
plain_plain (sum a b) v =
    let right = plain b (right_of a b v) in
    let left = plain a (left_of a b v) in
    elim (tag v)
    as (λ (c : Bool). plain (sum a b) (cond c (in_right a b right) (in_left a b left)) ≡ cond c (in_right a b right) (in_left a b left)) [
      | true ↦ plain_in_right a b right ∙ ap (in_right a b) (plain_plain b (right_of a b v))
      | false ↦ plain_in_left a b left ∙ ap (in_left a b) (plain_plain a (left_of a b v))
    ]
plain_plain (prod a b) v =
    plain_pair a b (plain a (first_of a v)) (plain b (second_of a v)) (plain_length a (first_of a v))
    ∙ ap₂ ◌++◌ (plain_plain a (first_of a v)) (plain_plain b (second_of a v))
