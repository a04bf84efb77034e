-- The two sides of a sum, named by their tag, so that a law of left and right records is said once; and the parts of a product.
--
--   side within wrapped             the side of a tag, its payload, and the record made of its payload with zero padding
--   length_within length_wrapped    they have their widths
--   plain_tag plain_wrapped         zero padding of a sum whose tag is known, and of a record that was made of its payload
--   plain_within plain_first plain_second       payload and parts of a record with zero padding have zero padding
-- Assumes nothing.
use mathlib.Core.Path.{◌≡◌, ap, sym, ◌∙◌}
use mathlib.Core.Bool.{Bool, true, false}
use mathlib.Core.List.{List}
use lib.ListN.{length, take, drop}
use lib.Seq.{take_at, drop_at}
use Rattle.meaning.specs.Types.{Ty, sum, prod, bits}
use Rattle.meaning.specs.Records.{tag, left_of, right_of, first_of, second_of, in_left, in_right, plain}
use Rattle.meaning.proofs.Records.{length_left, length_right, length_in_left, length_in_right}
use Rattle.laws.proofs.RecordParts.{left_of_in_left, right_of_in_right, plain_in_left, plain_in_right}
use Rattle.laws.proofs.RecordPlain.{plain_length}

-- The side that a tag names.
abbrev pub side : Bool → Ty → Ty → Ty
side true a b = b
side false a b = a

-- The payload of a record with this tag.
abbrev pub within : Bool → Ty → Ty → List Bool → List Bool
within true a b v = right_of a b v
within false a b v = left_of a b v

-- The record with this tag and payload, new padding zero.
abbrev pub wrapped : Bool → Ty → Ty → List Bool → List Bool
wrapped true a b p = in_right a b p
wrapped false a b p = in_left a b p

within_wrapped : (g : Bool) (a b : Ty) (p : List Bool) → within g a b (wrapped g a b p) ≡ p
within_wrapped true a b p = right_of_in_right a b p
within_wrapped false a b p = left_of_in_left a b p

pub length_within : (g : Bool) (a b : Ty) (v : List Bool) → length v ≡ bits (sum a b) → length (within g a b v) ≡ bits (side g a b)
length_within true a b v h = length_right a b v h
length_within false a b v h = length_left a b v h

pub length_wrapped : (g : Bool) (a b : Ty) (p : List Bool) → length p ≡ bits (side g a b) → length (wrapped g a b p) ≡ bits (sum a b)
length_wrapped true a b p h = length_in_right a b p h
length_wrapped false a b p h = length_in_left a b p h

plain_tag : (g : Bool) (a b : Ty) (v : List Bool) → tag v ≡ g → plain (sum a b) v ≡ wrapped g a b (plain (side g a b) (within g a b v))
unfolding plain
plain_tag true a b v e = rw e
plain_tag false a b v e = rw e

pub plain_wrapped : (g : Bool) (a b : Ty) (p : List Bool) → plain (sum a b) (wrapped g a b p) ≡ wrapped g a b (plain (side g a b) p)
plain_wrapped true a b p = plain_in_right a b p
plain_wrapped false a b p = plain_in_left a b p

pub plain_within : (g : Bool) (a b : Ty) (v : List Bool) → tag v ≡ g → plain (sum a b) v ≡ v →
    plain (side g a b) (within g a b v) ≡ within g a b v
plain_within g a b v e z =
    sym (within_wrapped g a b (plain (side g a b) (within g a b v))) ∙ ap (within g a b) (sym (plain_tag g a b v e) ∙ z)

pub plain_first : (a b : Ty) (v : List Bool) → plain (prod a b) v ≡ v → plain a (first_of a v) ≡ first_of a v
unfolding plain
plain_first a b v z =
    sym (take_at (plain a (first_of a v)) (plain b (second_of a v)) (bits a) (plain_length a (first_of a v))) ∙ ap (take (bits a)) z

pub plain_second : (a b : Ty) (v : List Bool) → plain (prod a b) v ≡ v → plain b (second_of a v) ≡ second_of a v
unfolding plain
plain_second a b v z =
    sym (drop_at (plain a (first_of a v)) (plain b (second_of a v)) (bits a) (plain_length a (first_of a v))) ∙ ap (drop (bits a)) z
