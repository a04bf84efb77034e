-- How records come apart that were put together.
--
--   left_of_in_left right_of_in_right   the payload of a record that was made of it
--   compact_in_left compact_in_right    its compact bits: the tag, then those of the payload
--   plain_in_left plain_in_right        zeroing its padding zeroes the payload's
--   compact_pair plain_pair             compact bits and zero padding of a product: first part, then second
-- Assumes nothing.
use mathlib.Core.Path.{◌≡◌, ap, ap₂, ◌∙◌}
use mathlib.Core.Bool.{Bool, true, false}
use mathlib.Core.List.{List, ◌∷◌, ◌++◌}
use Prim.Native.Nat.{ℕ, ◌+◌}
use native.Mathlib.Numerals.{one-add}
use lib.ListN.{length, drop, length-replicate}
use lib.Seq.{take_at, drop_at}
use Rattle.meaning.specs.Types.{Ty, sum, prod, bits}
use Rattle.meaning.specs.Bits.{zeros}
use Rattle.meaning.specs.Records.{pad_left, pad_right, left_of, right_of, in_left, in_right, compact, plain}

-- What stands after a tag and so many zero bits.
drop_padding : (n : ℕ) (b : Bool) (p : List Bool) → drop (1 + n) (b ∷ (zeros n ++ p)) ≡ p
drop_padding n b p = ap (λ (k : ℕ). drop k (b ∷ (zeros n ++ p))) (one-add n) ∙ drop_at (zeros n) p n (length-replicate n false)

pub left_of_in_left : (a b : Ty) (p : List Bool) → left_of a b (in_left a b p) ≡ p
left_of_in_left a b p = drop_padding (pad_left a b) false p

pub right_of_in_right : (a b : Ty) (p : List Bool) → right_of a b (in_right a b p) ≡ p
right_of_in_right a b p = drop_padding (pad_right a b) true p

pub compact_in_left : (a b : Ty) (p : List Bool) → compact (sum a b) (in_left a b p) ≡ false ∷ compact a p
unfolding compact
compact_in_left a b p = ap (λ (v : List Bool). false ∷ compact a v) (left_of_in_left a b p)

pub compact_in_right : (a b : Ty) (p : List Bool) → compact (sum a b) (in_right a b p) ≡ true ∷ compact b p
unfolding compact
compact_in_right a b p = ap (λ (v : List Bool). true ∷ compact b v) (right_of_in_right a b p)

pub plain_in_left : (a b : Ty) (p : List Bool) → plain (sum a b) (in_left a b p) ≡ in_left a b (plain a p)
unfolding plain
plain_in_left a b p = ap (λ (v : List Bool). in_left a b (plain a v)) (left_of_in_left a b p)

pub plain_in_right : (a b : Ty) (p : List Bool) → plain (sum a b) (in_right a b p) ≡ in_right a b (plain b p)
unfolding plain
plain_in_right a b p = ap (λ (v : List Bool). in_right a b (plain b v)) (right_of_in_right a b p)

pub compact_pair : (a b : Ty) (p q : List Bool) → length p ≡ bits a → compact (prod a b) (p ++ q) ≡ compact a p ++ compact b q
unfolding compact
compact_pair a b p q h = ap₂ (λ (v w : List Bool). compact a v ++ compact b w) (take_at p q (bits a) h) (drop_at p q (bits a) h)

pub plain_pair : (a b : Ty) (p q : List Bool) → length p ≡ bits a → plain (prod a b) (p ++ q) ≡ plain a p ++ plain b q
unfolding plain
plain_pair a b p q h = ap₂ (λ (v w : List Bool). plain a v ++ plain b w) (take_at p q (bits a) h) (drop_at p q (bits a) h)
