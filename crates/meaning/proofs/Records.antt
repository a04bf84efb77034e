-- Laws of records: lengths, and what padded means below the end of the numbers.
--
--   length_left length_right length_first length_second     payloads and parts are records of their types
--   length_in_left length_in_right length_pair              so are the records made of them
--   compact_most                a record has at most as many compact bits as its type is wide
--   Unpadded                    two types without padding, below the end
--   unpadded_sum unpadded_prod  what an unpadded type is made of, below the end
--   no_bits                     a list of no bits is empty
--   bits_unit bits_sum bits_prod        the true width of unit, of a sum and of a product
--   unpadded_compact            a record of an unpadded type is its own compact bits
--   same_bits bits_same         equality of bits
-- Assumes nothing.
use Prim.Native.Nat.{ℕ, zero, suc, ◌+◌, ◌≤◌, ◌<◌, max}
use mathlib.Core.Path.{◌≡◌, refl, ap, ap₂, sym, ◌∙◌}
use mathlib.Core.Bool.{Bool, true, false, not, cond, ◌||◌, beq, false≢true}
use mathlib.Core.List.{List, [], ◌∷◌, ◌++◌}
use native.Mathlib.Omega.{arith}
use lib.Dec.{eqb}
use lib.ListN.{length, drop, length-take, length-drop, length-append, length-replicate, take-append-drop}
use borrow.Author.Tests.{eqb-true, not-false}
use Rattle.meaning.specs.Types.{Ty, unit, sum, prod, bits, width, padded, top}
use Rattle.meaning.specs.Records.{tag, pad_left, pad_right, left_of, right_of, first_of, second_of, in_left, in_right, compact, same_bits}
use Rattle.meaning.proofs.Tests.{and_left, and_right, and_both, or_false_left, or_false_right}
use Rattle.meaning.proofs.Types.{width_bits}

pub length_left : (a b : Ty) (v : List Bool) → length v ≡ bits (sum a b) → length (left_of a b v) ≡ bits a
unfolding bits
length_left a b v h = simp length-drop (omega arith)

pub length_right : (a b : Ty) (v : List Bool) → length v ≡ bits (sum a b) → length (right_of a b v) ≡ bits b
unfolding bits
length_right a b v h = simp length-drop (omega arith)

pub length_first : (a b : Ty) (v : List Bool) → length v ≡ bits (prod a b) → length (first_of a v) ≡ bits a
unfolding bits
length_first a b v h = simp length-take (omega arith)

pub length_second : (a b : Ty) (v : List Bool) → length v ≡ bits (prod a b) → length (second_of a v) ≡ bits b
unfolding bits
length_second a b v h = simp length-drop (omega arith)

pub length_in_left : (a b : Ty) (p : List Bool) → length p ≡ bits a → length (in_left a b p) ≡ bits (sum a b)
unfolding bits
length_in_left a b p h = simp (length-append, length-replicate) (omega arith)

pub length_in_right : (a b : Ty) (p : List Bool) → length p ≡ bits b → length (in_right a b p) ≡ bits (sum a b)
unfolding bits
length_in_right a b p h = simp (length-append, length-replicate) (omega arith)

pub length_pair : (a b : Ty) (v w : List Bool) → length v ≡ bits a → length w ≡ bits b → length (v ++ w) ≡ bits (prod a b)
unfolding bits
length_pair a b v w h g = simp length-append (omega arith)

sum_most : (a b : Ty) (t : Bool) (x y : List Bool) → length x ≤ bits a → length y ≤ bits b → length (cond t (true ∷ y) (false ∷ x)) ≤ bits (sum a b)
unfolding bits
sum_most a b true x y h g = omega arith
sum_most a b false x y h g = omega arith

pub compact_most : (t : Ty) (v : List Bool) → length (compact t v) ≤ bits t
unfolding compact bits
compact_most unit v = omega arith
compact_most (sum a b) v =
    sum_most a b (tag v) (compact a (left_of a b v)) (compact b (right_of a b v)) (compact_most a (left_of a b v))
    (compact_most b (right_of a b v))
compact_most (prod a b) v =
    let x = compact_most a (first_of a v) in
    let y = compact_most b (second_of a v) in
    simp length-append (omega arith)

-- The sides of an unpadded sum are unpadded and, below the end, of one true width.
pub record Unpadded (a b : Ty) : Type 0 where
  pub left_plain : padded a ≡ false
  pub right_plain : padded b ≡ false
  pub left_low : width a < top
  pub right_low : width b < top

pub unpadded_sum : (a b : Ty) → padded (sum a b) ≡ false → width (sum a b) < top → Unpadded a b × (bits a ≡ bits b)
unfolding padded width
unpadded_sum a b h l =
    let front = or_false_left (padded a || padded b) (not (eqb (width a) (width b))) h in
    let e = eqb-true (width a) (width b) (not-false (eqb (width a) (width b)) (or_false_right (padded a || padded b) (not (eqb (width a) (width b))) h)) in
    let p = width_bits a in
    let q = width_bits b in (
      record {
        left_plain = or_false_left (padded a) (padded b) front;
        right_plain = or_false_right (padded a) (padded b) front;
        left_low = omega arith;
        right_low = omega arith;
      },
      omega arith,
    )

pub unpadded_prod : (a b : Ty) → padded (prod a b) ≡ false → width (prod a b) < top → Unpadded a b
unfolding padded width
unpadded_prod a b h l =
    record {
      left_plain = or_false_left (padded a) (padded b) h;
      right_plain = or_false_right (padded a) (padded b) h;
      left_low = omega arith;
      right_low = omega arith;
    }

-- A list of one bit or more is its first bit and the rest.
head_rest : (v : List Bool) (n : ℕ) → length v ≡ suc n → v ≡ tag v ∷ drop 1 v
head_rest [] n h = absurd (nothing h)
  where
    nothing : zero ≡ suc n → ⊥
    nothing e = omega arith
head_rest (b ∷ v) n h = refl

no_padding : (a b : Ty) → bits a ≡ bits b → 1 + pad_left a b ≡ 1
no_padding a b e = omega arith

no_padding_right : (a b : Ty) → bits a ≡ bits b → 1 + pad_right a b ≡ 1
no_padding_right a b e = omega arith

-- The record of a sum with sides of one width is its tag and its payload.
unpadded_tag : (a b : Ty) (t : Bool) (v x y : List Bool) → tag v ≡ t → v ≡ tag v ∷ drop 1 v → x ≡ drop 1 v → y ≡ drop 1 v → cond t (true ∷ y) (false ∷ x) ≡ v
unpadded_tag a b true v x y e h p q = ap (λ (z : List Bool). true ∷ z) q ∙ ap (λ (z : Bool). z ∷ drop 1 v) (sym e) ∙ sym h
unpadded_tag a b false v x y e h p q = ap (λ (z : List Bool). false ∷ z) p ∙ ap (λ (z : Bool). z ∷ drop 1 v) (sym e) ∙ sym h

-- A list of no bits is empty.
pub no_bits : (v : List Bool) → length v ≡ 0 → v ≡ []
no_bits [] e = refl
no_bits (b ∷ v) e = absurd (more (length v) e)
  where
    more : (n : ℕ) → suc n ≡ 0 → ⊥
    more n d = omega arith

pub bits_unit : bits unit ≡ 0
unfolding bits
bits_unit = refl

pub bits_sum : (a b : Ty) → bits (sum a b) ≡ suc (max (bits a) (bits b))
unfolding bits
bits_sum a b = omega arith

pub bits_prod : (a b : Ty) → bits (prod a b) ≡ bits a + bits b
unfolding bits
bits_prod a b = refl

pub unpadded_compact : (t : Ty) (v : List Bool) → padded t ≡ false → width t < top → length v ≡ bits t → compact t v ≡ v
unfolding compact
unpadded_compact unit v h l g = sym (no_bits v (g ∙ bits_unit))
unpadded_compact (sum a b) v h l g =
    let u = unpadded_sum a b h l in
    let e = u.1 in
    unpadded_tag a b (tag v) v (compact a (left_of a b v)) (compact b (right_of a b v)) refl
    (head_rest v (max (bits a) (bits b)) (g ∙ bits_sum a b))
    (unpadded_compact a (left_of a b v) u.0.left_plain u.0.left_low (length_left a b v g)
    ∙ ap (λ (n : ℕ). drop n v) (no_padding a b e))
    (unpadded_compact b (right_of a b v) u.0.right_plain u.0.right_low (length_right a b v g)
    ∙ ap (λ (n : ℕ). drop n v) (no_padding_right a b e))
unpadded_compact (prod a b) v h l g =
    let u = unpadded_prod a b h l in
    ap₂ ◌++◌ (unpadded_compact a (first_of a v) u.left_plain u.left_low (length_first a b v g))
    (unpadded_compact b (second_of a v) u.right_plain u.right_low (length_second a b v g))
    ∙ take-append-drop (bits a) v

bit_same : (b c : Bool) → beq b c ≡ true → b ≡ c
bit_same true true h = refl
bit_same true false h = absurd (false≢true h)
bit_same false true h = absurd (false≢true h)
bit_same false false h = refl

pub same_bits_lem : (v w : List Bool) → same_bits v w ≡ true → v ≡ w
unfolding same_bits
same_bits_lem [] [] h = refl
same_bits_lem [] (c ∷ w) h = absurd (false≢true h)
same_bits_lem (b ∷ v) [] h = absurd (false≢true h)
same_bits_lem (b ∷ v) (c ∷ w) h =
    ap₂ ◌∷◌ (bit_same b c (and_left (beq b c) (same_bits v w) h)) (same_bits_lem v w (and_right (beq b c) (same_bits v w) h))

beq_refl : (b : Bool) → beq b b ≡ true
beq_refl true = refl
beq_refl false = refl

pub bits_same : (v : List Bool) → same_bits v v ≡ true
unfolding same_bits
bits_same [] = refl
bits_same (b ∷ v) = and_both (beq b b) (same_bits v v) (beq_refl b) (bits_same v)
