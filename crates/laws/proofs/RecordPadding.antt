-- What the fact `padded` says of the records of a type.
--
--   unpadded_compact (of meaning)   no padding, below the end of the numbers: a record is its own compact bits
--   unpadded_plain                  and it is as it would be with zero padding
--   padded_shorter                  padded: some record has fewer compact bits than the type is wide
--   padded_shorter_width            below the end that is the width of the facts
-- Assumes nothing.
use mathlib.Core.Path.{◌≡◌, refl, sym, ap, ◌∙◌}
use mathlib.Core.Logic.{◌⊎◌, inl, inr, ⊎_elim}
use mathlib.Core.Bool.{Bool, true, false, not, ◌||◌, false≢true}
use mathlib.Core.List.{List, ◌++◌}
use Prim.Native.Nat.{◌<◌, max}
use native.Mathlib.Omega.{arith}
use lib.Dec.{eqb, leb}
use lib.ListN.{length, length-append, length-replicate}
use borrow.Author.Tests.{eqb-false, not-true, leb-true, leb-false}
use Rattle.meaning.specs.Types.{Ty, unit, sum, prod, bits, width, padded, top}
use Rattle.meaning.specs.Bits.{zeros}
use Rattle.meaning.specs.Records.{in_left, in_right, compact, plain}
use Rattle.meaning.proofs.Choices.{either}
use Rattle.meaning.proofs.Types.{width_bits, bits_width}
use Rattle.meaning.proofs.Records.{length_in_left, length_in_right, length_pair, compact_most, unpadded_compact, bits_sum, bits_prod}
use Rattle.laws.proofs.RecordParts.{compact_in_left, compact_in_right, compact_pair}
use Rattle.laws.proofs.RecordPlain.{plain_length, compact_plain}

pub unpadded_plain : (t : Ty) (v : List Bool) → padded t ≡ false → width t < top → length v ≡ bits t → plain t v ≡ v
unpadded_plain t v h l g =
    sym (unpadded_compact t (plain t v) h l (plain_length t v)) ∙ compact_plain t v ∙ unpadded_compact t v h l g

-- A record with fewer compact bits than its type is wide.
abbrev pub Shorter : Ty → Type 0
Shorter t = (v : List Bool) × (length v ≡ bits t) × (length (compact t v) < bits t)

module _ (a b : Ty) (p : List Bool) where
  shorter_left : length p ≡ bits a → length (compact a p) < max (bits a) (bits b) → Shorter (sum a b)
  shorter_left h l = (in_left a b p, length_in_left a b p h, omega (arith, ap length (compact_in_left a b p), bits_sum a b))

  shorter_right : length p ≡ bits b → length (compact b p) < max (bits a) (bits b) → Shorter (sum a b)
  shorter_right h l = (in_right a b p, length_in_right a b p h, omega (arith, ap length (compact_in_right a b p), bits_sum a b))

shorter_pair : (a b : Ty) (p q : List Bool) → length p ≡ bits a → length q ≡ bits b → length (compact a p ++ compact b q) < bits (prod a b)
    → Shorter (prod a b)
shorter_pair a b p q h g l = (p ++ q, length_pair a b p q h g, omega (arith, ap length (compact_pair a b p q h)))

-- Sides whose 64-bit widths differ: the narrower one's records leave room.
uneven : (a b : Ty) → (width a ≡ width b → ⊥) → Shorter (sum a b)
uneven a b h =
    let p = width_bits a in
    let q = width_bits b in
    let x = compact_most a (zeros (bits a)) in
    let y = compact_most b (zeros (bits b)) in
    ⊎_elim
    (λ e. let l = leb-true (bits a) (bits b) e in shorter_left a b (zeros (bits a)) (length-replicate (bits a) false) (omega arith))
    (λ e. let l = leb-false (bits a) (bits b) e in shorter_right a b (zeros (bits b)) (length-replicate (bits b) false) (omega arith))
    (either (leb (bits a) (bits b)))

first_shorter : (a b : Ty) → Shorter a → Shorter (prod a b)
first_shorter a b s =
    let q = zeros (bits b) in
    shorter_pair a b s.0 q s.1 (length-replicate (bits b) false)
    (omega (arith, s.2, length-append (compact a s.0) (compact b q), compact_most b q, bits_prod a b))

second_shorter : (a b : Ty) → Shorter b → Shorter (prod a b)
second_shorter a b s =
    let p = zeros (bits a) in
    shorter_pair a b p s.0 (length-replicate (bits a) false) s.1
    (omega (arith, s.2, length-append (compact a p) (compact b s.0), compact_most a p, bits_prod a b))

or_cases : (x y : Bool) → (x || y) ≡ true → (x ≡ true) ⊎ (y ≡ true)
or_cases true y h = inl refl
or_cases false y h = inr h

pub padded_shorter : (t : Ty) → padded t ≡ true → Shorter t
unfolding padded
padded_shorter unit h = absurd (false≢true h)
padded_shorter (sum a b) h =
    ⊎_elim
    (λ sides.
    ⊎_elim
    (λ e. let s = padded_shorter a e in shorter_left a b s.0 s.1 (omega (arith, s.2)))
    (λ e. let s = padded_shorter b e in shorter_right a b s.0 s.1 (omega (arith, s.2)))
    (or_cases (padded a) (padded b) sides))
    (λ differ. uneven a b (eqb-false (width a) (width b) (not-true (eqb (width a) (width b)) differ)))
    (or_cases (padded a || padded b) (not (eqb (width a) (width b))) h)
padded_shorter (prod a b) h =
    ⊎_elim (λ e. first_shorter a b (padded_shorter a e)) (λ e. second_shorter a b (padded_shorter b e)) (or_cases (padded a) (padded b) h)

pub padded_shorter_width : (t : Ty) → padded t ≡ true → width t < top → (v : List Bool) × (length v ≡ bits t) × (length (compact t v) < width t)
padded_shorter_width t h l = let s = padded_shorter t h in (s.0, s.1, omega (arith, s.2, bits_width t l))
