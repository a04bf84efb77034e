-- Equality of records is an equivalence.
--
--   equal_is                    what it answers of two held records
--   Same                        two records have the same type and the same bits
--   equal_means same_equal      a yes means this; and of two held records of which it is so, the answer is yes
--   equal_reflexive equal_symmetric equal_transitive
-- Assumes nothing.
use mathlib.Core.Path.{◌≡◌, refl, sym, ap, ap₂, ◌∙◌, subst}
use mathlib.Core.Bool.{Bool, true, false, ◌&&◌}
use mathlib.Core.List.{List, [], ◌∷◌}
use Rattle.meaning.specs.Types.{Ty, same}
use Rattle.meaning.specs.Tables.{Table}
use Rattle.meaning.specs.Records.{same_bits}
use Rattle.meaning.specs.Ladder.{accepted, ladder, Record, type_of, record_bits}
use Rattle.meaning.specs.RecordCalls.{handed, equal_call}
use Rattle.meaning.proofs.Tests.{and_left, and_right, and_both}
use Rattle.meaning.proofs.Types.{same_eq, eq_same}
use Rattle.meaning.proofs.Records.{same_bits_lem, bits_same}
use Rattle.checked.specs.Passed.{Held}
use Rattle.value_comparing.specs.Comparing.{alike_at}
use Rattle.value.proofs.Two.{two_pass, two_held, swapped}

-- Two tests that pass together are the same test.
same_test : (p q : Bool) → (p ≡ true → q ≡ true) → (q ≡ true → p ≡ true) → p ≡ q
same_test true q f g = sym (f refl)
same_test false true f g = g refl
same_test false false f g = refl

same_back : (x y : Ty) → same x y ≡ same y x
same_back x y =
    same_test (same x y) (same y x) (λ h. eq_same y x (sym (same_eq x y h))) (λ h. eq_same x y (sym (same_eq y x h)))

equal_bits : (v w : List Bool) → v ≡ w → same_bits v w ≡ true
equal_bits v w e = subst (λ (u : List Bool). same_bits v u ≡ true) e (bits_same v)

bits_back : (v w : List Bool) → same_bits v w ≡ same_bits w v
bits_back v w =
    same_test (same_bits v w) (same_bits w v) (λ h. equal_bits w v (sym (same_bits_lem v w h))) (λ h. equal_bits v w (sym (same_bits_lem w v h)))

module _ (t : Table) where
  -- Two records have the same type and the same bits.
  pub record Same (a b : Record) : Type 0 where
    pub types : type_of t a ≡ type_of t b
    pub bits_are : record_bits t a ≡ record_bits t b

  alike_same : (a b : Record) → alike_at t a b ≡ true → Same a b
  alike_same a b h =
      let x = same (type_of t a) (type_of t b) in
      let y = same_bits (record_bits t a) (record_bits t b) in
      record {
        types = same_eq (type_of t a) (type_of t b) (and_left x y h);
        bits_are = same_bits_lem (record_bits t a) (record_bits t b) (and_right x y h);
      }

  same_alike : (a b : Record) → Same a b → alike_at t a b ≡ true
  same_alike a b s =
      and_both (same (type_of t a) (type_of t b)) (same_bits (record_bits t a) (record_bits t b)) (eq_same (type_of t a) (type_of t b) s.types)
      (equal_bits (record_bits t a) (record_bits t b) s.bits_are)

  pub equal_is : (a b : Record) → Held t a → Held t b → equal_call t a b ≡ accepted (alike_at t a b)
  equal_is a b f g = two_pass t a b (alike_at t a b) f g

  pub equal_means : (a b : Record) → equal_call t a b ≡ accepted true → Same a b
  equal_means a b h = alike_same a b (two_held t a b (alike_at t a b) true h).2

  pub same_equal : (a b : Record) → Held t a → Held t b → Same a b → equal_call t a b ≡ accepted true
  same_equal a b f g s = equal_is a b f g ∙ ap accepted (same_alike a b s)

  pub equal_reflexive : (a : Record) → Held t a → equal_call t a a ≡ accepted true
  equal_reflexive a f = same_equal a a f f (record { types = refl; bits_are = refl })

  pub equal_symmetric : (a b : Record) → equal_call t a b ≡ equal_call t b a
  equal_symmetric a b =
      swapped t a b (alike_at t a b)
      ∙ ap (λ (x : Bool). ladder (handed t (b ∷ a ∷ []) []) x)
      (ap₂ ◌&&◌ (same_back (type_of t a) (type_of t b)) (bits_back (record_bits t a) (record_bits t b)))

  pub equal_transitive : (a b c : Record) → equal_call t a b ≡ accepted true → equal_call t b c ≡ accepted true → equal_call t a c ≡ accepted true
  equal_transitive a b c h k =
      let s = equal_means a b h in
      let r = equal_means b c k in
      same_equal a c (two_held t a b (alike_at t a b) true h).0 (two_held t b c (alike_at t b c) true k).1
      (record { types = s.types ∙ r.types; bits_are = s.bits_are ∙ r.bits_are })
