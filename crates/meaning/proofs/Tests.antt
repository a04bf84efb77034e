-- Laws of joined tests.
--
--   and_left and_right and_both     both tests of a conjunction
--   and_no_left and_no_right        a conjunction whose first test fails; whose second does
--   or_false_left or_false_right or_none    a disjunction that fails
--   or_inl or_inr                   a disjunction that passes
--   cond_true cond_false            a choice whose test is known
-- Assumes nothing.
use mathlib.Core.Path.{◌≡◌, refl}
use mathlib.Core.Bool.{Bool, true, false, cond, ◌&&◌, ◌||◌, true≢false, false≢true}

pub and_left : (a b : Bool) → (a && b) ≡ true → a ≡ true
and_left true b h = refl
and_left false b h = h

pub and_right : (a b : Bool) → (a && b) ≡ true → b ≡ true
and_right true b h = h
and_right false b h = absurd (false≢true h)

pub and_both : (a b : Bool) → a ≡ true → b ≡ true → (a && b) ≡ true
and_both a b p q = rw (p, q)

pub and_no_left : (a b : Bool) → a ≡ false → (a && b) ≡ false
and_no_left a b h = rw h

pub and_no_right : (a b : Bool) → b ≡ false → (a && b) ≡ false
and_no_right true b h = h
and_no_right false b h = refl

pub or_false_left : (a b : Bool) → (a || b) ≡ false → a ≡ false
or_false_left true b h = h
or_false_left false b h = refl

pub or_false_right : (a b : Bool) → (a || b) ≡ false → b ≡ false
or_false_right true b h = absurd (true≢false h)
or_false_right false b h = h

pub or_none : (a b : Bool) → a ≡ false → b ≡ false → (a || b) ≡ false
or_none a b p q = rw (p, q)

pub or_inl : (a b : Bool) → a ≡ true → (a || b) ≡ true
or_inl a b p = rw p

pub or_inr : (a b : Bool) → b ≡ true → (a || b) ≡ true
or_inr true b p = refl
or_inr false b p = p

pub cond_true : {A : Type 0} (b : Bool) (x y : A) → b ≡ true → cond b x y ≡ x
cond_true b x y h = rw h

pub cond_false : {A : Type 0} (b : Bool) (x y : A) → b ≡ false → cond b x y ≡ y
cond_false b x y h = rw h
