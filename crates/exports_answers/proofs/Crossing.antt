-- How an answer crosses to C, from its two cases, and from the result that stands for it to the definition that it equals.
--
--   refused_near refused_value refused_values       a refusal: its place, and what is stored of it, which is nothing
--   accepted_values                                 values that go to lent entries
--   near_of code_of stored_of roomy_of all_of       its place, its code, the lent number, and lent entries with their room
--   crossing                                        the last five, for `search`
-- Assumes nothing.
use Prim.Native.Nat.{ℕ, ◌+◌, ◌*◌, ◌<◌}
use mathlib.Core.Path.{◌≡◌, refl, ap, sym, subst, ◌∙◌}
use mathlib.Core.Bool.{Bool, true, false, cond}
use mathlib.Core.List.{List, ◌++◌}
use lib.ListN.{length, drop}
use lib.Dec.{ltb}
use Rattle.std.specs.Prelude.{Result, Ok, Err}
use Rattle.meaning.specs.Ladder.{Answer, refused, accepted}
use Rattle.answers.specs.declared.Refusal.{Refusal}
use Rattle.answers.specs.Verdicts.{answer_of}
use Rattle.exports_answers.specs.Codes.{code, stored_as, roomy, stored_all, Near, place}

pub refused_near : {A : Type 0} (a : Answer A) (n p : ℕ) → a ≡ refused n p → Near a → p < 8192
refused_near a n p e h = (subst Near e h).near

pub refused_value : {A : Type 0} (f : A → ℕ) (a : Answer A) (n p r v : ℕ) → a ≡ refused n p → r ≡ n + 256 * p
    → (r ≡ code a) × (v ≡ stored_as f a v)
refused_value f a n p r v e h = (h ∙ sym (ap code e), sym (ap (λ x. stored_as f x v) e))

pub refused_values : {A : Type 0} (f : A → List ℕ) (a : Answer A) (n p r : ℕ) (l : List ℕ) → a ≡ refused n p → r ≡ n + 256 * p
    → (r ≡ code (roomy f l a)) × (l ≡ stored_all f (roomy f l a) l)
refused_values f a n p r l e h = (h ∙ sym (ap (λ x. code (roomy f l x)) e), sym (ap (λ x. stored_all f (roomy f l x) l) e))

pub accepted_values : {A : Type 0} (f : A → List ℕ) (a : Answer A) (v : A) (r : ℕ) (l m : List ℕ) → a ≡ accepted v
    → r ≡ cond (ltb (length l) (length (f v))) 9 0 → m ≡ cond (ltb (length l) (length (f v))) l (f v ++ drop (length (f v)) l)
    → (r ≡ code (roomy f l a)) × (m ≡ stored_all f (roomy f l a) l)
accepted_values f a v r l m e h k =
    let b = ltb (length l) (length (f v)) in (
      h ∙ code_at b ∙ sym (ap (λ x. code (roomy f l x)) e),
      k ∙ all_at b ∙ sym (ap (λ x. stored_all f (roomy f l x) l) e),
    )
  where
    code_at : (b : Bool) → cond b 9 0 ≡ code (cond b (refused 9 0) (accepted v))
    code_at true = refl
    code_at false = refl

    all_at : (b : Bool) → cond b l (f v ++ drop (length (f v)) l) ≡ stored_all f (cond b (refused 9 0) (accepted v)) l
    all_at true = refl
    all_at false = refl

-- A result of T, by what its value means.
module _ {T A : Type 0} (f : T → A) where
  same_place : (r : Result T Refusal) → place (answer_of (λ x. x) r) ≡ place (answer_of f r)
  same_place (Ok x) = refl
  same_place (Err e) = refl

  same_code : (r : Result T Refusal) → code (answer_of (λ x. x) r) ≡ code (answer_of f r)
  same_code (Ok x) = refl
  same_code (Err e) = refl

  same_stored : (g : A → ℕ) (r : Result T Refusal) (w : ℕ) → stored_as (λ x. g (f x)) (answer_of (λ x. x) r) w ≡ stored_as g (answer_of f r) w
  same_stored g (Ok x) w = refl
  same_stored g (Err e) w = refl

  module _ (g : A → List ℕ) (l : List ℕ) where
    same_roomy : (r : Result T Refusal) → code (roomy (λ x. g (f x)) l (answer_of (λ x. x) r)) ≡ code (roomy g l (answer_of f r))
    same_roomy (Ok x) = by_test (ltb (length l) (length (g (f x))))
      where
        by_test : (b : Bool) → code (cond b (refused 9 0) (accepted x)) ≡ code (cond b (refused 9 0) (accepted (f x)))
        by_test true = refl
        by_test false = refl
    same_roomy (Err e) = refl

    same_all : (r : Result T Refusal)
        → stored_all (λ x. g (f x)) (roomy (λ x. g (f x)) l (answer_of (λ x. x) r)) l ≡ stored_all g (roomy g l (answer_of f r)) l
    same_all (Ok x) = by_test (ltb (length l) (length (g (f x))))
      where
        by_test : (b : Bool)
            → stored_all (λ y. g (f y)) (cond b (refused 9 0) (accepted x)) l ≡ stored_all g (cond b (refused 9 0) (accepted (f x))) l
        by_test true = refl
        by_test false = refl
    same_all (Err e) = refl

  module _ (r : Result T Refusal) (b : Answer A) (e : answer_of f r ≡ b) where
    pub near_of : Near b → Near (answer_of (λ x. x) r)
    near_of n = record { near = subst (λ (p : ℕ). p < 8192) (ap place (sym e) ∙ sym (same_place r)) n.near }

    pub code_of : (c : ℕ) → c ≡ code (answer_of (λ x. x) r) → c ≡ code b
    code_of c h = h ∙ same_code r ∙ ap code e

    pub stored_of : (g : A → ℕ) (v w : ℕ) → v ≡ stored_as (λ x. g (f x)) (answer_of (λ x. x) r) w → v ≡ stored_as g b w
    stored_of g v w h = h ∙ same_stored g r w ∙ ap (λ x. stored_as g x w) e

    pub roomy_of : (g : A → List ℕ) (l : List ℕ) (c : ℕ) → c ≡ code (roomy (λ x. g (f x)) l (answer_of (λ x. x) r)) → c ≡ code (roomy g l b)
    roomy_of g l c h = h ∙ same_roomy g l r ∙ ap (λ x. code (roomy g l x)) e

    pub all_of : (g : A → List ℕ) (l m : List ℕ) → m ≡ stored_all (λ x. g (f x)) (roomy (λ x. g (f x)) l (answer_of (λ x. x) r)) l
        → m ≡ stored_all g (roomy g l b) l
    all_of g l m h = h ∙ same_all g l r ∙ ap (λ x. stored_all g (roomy g l x) l) e

pub ruleset crossing = (near_of, code_of, stored_of, roomy_of, all_of)
