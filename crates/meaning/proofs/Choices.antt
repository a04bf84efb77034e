-- Laws of the smallest number that passes a test, and of lists of which some member does.
--
--   least_le          it is at most the bound
--   least_passes      below the bound, it passes
--   least_before      whatever is smaller fails
--   least_unique      a number with these properties is it
--   least_none        where no number below the bound passes, it is the bound
--   either            a test passes or fails
--   In only           a member of a list; the one member of a list of one
--   any_none any_some     no member passes, so none does; a member passes, so some does
-- Assumes nothing.
use Prim.Native.Nat.{ℕ, zero, suc, ◌≤◌, ◌<◌, zero-le, suc-le-suc}
use mathlib.Core.Path.{◌≡◌, refl, ap, sym, ◌∙◌, subst}
use mathlib.Core.Bool.{Bool, true, false, cond}
use mathlib.Core.List.{List, [], ◌∷◌}
use mathlib.Core.Logic.{◌⊎◌, inl, inr}
use native.Mathlib.Nat.{le_of_suc-le-suc, not-suc-le-zero}
use native.Mathlib.Omega.{arith}
use Rattle.meaning.specs.Choice.{any, least}
use Rattle.meaning.proofs.Tests.{or_none, or_inl, or_inr}

pub either : (b : Bool) → (b ≡ true) ⊎ (b ≡ false)
either true = inl refl
either false = inr refl

step_le : (b : Bool) (m n : ℕ) → m ≤ n → cond b zero (suc m) ≤ suc n
step_le true m n h = zero-le
step_le false m n h = suc-le-suc h

pub least_le : (p : ℕ → Bool) (n : ℕ) → least p n ≤ n
unfolding least
least_le p zero = zero-le
least_le p (suc n) = step_le (p zero) (least (λ k. p (suc k)) n) n (least_le (λ k. p (suc k)) n)

step_passes : (p : ℕ → Bool) (b : Bool) (m n : ℕ) → p zero ≡ b → (m < n → p (suc m) ≡ true) → cond b zero (suc m) < suc n → p (cond b zero (suc m)) ≡ true
step_passes p true m n e f h = e
step_passes p false m n e f h = f (le_of_suc-le-suc h)

pub least_passes : (p : ℕ → Bool) (n : ℕ) → least p n < n → p (least p n) ≡ true
unfolding least
least_passes p zero h = absurd (not-suc-le-zero h)
least_passes p (suc n) h = step_passes p (p zero) (least (λ k. p (suc k)) n) n refl (least_passes (λ k. p (suc k)) n) h

step_before : (p : ℕ → Bool) (b : Bool) (m : ℕ) → p zero ≡ b → ((k : ℕ) → k < m → p (suc k) ≡ false) → (k : ℕ) → k < cond b zero (suc m) → p k ≡ false
step_before p true m e f k h = absurd (not-suc-le-zero h)
step_before p false m e f zero h = e
step_before p false m e f (suc k) h = f k (le_of_suc-le-suc h)

pub least_before : (p : ℕ → Bool) (n k : ℕ) → k < least p n → p k ≡ false
unfolding least
least_before p zero k h = absurd (not-suc-le-zero h)
least_before p (suc n) k h = step_before p (p zero) (least (λ j. p (suc j)) n) refl (least_before (λ j. p (suc j)) n) k h

pub least_unique : (p : ℕ → Bool) (n m : ℕ) → m ≤ n → ((k : ℕ) → k < m → p k ≡ false) → (m < n → p m ≡ true) → least p n ≡ m
unfolding least
least_unique p zero zero h before passes = refl
least_unique p zero (suc m) h before passes = absurd (not-suc-le-zero h)
least_unique p (suc n) zero h before passes = ap (λ (b : Bool). cond b zero (suc (least (λ k. p (suc k)) n))) (passes (suc-le-suc zero-le))
least_unique p (suc n) (suc m) h before passes =
    ap (λ (b : Bool). cond b zero (suc (least (λ k. p (suc k)) n))) (before zero (suc-le-suc zero-le))
    ∙ ap suc
    (least_unique (λ k. p (suc k)) n m (le_of_suc-le-suc h) (λ k l. before (suc k) (suc-le-suc l)) (λ l. passes (suc-le-suc l)))

pub least_none : (p : ℕ → Bool) (n : ℕ) → ((k : ℕ) → k < n → p k ≡ false) → least p n ≡ n
least_none p n none = least_unique p n n (omega arith) none (λ h. absurd (not_less h))
  where
    not_less : n < n → ⊥
    not_less h = omega arith

-- A member of a list.
abbrev pub In : {A : Type 0} → A → List A → Type 0
In x [] = ⊥
In x (y ∷ ys) = (x ≡ y) ⊎ In x ys

pub only : {A : Type 0} (P : A → Type 0) (y : A) → P y → (x : A) → In x (y ∷ []) → P x
only P y p x (inl e) = subst P (sym e) p
only P y p x (inr i) = absurd i

pub any_none : {A : Type 0} (p : A → Bool) (ys : List A) → ((x : A) → In x ys → p x ≡ false) → any p ys ≡ false
any_none p [] f = refl
any_none p (y ∷ ys) f = or_none (p y) (any p ys) (f y (inl refl)) (any_none p ys (λ x i. f x (inr i)))

pub any_some : {A : Type 0} (p : A → Bool) (ys : List A) (x : A) → In x ys → p x ≡ true → any p ys ≡ true
any_some p [] x i h = absurd i
any_some p (y ∷ ys) x (inl e) h = or_inl (p y) (any p ys) (ap p (sym e) ∙ h)
any_some p (y ∷ ys) x (inr i) h = or_inr (p y) (any p ys) (any_some p ys x i h)
