-- When a ladder refuses and when it accepts, as laws over any list of rungs: document 01, "If several apply, the smallest number is answered.
-- Each is given exactly when its fact holds."
--
--   First Clear                 the first rung that holds has this number and place; no rung holds
--   ladder_refuses              a ladder refuses with a number and a place exactly if its first rung that holds has them
--   ladder_accepts              it accepts exactly if none holds
--   Holds first_holds           some rung with this number and place holds; the first that holds is one
--   rising ordered              the numbers never fall, from n on; from the beginning
--   NoneBelow                   every rung that holds has this number or a larger one
--   smallest_answered           where they never fall, a number is answered exactly if a rung with it holds and none with a smaller one does
--   FirstOf smallest_placed     the first of the rungs with this number that holds; where they never fall, the place answered is exactly its place
--   without without_both        no rung has this number; of two lists, neither has a rung that has it
--   without_unanswered          a ladder answers no number that none of its rungs has
--   answered_alone              a number that one rung alone has is answered exactly if the rungs before it pass and its fact holds
-- Assumes nothing.
use Prim.Native.Nat.{ℕ, ◌≤◌}
use mathlib.Core.Path.{◌≡◌, refl, ap, sym, ◌∙◌, subst}
use mathlib.Core.Logic.{◌↔◌}
use mathlib.Core.Bool.{Bool, true, false, not, ◌&&◌, true≢false, false≢true}
use mathlib.Core.List.{List, [], ◌∷◌, ◌++◌}
use native.Mathlib.Omega.{arith}
use native.Mathlib.Nat.{le_of_eq}
use lib.Dec.{eqb, leb}
use borrow.Author.Tests.{leb-true, eq-eqb}
use Rattle.meaning.specs.Ladder.{refused, accepted, Rung, rung, ladder}
use Rattle.meaning.proofs.Tests.{and_left, and_right, and_both}
use Rattle.meaning.proofs.Ladders.{accepted_refused, number_of, place_of, ladder_pass, ladder_holds}

-- First rs n p: a rung of rs with the number n and the place p holds, and none before it does.
pub data First : List Rung → ℕ → ℕ → Type 0 where
  at_once : {n p : ℕ} {rs : List Rung} → First (rung true n p ∷ rs) n p
  after : {m q n p : ℕ} {rs : List Rung} → First rs n p → First (rung false m q ∷ rs) n p

-- Clear rs: no rung of rs holds.
pub data Clear : List Rung → Type 0 where
  at_end : Clear []
  past : {m q : ℕ} {rs : List Rung} → Clear rs → Clear (rung false m q ∷ rs)

first_answered : {A : Type 0} {rs : List Rung} {n p : ℕ} (a : A) → First rs n p → ladder rs a ≡ refused n p
unfolding ladder
first_answered a at_once = refl
first_answered a (after f) = first_answered a f

answered_first : {A : Type 0} (rs : List Rung) (a : A) (n p : ℕ) → ladder rs a ≡ refused n p → First rs n p
unfolding ladder
answered_first [] a n p h = absurd (accepted_refused a n p h)
answered_first (rung true m q ∷ rs) a n p h =
    subst (λ k. First (rung true m q ∷ rs) k p) (ap number_of h) (subst (λ k. First (rung true m q ∷ rs) m k) (ap place_of h) at_once)
answered_first (rung false m q ∷ rs) a n p h = after (answered_first rs a n p h)

pub ladder_refuses : {A : Type 0} (rs : List Rung) (a : A) (n p : ℕ) → (ladder rs a ≡ refused n p) ↔ First rs n p
ladder_refuses rs a n p = (answered_first rs a n p, first_answered a)

clear_accepted : {A : Type 0} {rs : List Rung} (a : A) → Clear rs → ladder rs a ≡ accepted a
unfolding ladder
clear_accepted a at_end = refl
clear_accepted a (past c) = clear_accepted a c

accepted_clear : {A : Type 0} (rs : List Rung) (a : A) → ladder rs a ≡ accepted a → Clear rs
unfolding ladder
accepted_clear [] a h = at_end
accepted_clear (rung true m q ∷ rs) a h = absurd (accepted_refused a m q (sym h))
accepted_clear (rung false m q ∷ rs) a h = past (accepted_clear rs a h)

pub ladder_accepts : {A : Type 0} (rs : List Rung) (a : A) → (ladder rs a ≡ accepted a) ↔ Clear rs
ladder_accepts rs a = (accepted_clear rs a, clear_accepted a)

-- Holds rs n p: a rung of rs with the number n and the place p holds, whatever stands before it.
pub data Holds : List Rung → ℕ → ℕ → Type 0 where
  this : {n p : ℕ} {rs : List Rung} → Holds (rung true n p ∷ rs) n p
  other : {r : Rung} {n p : ℕ} {rs : List Rung} → Holds rs n p → Holds (r ∷ rs) n p

pub first_holds : {rs : List Rung} {n p : ℕ} → First rs n p → Holds rs n p
first_holds at_once = this
first_holds (after f) = other (first_holds f)

-- The numbers never fall, and none is below n.
abbrev pub rising : ℕ → List Rung → Bool
rising n [] = true
rising n (rung b m p ∷ rs) = leb n m && rising m rs

-- The numbers never fall.
abbrev pub ordered : List Rung → Bool
ordered rs = rising 0 rs

-- Of rungs whose numbers never fall from k on, none that holds has a number below k.
rising_below : {rs : List Rung} {m q : ℕ} (k : ℕ) → rising k rs ≡ true → Holds rs m q → k ≤ m
rising_below k h (this {n} {rs = rs}) = leb-true k n (and_left (leb k n) (rising n rs) h)
rising_below k h (other {r = rung b n p} {rs = rs} g) =
    let l : k ≤ n = leb-true k n (and_left (leb k n) (rising n rs) h) in
    let m = rising_below n (and_right (leb k n) (rising n rs) h) g in
    omega (arith, l, m)

first_smallest : {rs : List Rung} {n p m q : ℕ} (k : ℕ) → rising k rs ≡ true → First rs n p → Holds rs m q → n ≤ m
first_smallest k h (at_once {n}) this = le_of_eq refl
first_smallest k h (at_once {n} {rs = rs}) (other g) = rising_below n (and_right (leb k n) (rising n rs) h) g
first_smallest k h (after {m} {rs = rs} f) (other g) = first_smallest m (and_right (leb k m) (rising m rs) h) f g

-- Every rung that holds has the number n or a larger one.
abbrev pub NoneBelow : List Rung → ℕ → Type 0
NoneBelow rs n = (m q : ℕ) → Holds rs m q → n ≤ m

smallest_first : {rs : List Rung} {n p : ℕ} (k : ℕ) → rising k rs ≡ true → Holds rs n p → NoneBelow rs n → (q : ℕ) × First rs n q
smallest_first k h (this {p = p}) least = (p, at_once)
smallest_first {n = n} k h (other {r = rung true m q} {rs = rs} g) least =
    let l = rising_below m (and_right (leb k m) (rising m rs) h) g in
    let u = least m q this in
    let e : m ≡ n = omega (arith, l, u) in
    (q, subst (λ x. First (rung true m q ∷ rs) x q) e at_once)
smallest_first k h (other {r = rung false m q} {rs = rs} g) least =
    let f = smallest_first m (and_right (leb k m) (rising m rs) h) g (λ x y z. least x y (other z)) in
    (f.0, after f.1)

pub smallest_answered : {A : Type 0} (rs : List Rung) (a : A) (n : ℕ) → ordered rs ≡ true
    → ((p : ℕ) × (ladder rs a ≡ refused n p)) ↔ (((p : ℕ) × Holds rs n p) × NoneBelow rs n)
smallest_answered rs a n o = (
  λ e.
      let f = answered_first rs a n e.0 e.1 in
      ((e.0, first_holds f), λ m q g. first_smallest 0 o f g),
  λ s.
      let f = smallest_first 0 o s.0.1 s.1 in
      (f.0, first_answered a f.1),
)

-- FirstOf rs n p: a rung of rs with the number n and the place p holds, and none with that number does before it.
pub data FirstOf : List Rung → ℕ → ℕ → Type 0 where
  found : {n p : ℕ} {rs : List Rung} → FirstOf (rung true n p ∷ rs) n p
  later : {b : Bool} {m q n p : ℕ} {rs : List Rung} → (b ≡ true → m ≡ n → ⊥) → FirstOf rs n p → FirstOf (rung b m q ∷ rs) n p

first_of : {rs : List Rung} {n p : ℕ} → First rs n p → FirstOf rs n p
first_of at_once = found
first_of (after f) = later (λ e. absurd (false≢true e)) (first_of f)

first_of_holds : {rs : List Rung} {n p : ℕ} → FirstOf rs n p → Holds rs n p
first_of_holds found = this
first_of_holds (later c f) = other (first_of_holds f)

placed_first : {rs : List Rung} {n p : ℕ} (k : ℕ) → rising k rs ≡ true → FirstOf rs n p → NoneBelow rs n → First rs n p
placed_first k h found least = at_once
placed_first {n = n} k h (later {b = true} {m} {q} {rs = rs} c f) least =
    let l = rising_below m (and_right (leb k m) (rising m rs) h) (first_of_holds f) in
    let u = least m q this in
    let e : m ≡ n = omega (arith, l, u) in
    absurd (c refl e)
placed_first k h (later {b = false} {m} {rs = rs} c f) least =
    after (placed_first m (and_right (leb k m) (rising m rs) h) f (λ x y z. least x y (other z)))

pub smallest_placed : {A : Type 0} (rs : List Rung) (a : A) (n p : ℕ) → ordered rs ≡ true
    → (ladder rs a ≡ refused n p) ↔ (FirstOf rs n p × NoneBelow rs n)
smallest_placed rs a n p o = (
  λ e.
      let f = answered_first rs a n p e in
      (first_of f, λ m q g. first_smallest 0 o f g),
  λ s. first_answered a (placed_first 0 o s.0 s.1),
)

-- No rung has the number n.
abbrev pub without : ℕ → List Rung → Bool
without n [] = true
without n (rung b m p ∷ rs) = not (eqb m n) && without n rs

pub without_both : (n : ℕ) (rs ss : List Rung) → without n rs ≡ true → without n ss ≡ true → without n (rs ++ ss) ≡ true
without_both n [] ss h k = k
without_both n (rung b m p ∷ rs) ss h k =
    and_both (not (eqb m n)) (without n (rs ++ ss)) (and_left (not (eqb m n)) (without n rs) h)
    (without_both n rs ss (and_right (not (eqb m n)) (without n rs) h) k)

-- No rung of those without a number is the first that holds with it.
without_first : {rs : List Rung} {n p : ℕ} → without n rs ≡ true → First rs n p → ⊥
without_first {n = n} h (at_once {rs = rs}) = true≢false (sym (and_left (not (eqb n n)) (without n rs) h) ∙ ap not (eq-eqb n n refl))
without_first {n = n} h (after {m} {rs = rs} f) = without_first (and_right (not (eqb m n)) (without n rs) h) f

pub without_unanswered : {A : Type 0} (rs : List Rung) (a : A) (n p : ℕ) → without n rs ≡ true → ladder rs a ≡ refused n p → ⊥
without_unanswered rs a n p h e = without_first h (answered_first rs a n p e)

alone_held : {A : Type 0} (rs : List Rung) (b : Bool) (n p : ℕ) (ss : List Rung) (a : A) → without n rs ≡ true → without n ss ≡ true
    → ladder (rs ++ (rung b n p ∷ ss)) a ≡ refused n p → (ladder rs (tt {0}) ≡ accepted (tt {0})) × (b ≡ true)
unfolding ladder
alone_held [] true n p ss a h k e = (refl, refl)
alone_held [] false n p ss a h k e = absurd (without_unanswered ss a n p k e)
alone_held (rung true m q ∷ rs) b n p ss a h k e = absurd (without_unanswered (rung true m q ∷ rs) a n p h e)
alone_held (rung false m q ∷ rs) b n p ss a h k e = alone_held rs b n p ss a (and_right (not (eqb m n)) (without n rs) h) k e

pub answered_alone : {A : Type 0} (rs : List Rung) (b : Bool) (n p : ℕ) (ss : List Rung) (a : A) → without n rs ≡ true → without n ss ≡ true
    → (ladder (rs ++ (rung b n p ∷ ss)) a ≡ refused n p) ↔ ((ladder rs (tt {0}) ≡ accepted (tt {0})) × (b ≡ true))
answered_alone rs b n p ss a h k = (
  alone_held rs b n p ss a h k,
  λ f. ladder_pass rs (rung b n p ∷ ss) (tt {0}) (tt {0}) a f.0 ∙ ladder_holds b n p ss a f.1,
)
