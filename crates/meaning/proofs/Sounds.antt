-- What a sound table says of each of its nodes.
--
--   sound_right                 the entries up to a node are right
--   sound_tree                  its tree is made of its sides' trees
--   sound_kind                  its kind is 0, 1 or 2
--   sound_left sound_right_side     its sides are in the table
--   sound_left_falls sound_right_falls      those of a sum and a product stand earlier
--   sound_width sound_size sound_digit sound_padded sound_class sound_least     its facts are those of its tree
-- Assumes nothing.
use Prim.Native.Nat.{ℕ, zero, suc, ◌≤◌, ◌<◌}
use mathlib.Core.Path.{◌≡◌, refl, ap, ◌∙◌}
use mathlib.Core.Bool.{Bool, true, false, false≢true}
use native.Mathlib.Omega.{arith}
use lib.Dec.{eqb}
use lib.ListN.{get_or}
use borrow.Author.Tests.{eqb-true}
use Rattle.meaning.specs.Types.{width, size, padded, least_length}
use Rattle.meaning.specs.Tables.{Table, kind, left, right, node, ty_at, class_of, digit, sides_right, entry_right}
use Rattle.meaning.specs.Checked.{Sound}
use Rattle.meaning.proofs.Tests.{and_left, and_right}
use Rattle.meaning.proofs.Trees.{RightTo, ty_node, sides_below}
use Rattle.meaning.proofs.GroupLaws.{Holds, right_holds}

-- Whichever kind a node has, its sides are below any count above it.
sides_in : (k n l r m : ℕ) → n < m → sides_right k n l r ≡ true → (l < m) × (r < m)
sides_in zero n l r m h e =
    let p = eqb-true l 0 (and_left (eqb l 0) (eqb r 0) e) in
    let q = eqb-true r 0 (and_right (eqb l 0) (eqb r 0) e) in
    (omega arith, omega arith)
sides_in (suc k) n l r m h e = let s = sides_below k n l r e in (omega arith, omega arith)

kind_low : (k n l r : ℕ) → sides_right k n l r ≡ true → k ≤ 2
kind_low zero n l r e = omega arith
kind_low (suc zero) n l r e = omega arith
kind_low (suc (suc zero)) n l r e = omega arith
kind_low (suc (suc (suc k))) n l r e = absurd (false≢true e)

sides_fall : (k n l r : ℕ) → sides_right k n l r ≡ true → 1 ≤ k → (l < n) × (r < n)
sides_fall zero n l r e h = absurd (not_one h)
  where
    not_one : 1 ≤ zero → ⊥
    not_one g = omega arith
sides_fall (suc k) n l r e h = sides_below k n l r e

digit_padded : (b : Bool) → eqb (digit b) 1 ≡ b
digit_padded true = refl
digit_padded false = refl

module _ (t : Table) (s : Sound t) (n : ℕ) (h : n < t.count) where
  pub sound_right : RightTo t.columns n
  sound_right = record { right-at = λ k l. s.entries k (omega arith) }

  pub sound_tree : ty_at t.columns n ≡ node (kind t.columns n) (ty_at t.columns (left t.columns n)) (ty_at t.columns (right t.columns n))
  sound_tree = ty_node t.columns n sound_right

  entry : sides_right (kind t.columns n) n (left t.columns n) (right t.columns n) ≡ true
  unfolding entry_right
  entry = s.entries n h

  pub sound_kind : kind t.columns n ≤ 2
  sound_kind = kind_low (kind t.columns n) n (left t.columns n) (right t.columns n) entry

  pub sound_left : left t.columns n < t.count
  sound_left = (sides_in (kind t.columns n) n (left t.columns n) (right t.columns n) t.count h entry).0

  pub sound_right_side : right t.columns n < t.count
  sound_right_side = (sides_in (kind t.columns n) n (left t.columns n) (right t.columns n) t.count h entry).1

  pub sound_left_falls : 1 ≤ kind t.columns n → left t.columns n < n
  sound_left_falls k = (sides_fall (kind t.columns n) n (left t.columns n) (right t.columns n) entry k).0

  pub sound_right_falls : 1 ≤ kind t.columns n → right t.columns n < n
  sound_right_falls k = (sides_fall (kind t.columns n) n (left t.columns n) (right t.columns n) entry k).1

  -- The five facts.
  held : Holds t.facts n (width (ty_at t.columns n)) (size (ty_at t.columns n)) (digit (padded (ty_at t.columns n))) (class_of t.columns n) (least_length (ty_at t.columns n))
  held = right_holds t.columns t.facts n (s.told n h)

  pub sound_width : get_or t.facts.widths n 0 ≡ width (ty_at t.columns n)
  sound_width = held.width_held

  pub sound_size : get_or t.facts.sizes n 0 ≡ size (ty_at t.columns n)
  sound_size = held.size_held

  pub sound_digit : get_or t.facts.paddeds n 0 ≡ digit (padded (ty_at t.columns n))
  sound_digit = held.padded_held

  pub sound_padded : eqb (get_or t.facts.paddeds n 0) 1 ≡ padded (ty_at t.columns n)
  sound_padded = ap (λ (x : ℕ). eqb x 1) sound_digit ∙ digit_padded (padded (ty_at t.columns n))

  pub sound_class : get_or t.facts.classes n 0 ≡ class_of t.columns n
  sound_class = held.class_held

  pub sound_least : get_or t.facts.leasts n 0 ≡ least_length (ty_at t.columns n)
  sound_least = held.least_held
