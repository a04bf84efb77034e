-- The test of an entry, by its kind.
--
--   sides_unit                  a unit has zeros
--   sides_node                  a sum and a product have earlier nodes
--   sides_other                 there is no other kind
--   left_within right_within    a side is at most its node
--   above_unit sides_earlier    what is no unit has earlier sides
--   bad_entry_here no_bad_entry the first wrong entry of a pass over the nodes: the first that it met; none
-- Assumes nothing.
use Prim.Native.Nat.{ℕ, zero, suc, ◌≤◌, ◌<◌}
use mathlib.Core.Path.{◌≡◌, refl, ap, sym, subst}
use mathlib.Core.Bool.{true, false, not, ◌&&◌}
use native.Mathlib.Omega.{arith}
use lib.Dec.{eqb, ltb}
use borrow.Author.Tests.{eqb-true}
use Rattle.meaning.specs.Tables.{Columns, kind, left, right, sides_right, entry_right, first_bad_entry}
use Rattle.meaning.proofs.Tests.{and_left, and_right}
use Rattle.meaning.proofs.Choices.{least_unique, least_none}
use Rattle.meaning.proofs.Trees.{sides_below}

pub sides_unit : (k n l r : ℕ) → k ≡ 0 → sides_right k n l r ≡ (eqb l 0 && eqb r 0)
sides_unit k n l r e = rw e

pub sides_node : (k n l r : ℕ) → (k ≡ 0 → ⊥) → k ≤ 2 → sides_right k n l r ≡ (ltb l n && ltb r n)
sides_node zero n l r ne h = absurd (ne refl)
sides_node (suc zero) n l r ne h = refl
sides_node (suc (suc zero)) n l r ne h = refl
sides_node (suc (suc (suc k))) n l r ne h = absurd (above h)
  where
    above : suc (suc (suc k)) ≤ 2 → ⊥
    above g = omega arith

pub sides_other : (k n l r : ℕ) → 2 < k → sides_right k n l r ≡ false
sides_other zero n l r h = absurd (low h)
  where
    low : 2 < 0 → ⊥
    low g = omega arith
sides_other (suc zero) n l r h = absurd (low h)
  where
    low : 2 < 1 → ⊥
    low g = omega arith
sides_other (suc (suc zero)) n l r h = absurd (low h)
  where
    low : 2 < 2 → ⊥
    low g = omega arith
sides_other (suc (suc (suc k))) n l r h = refl

-- The sides of a unit are 0, and those of any other node stand earlier.
pub sides_within : (k n l r : ℕ) → sides_right k n l r ≡ true → (l ≤ n) × (r ≤ n)
sides_within zero n l r h =
    let p = eqb-true l 0 (and_left (eqb l 0) (eqb r 0) h) in
    let q = eqb-true r 0 (and_right (eqb l 0) (eqb r 0) h) in
    (omega arith, omega arith)
sides_within (suc k) n l r h = let s = sides_below k n l r h in (omega arith, omega arith)

module _ (c : Columns) (n : ℕ) (h : entry_right c n ≡ true) where
  pub left_within : left c n ≤ n
  unfolding entry_right
  left_within = (sides_within (kind c n) n (left c n) (right c n) h).0

  pub right_within : right c n ≤ n
  unfolding entry_right
  right_within = (sides_within (kind c n) n (left c n) (right c n) h).1

-- A kind that is no unit's is one more than another.
pub above_unit : (k : ℕ) → (k ≡ 0 → ⊥) → (j : ℕ) × (k ≡ suc j)
above_unit zero ne = absurd (ne refl)
above_unit (suc j) ne = (j, refl)

pub sides_earlier : (c : Columns) (n : ℕ) → entry_right c n ≡ true → (kind c n ≡ 0 → ⊥) → (left c n < n) × (right c n < n)
unfolding entry_right
sides_earlier c n h ne =
    let j = above_unit (kind c n) ne in
    sides_below j.0 n (left c n) (right c n) (subst (λ (k : ℕ). sides_right k n (left c n) (right c n) ≡ true) j.1 h)

pub bad_entry_here : (c : Columns) (n m : ℕ) → m < n → ((k : ℕ) → k < m → entry_right c k ≡ true) → entry_right c m ≡ false → m ≡ first_bad_entry c n
unfolding first_bad_entry
bad_entry_here c n m h before bad =
    sym (least_unique (λ k. not (entry_right c k)) n m (omega arith) (λ k l. ap not (before k l)) (λ l. ap not bad))

pub no_bad_entry : (c : Columns) (n : ℕ) → ((k : ℕ) → k < n → entry_right c k ≡ true) → n ≡ first_bad_entry c n
unfolding first_bad_entry
no_bad_entry c n before = sym (least_none (λ k. not (entry_right c k)) n (λ k l. ap not (before k l)))
