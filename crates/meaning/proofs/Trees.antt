-- The tree law of sound tables, and what classes say.
--
--   RightTo right_below         the entries up to a node are right; so they are up to an earlier one
--   ty_node                     a node's tree is made of its sides' trees
--   sides_below                 the sides of a sum or a product stand earlier
--   class_le class_tree         a class is at most its node, and has the same tree
--   class_least                 no earlier node has the same tree
--   class_unique                a node with these properties is the class
--   tree_class class_trees      equal class exactly if equal tree
--   class_class                 a class is its own class
-- Assumes nothing.
use Prim.Native.Nat.{ℕ, zero, suc, ◌≤◌, ◌<◌}
use mathlib.Core.Path.{◌≡◌, refl, ap, ap₂, sym, ◌∙◌}
use mathlib.Core.Bool.{Bool, true, false, false≢true, true≢false}
use mathlib.Core.Logic.{⊎_elim}
use native.Mathlib.Nat.{not-suc-le-zero, eq-or-lt_of_le}
use native.Mathlib.Omega.{arith}
use lib.Dec.{ltb}
use borrow.Author.Tests.{ltb-true}
use Rattle.meaning.specs.Types.{Ty, sum, prod, same}
use Rattle.meaning.specs.Tables.{Columns, kind, left, right, node, ty_to, ty_at, class_of, sides_right, entry_right}
use Rattle.meaning.proofs.Tests.{and_left, and_right}
use Rattle.meaning.proofs.Choices.{least_le, least_passes, least_before, least_unique}
use Rattle.meaning.proofs.Types.{same_eq, eq_same}

-- The entries up to a node, itself included, are right.
pub record RightTo (c : Columns) (n : ℕ) : Type 0 where
  pub right-at : (k : ℕ) → k ≤ n → entry_right c k ≡ true

-- What is right up to a node is right up to an earlier one.
pub right_below : (c : Columns) (n m : ℕ) → m ≤ n → RightTo c n → RightTo c m
right_below c n m h r = record { right-at = λ k l. r.right-at k (omega arith) }

-- Where a node has sides, both stand earlier.
pub sides_below : (k n l r : ℕ) → sides_right (suc k) n l r ≡ true → (l < n) × (r < n)
sides_below zero n l r h = (ltb-true l n (and_left (ltb l n) (ltb r n) h), ltb-true r n (and_right (ltb l n) (ltb r n) h))
sides_below (suc zero) n l r h = (ltb-true l n (and_left (ltb l n) (ltb r n) h), ltb-true r n (and_right (ltb l n) (ltb r n) h))
sides_below (suc (suc k)) n l r h = absurd (false≢true h)

-- Two ways to follow the sides give one tree where they agree on the earlier nodes.
node_agrees : (k n l r : ℕ) (a b a' b' : Ty) → sides_right k n l r ≡ true → (l < n → a ≡ a') → (r < n → b ≡ b') → node k a b ≡ node k a' b'
node_agrees zero n l r a b a' b' h f g = refl
node_agrees (suc zero) n l r a b a' b' h f g =
    let s = sides_below zero n l r h in ap₂ sum (f s.0) (g s.1)
node_agrees (suc (suc k)) n l r a b a' b' h f g =
    let s = sides_below (suc k) n l r h in ap₂ prod (f s.0) (g s.1)

-- Any depth beyond the node's number gives the same tree.
depth : (d e : ℕ) (c : Columns) (n : ℕ) → n < d → n < e → RightTo c n → ty_to d c n ≡ ty_to e c n
unfolding ty_to entry_right
depth zero e c n h g r = absurd (not-suc-le-zero h)
depth (suc d) zero c n h g r = absurd (not-suc-le-zero g)
depth (suc d) (suc e) c n h g r =
    node_agrees (kind c n) n (left c n) (right c n) (ty_to d c (left c n)) (ty_to d c (right c n)) (ty_to e c (left c n)) (ty_to e c (right c n))
    (r.right-at n (omega arith))
    (λ l. depth d e c (left c n) (omega arith) (omega arith) (right_below c n (left c n) (omega arith) r))
    (λ l. depth d e c (right c n) (omega arith) (omega arith) (right_below c n (right c n) (omega arith) r))

pub ty_node : (c : Columns) (n : ℕ) → RightTo c n → ty_at c n ≡ node (kind c n) (ty_at c (left c n)) (ty_at c (right c n))
unfolding ty_at ty_to entry_right
ty_node c n r =
    node_agrees (kind c n) n (left c n) (right c n) (ty_to n c (left c n)) (ty_to n c (right c n)) (ty_at c (left c n)) (ty_at c (right c n))
    (r.right-at n (omega arith))
    (λ l. depth n (suc (left c n)) c (left c n) l (omega arith) (right_below c n (left c n) (omega arith) r))
    (λ l. depth n (suc (right c n)) c (right c n) l (omega arith) (right_below c n (right c n) (omega arith) r))

pub class_le : (c : Columns) (n : ℕ) → class_of c n ≤ n
unfolding class_of
class_le c n = least_le (λ m. same (ty_at c m) (ty_at c n)) n

pub class_tree : (c : Columns) (n : ℕ) → ty_at c (class_of c n) ≡ ty_at c n
unfolding class_of
class_tree c n =
    ⊎_elim (λ e. ap (ty_at c) e)
    (λ h. same_eq (ty_at c (class_of c n)) (ty_at c n) (least_passes (λ m. same (ty_at c m) (ty_at c n)) n h))
    (eq-or-lt_of_le (least_le (λ m. same (ty_at c m) (ty_at c n)) n))

pub class_least : (c : Columns) (n m : ℕ) → m < class_of c n → ty_at c m ≡ ty_at c n → ⊥
unfolding class_of
class_least c n m h e =
    true≢false (sym (eq_same (ty_at c m) (ty_at c n) e) ∙ least_before (λ k. same (ty_at c k) (ty_at c n)) n m h)

pub class_unique : (c : Columns) (n m : ℕ) → m ≤ n → ty_at c m ≡ ty_at c n → ((k : ℕ) → k < m → ty_at c k ≡ ty_at c n → ⊥) → class_of c n ≡ m
unfolding class_of
class_unique c n m h e before =
    least_unique (λ k. same (ty_at c k) (ty_at c n)) n m h
    (λ k l. other (same (ty_at c k) (ty_at c n)) (λ s. before k l (same_eq (ty_at c k) (ty_at c n) s)))
    (λ l. eq_same (ty_at c m) (ty_at c n) e)
  where
    other : (b : Bool) → (b ≡ true → ⊥) → b ≡ false
    other true f = absurd (f refl)
    other false f = refl

pub class_trees : (c : Columns) (m n : ℕ) → class_of c m ≡ class_of c n → ty_at c m ≡ ty_at c n
class_trees c m n e = sym (class_tree c m) ∙ ap (ty_at c) e ∙ class_tree c n

-- The class of a node is not above that of a node with the same tree.
class_below : (c : Columns) (m n : ℕ) → ty_at c m ≡ ty_at c n → class_of c n < class_of c m → ⊥
class_below c m n e h = class_least c m (class_of c n) h (class_tree c n ∙ sym e)

pub tree_class : (c : Columns) (m n : ℕ) → ty_at c m ≡ ty_at c n → class_of c m ≡ class_of c n
tree_class c m n e =
    let f : class_of c n < class_of c m → ⊥ = class_below c m n e in
    let g : class_of c m < class_of c n → ⊥ = class_below c n m (sym e) in
    omega arith

pub class_class : (c : Columns) (n : ℕ) → class_of c (class_of c n) ≡ class_of c n
class_class c n = tree_class c (class_of c n) n (class_tree c n)
