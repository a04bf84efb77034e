-- The class of a node by its key: its kind, and the classes of its sides.
--
--   first_unit                  node 0 is a unit
--   unit_tree unit_class        a unit's tree is unit, and its class is 0
--   old_class                   an earlier node of its own class with the key of a node is that node's class
--   new_class                   where there is none, the node is of its own class
-- Assumes nothing.
use Prim.Native.Nat.{ℕ, zero, suc, ◌≤◌, ◌<◌}
use mathlib.Core.Path.{◌≡◌, refl, ap, sym, ◌∙◌}
use mathlib.Core.Bool.{true, true≢false, false≢true}
use mathlib.Core.Logic.{⊎_elim}
use native.Mathlib.Nat.{not-suc-le-zero, eq-or-lt_of_le}
use native.Mathlib.Omega.{arith}
use Rattle.meaning.specs.Types.{Ty, unit, is_sum, is_prod, left_side, right_side}
use Rattle.meaning.specs.Tables.{Columns, kind, left, right, node, ty_at, class_of, sides_right, entry_right}
use Rattle.meaning.proofs.Trees.{RightTo, right_below, sides_below, ty_node, class_le, class_tree, class_class, class_trees, tree_class}
use Rattle.facts_classes.specs.Chains.{Keyed}

-- Node 0 has no earlier nodes for sides.
no_sides : (k l r : ℕ) → sides_right k 0 l r ≡ true → k ≡ 0
no_sides zero l r h = refl
no_sides (suc k) l r h = absurd (not-suc-le-zero (sides_below k 0 l r h).0)

pub first_unit : (c : Columns) → entry_right c 0 ≡ true → kind c 0 ≡ 0
unfolding entry_right
first_unit c h = no_sides (kind c 0) (left c 0) (right c 0) h

pub unit_tree : (c : Columns) (n : ℕ) → RightTo c n → kind c n ≡ 0 → ty_at c n ≡ unit
unit_tree c n r e = ty_node c n r ∙ ap (λ (k : ℕ). node k (ty_at c (left c n)) (ty_at c (right c n))) e

pub unit_class : (c : Columns) (n : ℕ) → RightTo c n → kind c n ≡ 0 → class_of c n ≡ 0
unit_class c n r e =
    let z : RightTo c 0 = right_below c n 0 (omega arith) r in
    let f = unit_tree c 0 z (first_unit c (z.right-at 0 (omega arith))) in
    let s = tree_class c n 0 (unit_tree c n r e ∙ sym f) in
    let b = class_le c 0 in
    omega arith

-- No right entry has another kind.
kind_low : (k n l r : ℕ) → sides_right k n l r ≡ true → k < 3
kind_low zero n l r h = omega arith
kind_low (suc zero) n l r h = omega arith
kind_low (suc (suc zero)) n l r h = omega arith
kind_low (suc (suc (suc k))) n l r h = absurd (false≢true h)

pub kind_below : (c : Columns) (n : ℕ) → entry_right c n ≡ true → kind c n < 3
unfolding entry_right
kind_below c n h = kind_low (kind c n) n (left c n) (right c n) h

-- A tree tells its kind and its sides.
same_node : (k j : ℕ) (a b a' b' : Ty) → k < 3 → suc j < 3 → node k a b ≡ node (suc j) a' b' → (k ≡ suc j) × (a ≡ a') × (b ≡ b')
same_node zero zero a b a' b' h g e = absurd (false≢true (ap is_sum e))
same_node zero (suc j) a b a' b' h g e = absurd (false≢true (ap is_prod e))
same_node (suc zero) zero a b a' b' h g e = (refl, ap left_side e, ap right_side e)
same_node (suc zero) (suc j) a b a' b' h g e = absurd (true≢false (ap is_sum e))
same_node (suc (suc k)) zero a b a' b' h g e = absurd (false≢true (ap is_sum e))
same_node (suc (suc k)) (suc j) a b a' b' h g e = (omega arith, ap left_side e, ap right_side e)

-- Nodes with one key have one tree.
keyed_tree : (c : Columns) (n m : ℕ) → RightTo c n → m < n → Keyed c (kind c n) (class_of c (left c n)) (class_of c (right c n)) m → ty_at c m ≡ ty_at c n
keyed_tree c n m r h k =
    let p = ty_node c n r in
    let q = ty_node c m (right_below c n m (omega arith) r) in
    let s = class_trees c (left c m) (left c n) k.same_left in
    let t = class_trees c (right c m) (right c n) k.same_right in
    let e = k.same_kind in
    q ∙ ap (λ (j : ℕ). node j (ty_at c (left c m)) (ty_at c (right c m))) e
    ∙ ap (λ (x : Ty). node (kind c n) x (ty_at c (right c m))) s
    ∙ ap (λ (x : Ty). node (kind c n) (ty_at c (left c n)) x) t
    ∙ sym p

pub old_class : (c : Columns) (n m : ℕ) → RightTo c n → m < n → Keyed c (kind c n) (class_of c (left c n)) (class_of c (right c n)) m → class_of c n ≡ m
old_class c n m r h k = sym (tree_class c m n (keyed_tree c n m r h k)) ∙ k.own

-- The class of a sum or a product has its key.
class_keyed : (c : Columns) (n j : ℕ) → RightTo c n → kind c n ≡ suc j → Keyed c (kind c n) (class_of c (left c n)) (class_of c (right c n)) (class_of c n)
class_keyed c n j r e =
    let m = class_of c n in
    let l : m ≤ n = class_le c n in
    let rm = right_below c n m l r in
    let low = kind_below c n (r.right-at n (omega arith)) in
    let sides = same_node (kind c m) j (ty_at c (left c m)) (ty_at c (right c m)) (ty_at c (left c n)) (ty_at c (right c n))
    (kind_below c m (rm.right-at m (omega arith))) (omega arith)
    (sym (ty_node c m rm) ∙ class_tree c n ∙ ty_node c n r ∙ ap (λ (k : ℕ). node k (ty_at c (left c n)) (ty_at c (right c n))) e)
    in
    record {
      own = class_class c n;
      same_kind = sides.0 ∙ sym e;
      same_left = tree_class c (left c m) (left c n) sides.1;
      same_right = tree_class c (right c m) (right c n) sides.2;
    }

pub new_class : (c : Columns) (n j : ℕ) → RightTo c n → kind c n ≡ suc j
    → ((m : ℕ) → m < n → Keyed c (kind c n) (class_of c (left c n)) (class_of c (right c n)) m → m ≤ 0)
    → class_of c n ≡ n
new_class c n j r e none = ⊎_elim (λ (s : class_of c n ≡ n). s) (λ h. absurd (earlier h)) (eq-or-lt_of_le (class_le c n))
  where
    earlier : class_of c n < n → ⊥
    earlier h =
        let k = class_keyed c n j r e in
        let z : class_of c n ≡ 0 = let b = none (class_of c n) h k in omega arith in
        let u : kind c 0 ≡ 0 = first_unit c (r.right-at 0 (omega arith)) in
        let s : kind c (class_of c n) ≡ kind c 0 = ap (kind c) z in
        let t = k.same_kind in
        omega arith
