-- Nodes that are written over columns mean what they meant: the entries that stand behind them do not matter.
--
--   kind_written left_written right_written entry_written
--                               an entry, and whether it is right
--   tree_written                the type of a node
--   class_written               its class
--   groups-written              the groups of all nodes
-- Each asks that the entries are right, which those of a file are (`Right.entries_right`). Assumes nothing.
use Prim.Native.Nat.{ℕ, zero, suc, ◌*◌, ◌≤◌, ◌<◌}
use mathlib.Core.Path.{◌≡◌, refl, ap, sym, ◌∙◌}
use mathlib.Core.Bool.{true}
use mathlib.Core.List.{List, ◌++◌, map}
use native.Mathlib.Omega.{arith}
use lib.Dec.{eqb}
use lib.ListN.{length, get_or, drop, length-map, get_or-append}
use borrow.Author.Tests.{eqb-true}
use Rattle.meaning.specs.Types.{width, size, padded, least_length}
use Rattle.meaning.specs.Groups.{group, group_size}
use Rattle.meaning.specs.Tables.{Columns, kind, left, right, node, ty_to, ty_at, class_of, digit, sides_right, entry_right}
use Rattle.meaning.specs.Files.{Entry, columns_of}
use Rattle.meaning.specs.TypeCalls.{group_of, groups_of, groups_written, entries_written}
use Rattle.meaning.proofs.Tests.{and_left, and_right}
use Rattle.meaning.proofs.Trees.{sides_below, class_le, class_tree, class_least, class_unique}

-- The sides of a right entry do not stand after their node.
sides_up_to : (k n l r : ℕ) → sides_right k n l r ≡ true → (l ≤ n) × (r ≤ n)
sides_up_to zero n l r h =
    let a = eqb-true l 0 (and_left (eqb l 0) (eqb r 0) h) in
    let b = eqb-true r 0 (and_right (eqb l 0) (eqb r 0) h) in
    (omega arith, omega arith)
sides_up_to (suc k) n l r h = let s = sides_below k n l r h in (omega arith, omega arith)

module _ (es : List Entry) (c : Columns) (right-at : (k : ℕ) → k < length es → entry_right (columns_of es) k ≡ true) where
  -- A column's entry, of a node that was written.
  at : (f : Entry → ℕ) (old : List ℕ) (k : ℕ) → k < length es → get_or (map f es ++ drop (length es) old) k 0 ≡ get_or (map f es) k 0
  at f old k h = get_or-append (map f es) (drop (length es) old) 0 k (rw length-map h)

  pub kind_written : (k : ℕ) → k < length es → kind (entries_written es c) k ≡ kind (columns_of es) k
  kind_written k h = at (λ e. e.kind) c.kinds k h

  pub left_written : (k : ℕ) → k < length es → left (entries_written es c) k ≡ left (columns_of es) k
  left_written k h = at (λ e. e.left) c.lefts k h

  pub right_written : (k : ℕ) → k < length es → right (entries_written es c) k ≡ right (columns_of es) k
  right_written k h = at (λ e. e.right) c.rights k h

  pub entry_written : (k : ℕ) → k < length es → entry_right (entries_written es c) k ≡ true
  unfolding entry_right
  entry_written k h = (λ i. sides_right (kind_written k h i) k (left_written k h i) (right_written k h i)) ∙ right-at k h

  -- Whatever depth the tree is followed to.
  to_depth : (d k : ℕ) → k < length es → ty_to d (entries_written es c) k ≡ ty_to d (columns_of es) k
  unfolding ty_to entry_right
  to_depth zero k h = refl
  to_depth (suc d) k h =
      let s = sides_up_to (kind (columns_of es) k) k (left (columns_of es) k) (right (columns_of es) k) (right-at k h) in
      (λ i. node (kind_written k h i) (ty_to d (entries_written es c) (left_written k h i)) (ty_to d (entries_written es c) (right_written k h i)))
      ∙ (λ i. node (kind (columns_of es) k) (to_depth d (left (columns_of es) k) (omega arith) i) (to_depth d (right (columns_of es) k) (omega arith) i))

  pub tree_written : (k : ℕ) → k < length es → ty_at (entries_written es c) k ≡ ty_at (columns_of es) k
  unfolding ty_at
  tree_written k h = to_depth (suc k) k h

  pub class_written : (k : ℕ) → k < length es → class_of (entries_written es c) k ≡ class_of (columns_of es) k
  class_written k h =
      let m = class_of (columns_of es) k in
      let le = class_le (columns_of es) k in
      class_unique (entries_written es c) k m le
      (tree_written m (omega arith) ∙ class_tree (columns_of es) k ∙ sym (tree_written k h))
      (λ j l e. class_least (columns_of es) k j l (sym (tree_written j (omega arith)) ∙ e ∙ tree_written k h))

  group_written : (k : ℕ) → k < length es → group_of (entries_written es c) k ≡ group_of (columns_of es) k
  unfolding group_of
  group_written k h =
      λ i. group (width (tree_written k h i)) (size (tree_written k h i)) (digit (padded (tree_written k h i))) (class_written k h i) (least_length (tree_written k h i))

  groups_to : (n : ℕ) → n ≤ length es → groups_of (entries_written es c) n ≡ groups_of (columns_of es) n
  unfolding groups_of
  groups_to zero l = refl
  groups_to (suc n) l = λ i. groups_to n (omega arith) i ++ group_written n (omega arith) i

  pub groups-written : (old : List ℕ) → groups_written (entries_written es c) (length es) old ≡ groups_written (columns_of es) (length es) old
  groups-written old = ap (λ s. s ++ drop (group_size * length es) old) (groups_to (length es) (omega arith))
