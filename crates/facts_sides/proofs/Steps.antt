-- The facts of a node by the facts of its sides are those of its tree.
--
--   width-by size-by padded-by least_by     of a tree made of two sides
--   width-at size-at padded-at least_at     of a node of a table whose entries are right up to it
-- Assumes nothing.
use Prim.Native.Nat.{ℕ, zero, suc, max, min}
use mathlib.Core.Path.{◌≡◌, refl, ap, sym, ◌∙◌}
use mathlib.Core.Bool.{Bool, true, false, not, cond, ◌||◌}
use lib.Dec.{eqb}
use native.Mathlib.Omega.{arith}
use borrow.Author.Tests.{ne_eqb}
use Rattle.meaning.specs.Types.{Ty, stop, width, size, padded, least_length}
use Rattle.meaning.specs.Tables.{Columns, kind, left, right, node, ty_at, digit}
use Rattle.meaning.proofs.Tests.{cond_false}
use Rattle.meaning.proofs.Trees.{RightTo, ty_node}
use Rattle.facts_sides.specs.Sides.{width_by, size_by, padded_by, least_by}

-- A kind above 1 is no sum.
no_sum : (k : ℕ) → eqb (suc (suc k)) 1 ≡ false
no_sum k = ne_eqb (suc (suc k)) 1 (λ e. omega arith)

width-by : (k : ℕ) (a b : Ty) → width (node (suc k) a b) ≡ width_by (suc k) (width a) (width b)
unfolding width
width-by zero a b = refl
width-by (suc k) a b = sym (cond_false (eqb (suc (suc k)) 1) (stop 1 (max (width a) (width b))) (stop (width a) (width b)) (no_sum k))

size-by : (k : ℕ) (a b : Ty) → size (node (suc k) a b) ≡ size_by (size a) (size b)
unfolding size
size-by zero a b = refl
size-by (suc k) a b = refl

-- The digit of a sum's padding, by the digits of its sides'.
sum_digit : (p q e : Bool) → digit (p || q || not e) ≡ cond (eqb (digit p) 0) (cond (eqb (digit q) 0) (cond e 0 1) 1) 1
sum_digit true q e = refl
sum_digit false true e = refl
sum_digit false false true = refl
sum_digit false false false = refl

-- The digit of a product's padding.
prod_digit : (p q s : Bool) (x : ℕ) → s ≡ false → digit (p || q) ≡ cond (eqb (digit p) 0) (cond (eqb (digit q) 0) (cond s x 0) 1) 1
prod_digit true q s x h = refl
prod_digit false true s x h = refl
prod_digit false false s x h = sym (cond_false s x 0 h)

padded-by : (k : ℕ) (a b : Ty) → digit (padded (node (suc k) a b)) ≡ padded_by (suc k) (digit (padded a)) (digit (padded b)) (width a) (width b)
unfolding padded
padded-by zero a b = sum_digit (padded a) (padded b) (eqb (width a) (width b))
padded-by (suc k) a b = prod_digit (padded a) (padded b) (eqb (suc (suc k)) 1) (cond (eqb (width a) (width b)) 0 1) (no_sum k)

least_by_lem : (k : ℕ) (a b : Ty) → least_length (node (suc k) a b) ≡ least_by (suc k) (least_length a) (least_length b)
unfolding least_length
least_by_lem zero a b = refl
least_by_lem (suc k) a b =
    sym (cond_false (eqb (suc (suc k)) 1) (stop 1 (min (least_length a) (least_length b))) (stop (least_length a) (least_length b)) (no_sum k))

-- At a sum or a product of a table: its kind is one more than some k.
module _ (c : Columns) (n k : ℕ) (r : RightTo c n) (e : kind c n ≡ suc k) where
  tree : ty_at c n ≡ node (suc k) (ty_at c (left c n)) (ty_at c (right c n))
  tree = ty_node c n r ∙ ap (λ (j : ℕ). node j (ty_at c (left c n)) (ty_at c (right c n))) e

  pub width-at : width (ty_at c n) ≡ width_by (kind c n) (width (ty_at c (left c n))) (width (ty_at c (right c n)))
  width-at = rw (tree, e) (width-by k (ty_at c (left c n)) (ty_at c (right c n)))

  pub size-at : size (ty_at c n) ≡ size_by (size (ty_at c (left c n))) (size (ty_at c (right c n)))
  size-at = ap size tree ∙ size-by k (ty_at c (left c n)) (ty_at c (right c n))

  pub padded-at : digit (padded (ty_at c n))
      ≡ padded_by (kind c n) (digit (padded (ty_at c (left c n)))) (digit (padded (ty_at c (right c n)))) (width (ty_at c (left c n))) (width (ty_at c (right c n)))
  padded-at = rw (tree, e) (padded-by k (ty_at c (left c n)) (ty_at c (right c n)))

  pub least_at : least_length (ty_at c n) ≡ least_by (kind c n) (least_length (ty_at c (left c n))) (least_length (ty_at c (right c n)))
  least_at = rw (tree, e) (least_by_lem k (ty_at c (left c n)) (ty_at c (right c n)))
