-- What is known of a node that was read from a sound table, by its kind, its class and the tag that names a side.
--
--   narrow_width                    the 64-bit width of a narrow type is its true one
--   unit_test no_unit no_sum no_prod        what it is or is not, by its kind
--   unit_tree sum_tree prod_tree    its tree, by its kind
--   padded_inner                    a node with padding is no unit
--   own_width low                   the width that was read is the true one, and lies below the end of the numbers
--   SideRead side_read              a side of a sum or a product, by its tag: within the limits, earlier, and as wide as was read
--   sum_total prod_total            how the widths that were read add up
--   same_class other_class class_test       two nodes have the same type exactly if their classes are equal
--   before_payload                  how far the payload of a sum lies from its beginning
--   side-node side-type             a side that was read is the column's entry, and has the type of that side
-- Assumes nothing.
use mathlib.Core.Path.{◌≡◌, refl, sym, ap, ◌∙◌, subst}
use mathlib.Core.Bool.{Bool, true, false, false≢true}
use Prim.Native.Nat.{ℕ, zero, suc, ◌+◌, ◌-◌, ◌≤◌, ◌<◌, max}
use native.Mathlib.Omega.{arith}
use lib.Dec.{eqb}
use borrow.Author.Tests.{eqb-true, eqb-false, ne_eqb}
use Rattle.meaning.specs.Types.{Ty, unit, sum, prod, same, bits, width, size, padded, top, is_unit, is_sum, is_prod, left_side, right_side}
use Rattle.meaning.specs.Tables.{Table, node}
use Rattle.meaning.specs.Ladder.{type_at}
use Rattle.meaning.proofs.Types.{same_eq, eq_same, width_bits}
use Rattle.meaning.proofs.Records.{bits_sum, bits_prod}
use Rattle.meaning.proofs.Trees.{tree_class, class_trees}
use Rattle.tables.specs.declared.Kind.{Kind}
use Rattle.tables.specs.Kinds.{kind_no}
use Rattle.nodes.specs.declared.Node.{Node}
use Rattle.nodes.specs.Reading.{Reads, side_of}
use Rattle.checked.specs.Passed.{Named}
use Rattle.checked.specs.Sides.{side_node, side_type, padding}

pub narrow_width : (x : Ty) → bits x ≤ 524288 → width x ≡ bits x
narrow_width x h = omega (arith, width_bits x)

-- The width of a sum, as `omega` reads it.
sum_bits : (a b : Ty) → bits (sum a b) ≡ 1 + max (bits a) (bits b)
sum_bits a b = omega (arith, bits_sum a b)

kind_not_unit : (k : Kind) (a b : Ty) → (k ≡ Kind.Unit → ⊥) → is_unit (node (kind_no k) a b) ≡ false
kind_not_unit Kind.Unit a b f = absurd (f refl)
kind_not_unit Kind.Sum a b f = refl
kind_not_unit Kind.Product a b f = refl

kind_not_sum : (k : Kind) (a b : Ty) → (k ≡ Kind.Sum → ⊥) → is_sum (node (kind_no k) a b) ≡ false
kind_not_sum Kind.Unit a b f = refl
kind_not_sum Kind.Sum a b f = absurd (f refl)
kind_not_sum Kind.Product a b f = refl

kind_not_prod : (k : Kind) (a b : Ty) → (k ≡ Kind.Product → ⊥) → is_prod (node (kind_no k) a b) ≡ false
kind_not_prod Kind.Unit a b f = refl
kind_not_prod Kind.Sum a b f = refl
kind_not_prod Kind.Product a b f = absurd (f refl)

unit_kind : (k : ℕ) (a b : Ty) → eqb k 0 ≡ is_unit (node k a b)
unit_kind zero a b = refl
unit_kind (suc zero) a b = refl
unit_kind (suc (suc k)) a b = ne_eqb (suc (suc k)) 0 (λ e. omega arith)

padded_kind : (k : ℕ) (a b : Ty) → padded (node k a b) ≡ true → 1 ≤ k
unfolding padded
padded_kind zero a b h = absurd (false≢true h)
padded_kind (suc k) a b h = omega arith

-- Each side of a sum or a product is no wider and no larger than the whole.
side_bits : (k : ℕ) (a b : Ty) → 1 ≤ k → (bits a ≤ bits (node k a b)) × (bits b ≤ bits (node k a b))
side_bits zero a b h = absurd (omega arith)
side_bits (suc zero) a b h = let e = bits_sum a b in (omega arith, omega arith)
side_bits (suc (suc k)) a b h = let e = bits_prod a b in (omega arith, omega arith)

side_size : (k : ℕ) (a b : Ty) → 1 ≤ k → size (node k a b) ≤ 2097152 → (size a ≤ 2097152) × (size b ≤ 2097152)
unfolding size
side_size zero a b h l = absurd (omega arith)
side_size (suc zero) a b h l = (omega arith, omega arith)
side_size (suc (suc k)) a b h l = (omega arith, omega arith)

-- A side of a sum or a product that was read.
pub record SideRead (t : Table) (n : ℕ) (r : Node) (g : Bool) : Type 0 where
  pub named : Named t (side_of g r).node
  pub falls : (side_of g r).node < n
  pub wide : (side_of g r).width ≡ bits (type_at t (side_of g r).node)
  pub fits : (side_of g r).width ≤ r.width

module _ (t : Table) (n : ℕ) (r : Node) (e : Reads t n r) where
  -- The trees of the two sides.
  abbrev a : Ty
  a = type_at t r.left

  abbrev b : Ty
  b = type_at t r.right

  -- The node's tree as its kind has it.
  by_kind : (k : Kind) → r.kind ≡ k → type_at t n ≡ node (kind_no k) (type_at t r.left) (type_at t r.right)
  by_kind k h = e.tree ∙ ap (λ (j : Kind). node (kind_no j) a b) h

  pub unit_tree : r.kind ≡ Kind.Unit → type_at t n ≡ unit
  unit_tree = by_kind Kind.Unit

  pub sum_tree : r.kind ≡ Kind.Sum → type_at t n ≡ sum (type_at t r.left) (type_at t r.right)
  sum_tree = by_kind Kind.Sum

  pub prod_tree : r.kind ≡ Kind.Product → type_at t n ≡ prod (type_at t r.left) (type_at t r.right)
  prod_tree = by_kind Kind.Product

  pub no_unit : (r.kind ≡ Kind.Unit → ⊥) → is_unit (type_at t n) ≡ false
  no_unit f = ap is_unit e.tree ∙ kind_not_unit r.kind a b f

  pub unit_test : eqb (kind_no r.kind) 0 ≡ is_unit (type_at t n)
  unit_test = unit_kind (kind_no r.kind) a b ∙ ap is_unit (sym e.tree)

  pub no_sum : (r.kind ≡ Kind.Sum → ⊥) → is_sum (type_at t n) ≡ false
  no_sum f = ap is_sum e.tree ∙ kind_not_sum r.kind a b f

  pub no_prod : (r.kind ≡ Kind.Product → ⊥) → is_prod (type_at t n) ≡ false
  no_prod f = ap is_prod e.tree ∙ kind_not_prod r.kind a b f

  pub padded_inner : r.padded ≡ true → 1 ≤ kind_no r.kind
  padded_inner p = padded_kind (kind_no r.kind) a b (ap padded (sym e.tree) ∙ sym e.padded_is ∙ p)

  -- The node is within the limits.
  module _ (h : Named t n) where
    pub own_width : r.width ≡ bits (type_at t n)
    own_width = e.width_is ∙ narrow_width (type_at t n) h.narrow

    pub low : width (type_at t n) < top
    low = omega (arith, width_bits (type_at t n), h.narrow)

    -- The widths of the sides as they were read are the true ones.
    left-bits : 1 ≤ kind_no r.kind → r.left_width ≡ bits a
    left-bits k =
        e.left_width_is ∙ narrow_width a (omega (arith, h.narrow, ap bits e.tree, (side_bits (kind_no r.kind) a b k).0))

    right-bits : 1 ≤ kind_no r.kind → r.right_width ≡ bits b
    right-bits k =
        e.right_width_is ∙ narrow_width b (omega (arith, h.narrow, ap bits e.tree, (side_bits (kind_no r.kind) a b k).1))

    sizes : 1 ≤ kind_no r.kind → (size a ≤ 2097152) × (size b ≤ 2097152)
    sizes k = side_size (kind_no r.kind) a b k (subst (λ (x : Ty). size x ≤ 2097152) e.tree h.few)

    pub side_read : 1 ≤ kind_no r.kind → (g : Bool) → SideRead t n r g
    side_read k true =
        let w = right-bits k in
        let s = (side_bits (kind_no r.kind) a b k).1 in
        record {
          named =
              record {
                sound = h.sound;
                here = e.right_in;
                narrow = omega (arith, h.narrow, ap bits e.tree);
                few = (sizes k).1;
              };
          falls = e.right_falls k;
          wide = w;
          fits = omega (arith, own_width, ap bits e.tree);
        }
    side_read k false =
        let w = left-bits k in
        let s = (side_bits (kind_no r.kind) a b k).0 in
        record {
          named =
              record {
                sound = h.sound;
                here = e.left_in;
                narrow = omega (arith, h.narrow, ap bits e.tree);
                few = (sizes k).0;
              };
          falls = e.left_falls k;
          wide = w;
          fits = omega (arith, own_width, ap bits e.tree);
        }

    -- A sum and a product have sides.
    inner : {j : Kind} → r.kind ≡ j → 1 ≤ kind_no j → 1 ≤ kind_no r.kind
    inner k p = subst (λ (i : Kind). 1 ≤ kind_no i) (sym k) p

    pub sum_total : r.kind ≡ Kind.Sum → r.width ≡ 1 + max r.left_width r.right_width
    sum_total k =
        let l = left-bits (inner k (omega arith)) in
        let m = right-bits (inner k (omega arith)) in
        omega (arith, own_width, ap bits (sum_tree k), sum_bits a b)

    pub prod_total : r.kind ≡ Kind.Product → r.width ≡ r.left_width + r.right_width
    prod_total k =
        let l = left-bits (inner k (omega arith)) in
        let m = right-bits (inner k (omega arith)) in
        omega (arith, own_width, ap bits (prod_tree k), bits_prod a b)

module _ (t : Table) (m n : ℕ) (a b : Node) (ea : Reads t m a) (eb : Reads t n b) where
  pub same_class : a.class ≡ b.class → type_at t m ≡ type_at t n
  same_class h = class_trees t.columns m n (sym ea.class_is ∙ h ∙ eb.class_is)

  -- Two nodes with the same type have equal classes.
  types_class : type_at t m ≡ type_at t n → a.class ≡ b.class
  types_class h = ea.class_is ∙ tree_class t.columns m n h ∙ sym eb.class_is

  pub class_test : eqb a.class b.class ≡ same (type_at t m) (type_at t n)
  class_test = go (eqb a.class b.class) refl
    where
      other : (s : Bool) → same (type_at t m) (type_at t n) ≡ s → (a.class ≡ b.class → ⊥) → false ≡ s
      other true h f = absurd (f (types_class (same_eq (type_at t m) (type_at t n) h)))
      other false h f = refl

      go : (x : Bool) → eqb a.class b.class ≡ x → x ≡ same (type_at t m) (type_at t n)
      go true h = sym (eq_same (type_at t m) (type_at t n) (same_class (eqb-true a.class b.class h)))
      go false h = other (same (type_at t m) (type_at t n)) refl (eqb-false a.class b.class h)

  pub other_class : (a.class ≡ b.class → ⊥) → same (type_at t m) (type_at t n) ≡ false
  other_class f = sym class_test ∙ ne_eqb a.class b.class f

-- The payload of a sum lies at its end.
pub before_payload : (g : Bool) (x a b : Ty) → x ≡ sum a b → 1 + padding g x ≡ bits x - bits (side_type g x)
before_payload g x a b e = subst (λ (y : Ty). 1 + padding g y ≡ bits y - bits (side_type g y)) (sym e) (at g)
  where
    at : (s : Bool) → 1 + padding s (sum a b) ≡ bits (sum a b) - bits (side_type s (sum a b))
    at true = omega (arith, bits_sum a b)
    at false = omega (arith, bits_sum a b)

-- The sides of a tree, by the kind of its node.
kind_left : (k : ℕ) (a b : Ty) → 1 ≤ k → left_side (node k a b) ≡ a
kind_left zero a b h = absurd (omega arith)
kind_left (suc zero) a b h = refl
kind_left (suc (suc k)) a b h = refl

kind_right : (k : ℕ) (a b : Ty) → 1 ≤ k → right_side (node k a b) ≡ b
kind_right zero a b h = absurd (omega arith)
kind_right (suc zero) a b h = refl
kind_right (suc (suc k)) a b h = refl

module _ (t : Table) (n : ℕ) (r : Node) (e : Reads t n r) where
  pub side-node : (g : Bool) → (side_of g r).node ≡ side_node g t.columns n
  side-node true = e.right_is
  side-node false = e.left_is

  pub side-type : 1 ≤ kind_no r.kind → (g : Bool) → type_at t (side_of g r).node ≡ side_type g (type_at t n)
  side-type k true = sym (ap right_side e.tree ∙ kind_right (kind_no r.kind) (type_at t r.left) (type_at t r.right) k)
  side-type k false = sym (ap left_side e.tree ∙ kind_left (kind_no r.kind) (type_at t r.left) (type_at t r.right) k)
