-- The sides of a sum and of a product that were read from a sound table, as a walk of a cut needs them.
--
--   side_bits before_some some_bits_lem a sum is its tag and padding, of which there is some, and a side
--   sum_bits                    a sum has at least one bit
--   Under under                 the side of a sum under a tag: its place, its width, its number
--   Parts parts                 the sides of a product, one after the other
-- Assumes nothing.
use mathlib.Core.Path.{◌≡◌, refl, ap, sym, ◌∙◌, subst}
use mathlib.Core.Bool.{Bool, true, false}
use Prim.Native.Nat.{ℕ, ◌+◌, ◌≤◌, ◌<◌}
use native.Mathlib.Omega.{arith}
use Rattle.meaning.specs.Types.{Ty, sum, prod, bits}
use Rattle.meaning.specs.Tables.{Table}
use Rattle.meaning.specs.Ladder.{type_at}
use Rattle.tables.specs.declared.Kind.{Kind}
use Rattle.tables.specs.Kinds.{kind_no}
use Rattle.nodes.specs.Reading.{Reads, side_of}
use Rattle.nodes.specs.declared.Node.{Node}
use Rattle.checked.specs.Passed.{Named}
use Rattle.checked.proofs.Nodes.{sum_tree, prod_tree, own_width, side_read}
use Rattle.laws.proofs.CutSides.{side}
use Rattle.prune_sides.specs.Sides.{UnderTag}
use Rattle.prune_sides.specs.declared.Payload.{Payload}
use Rattle.prune_sides.proofs.CutSteps.{before}

-- The side's tree is the tree's side.
side_tree : (t : Table) (g : Bool) (n : Node) → side g (type_at t n.left) (type_at t n.right) ≡ type_at t (side_of g n).node
side_tree t true n = refl
side_tree t false n = refl

-- A side is no wider than its sum.
side_bits : (g : Bool) (a b : Ty) → bits (side g a b) + before g a b ≡ bits (sum a b)
unfolding bits
side_bits true a b = omega arith
side_bits false a b = omega arith

-- A sum has a tag.
pub before_some : (g : Bool) (a b : Ty) → 1 ≤ before g a b
unfolding bits
before_some true a b = omega arith
before_some false a b = omega arith

pub some_bits_lem : (a b : Ty) → 0 < bits (sum a b)
unfolding bits
some_bits_lem a b = omega arith

-- The side of a sum under a tag, and where its payload lies.
pub record Under (t : Table) (n : ℕ) (r : Node) (g : Bool) (p : Payload) : Type 0 where
  pub tree : type_at t n ≡ sum (type_at t r.left) (type_at t r.right)
  pub side_is : side g (type_at t r.left) (type_at t r.right) ≡ type_at t p.node
  pub before_is : before g (type_at t r.left) (type_at t r.right) ≡ p.before
  pub spans : p.before + bits (type_at t p.node) ≡ bits (type_at t n)
  pub named : Named t p.node
  pub falls : p.node < n

-- The sides of a product, one after the other.
pub record Parts (t : Table) (n : ℕ) (r : Node) : Type 0 where
  pub tree : type_at t n ≡ prod (type_at t r.left) (type_at t r.right)
  pub first_is : bits (type_at t r.left) ≡ r.left_width
  pub spans : r.left_width + bits (type_at t r.right) ≡ bits (type_at t n)
  pub first_named : Named t r.left
  pub second_named : Named t r.right
  pub first_falls : r.left < n
  pub second_falls : r.right < n

module _ (t : Table) (n : ℕ) (r : Node) (e : Reads t n r) (h : Named t n) where
  pub under : (g : Bool) (p : Payload) → r.kind ≡ Kind.Sum → UnderTag r g p → Under t n r g p
  under g p one u =
      let a = type_at t r.left in
      let b = type_at t r.right in
      let read = side_read t n r e h (omega (arith, ap kind_no one)) g in
      let tree : type_at t n ≡ sum a b = sum_tree t n r e one in
      let s : side g a b ≡ type_at t p.node = side_tree t g r ∙ ap (type_at t) (sym u.node_is) in
      let whole : bits (type_at t n) ≡ bits (sum a b) = ap bits tree in
      let part : bits (side g a b) ≡ bits (type_at t p.node) = ap bits s in
      let wide : (side_of g r).width ≡ bits (side g a b) = read.wide ∙ ap bits (sym (side_tree t g r)) in
      let fills = side_bits g a b in
      let own = own_width t n r e h in
      let place = u.before_is in
      record {
        tree = tree;
        side_is = s;
        before_is = omega arith;
        spans = omega arith;
        named = subst (Named t) (sym u.node_is) read.named;
        falls = subst (λ (k : ℕ). k < n) (sym u.node_is) read.falls;
      }

  -- A sum has a first bit.
  pub sum_bits : r.kind ≡ Kind.Sum → 0 < bits (type_at t n)
  sum_bits one = subst (λ (a : Ty). 0 < bits a) (sym (sum_tree t n r e one)) (some_bits_lem (type_at t r.left) (type_at t r.right))

  pub parts : r.kind ≡ Kind.Product → Parts t n r
  unfolding bits
  parts two =
      let a = type_at t r.left in
      let b = type_at t r.right in
      let first = side_read t n r e h (omega (arith, ap kind_no two)) false in
      let second = side_read t n r e h (omega (arith, ap kind_no two)) true in
      let tree : type_at t n ≡ prod a b = prod_tree t n r e two in
      let whole : bits (type_at t n) ≡ bits (prod a b) = ap bits tree in
      let w : r.left_width ≡ bits a = first.wide in
      record {
        tree = tree;
        first_is = sym w;
        spans = omega arith;
        first_named = first.named;
        second_named = second.named;
        first_falls = first.falls;
        second_falls = second.falls;
      }
