-- A node within the limits that a walk has read, and where the pieces of a record of it lie: the laws of `checked`, for such a node.
--
--   NodeRead                  a node within the limits, and what was read of it
--   own_width low             the width that was read is the true one; it lies below the end of the numbers
--   is_sum_lem is-prod            the tree of a node with padding, by its kind
--   side                      a side of it, by its tag
--   Taken taken               the side of a sum that a tag took
--   tag_inside payload_run first_run second_run     where tag, payload and parts lie in a record that lies in bytes
-- Assumes nothing.
use mathlib.Core.Path.{◌≡◌, refl, sym, subst}
use mathlib.Core.Bool.{Bool, true, false}
use mathlib.Core.List.{List}
use Prim.Native.Nat.{ℕ, ◌+◌, ◌-◌, ◌*◌, ◌≤◌, ◌<◌}
use native.Mathlib.Omega.{arith}
use lib.ListN.{length}
use Rattle.meaning.specs.Types.{sum, prod, bits, width, top}
use Rattle.meaning.specs.Tables.{Table, ty_at}
use Rattle.tables.specs.declared.Kind.{Kind}
use Rattle.tables.specs.Kinds.{kind_no}
use Rattle.nodes.specs.declared.Node.{Node}
use Rattle.nodes.specs.declared.Side.{Side}
use Rattle.nodes.specs.Reading.{Reads, side_of}
use Rattle.bits.specs.Runs.{Run}
use Rattle.checked.specs.Passed.{Named}
use Rattle.checked.proofs.Lent.{part_run}
use Rattle.checked.proofs.Nodes.{SideRead, sum_tree, prod_tree, padded_inner, side_read, sum_total, prod_total}
use Rattle.checked.proofs.Nodes as nodes

-- Node n is within the limits, and was read as r.
pub record NodeRead (t : Table) (n : ℕ) (r : Node) : Type 0 where
  pub named : Named t n
  pub reads : Reads t n r

-- The side s of a sum that a tag took.
pub record Taken (t : Table) (n : ℕ) (r : Node) (s : Side) : Type 0 where
  pub named : Named t s.node
  pub falls : s.node < n
  pub wide : s.width ≡ bits (ty_at t.columns s.node)
  pub room : 1 + s.width ≤ r.width

-- Of the kinds with sides there are two.
last_kind : (k : Kind) → 1 ≤ kind_no k → (k ≡ Kind.Sum → ⊥) → k ≡ Kind.Product
last_kind Kind.Unit h f = absurd (omega arith)
last_kind Kind.Sum h f = absurd (f refl)
last_kind Kind.Product h f = refl

module _ {t : Table} {n : ℕ} {r : Node} (h : NodeRead t n r) where
  pub own_width : r.width ≡ bits (ty_at t.columns n)
  own_width = nodes.own_width t n r h.reads h.named

  pub low : width (ty_at t.columns n) < top
  low = nodes.low t n r h.reads h.named

  pub is_sum_lem : r.kind ≡ Kind.Sum → ty_at t.columns n ≡ sum (ty_at t.columns r.left) (ty_at t.columns r.right)
  is_sum_lem = sum_tree t n r h.reads

  -- A node with padding that is no sum is a product.
  is_product : r.padded ≡ true → (r.kind ≡ Kind.Sum → ⊥) → r.kind ≡ Kind.Product
  is_product p f = last_kind r.kind (padded_inner t n r h.reads p) f

  pub is-prod : r.padded ≡ true → (r.kind ≡ Kind.Sum → ⊥) → ty_at t.columns n ≡ prod (ty_at t.columns r.left) (ty_at t.columns r.right)
  is-prod p f = prod_tree t n r h.reads (is_product p f)

  pub side : r.padded ≡ true → (g : Bool) → SideRead t n r g
  side p = side_read t n r h.reads h.named (padded_inner t n r h.reads p)

  -- Tag and payload fit a sum.
  tag_room : r.kind ≡ Kind.Sum → (g : Bool) → 1 + (side_of g r).width ≤ r.width
  tag_room k true = omega (arith, sum_total t n r h.reads h.named k)
  tag_room k false = omega (arith, sum_total t n r h.reads h.named k)

  pub taken : r.padded ≡ true → r.kind ≡ Kind.Sum → (g : Bool) {s : Side} → s ≡ side_of g r → Taken t n r s
  taken p k g e =
      let x = side p g in
      subst (Taken t n r) (sym e) (record { named = x.named; falls = x.falls; wide = x.wide; room = tag_room k g })

  -- The parts make up a product.
  both : r.padded ≡ true → (r.kind ≡ Kind.Sum → ⊥) → r.width ≡ r.left_width + r.right_width
  both p f = prod_total t n r h.reads h.named (is_product p f)

  -- A record of the node that lies in the bytes x from bit `at` on.
  module _ {x : List ℕ} {at : ℕ} (i : Run x at (bits (ty_at t.columns n))) where
    pub tag_inside : r.kind ≡ Kind.Sum → at < 8 * length x
    tag_inside k = omega (arith, i.inside, own_width, tag_room k true)

    module _ (p : r.padded ≡ true) where
      pub payload_run : {s : Side} (g : Bool) → s ≡ side_of g r → Run x (at + (r.width - s.width)) (bits (ty_at t.columns s.node))
      payload_run g e =
          subst (λ (y : Side). Run x (at + (r.width - y.width)) (bits (ty_at t.columns y.node))) (sym e)
          (part_run i (r.width - (side_of g r).width) (bits (ty_at t.columns (side_of g r).node))
          (omega (arith, own_width, (side p g).wide, (side p g).fits)))

      pub first_run : Run x at (bits (ty_at t.columns r.left))
      first_run =
          let l = side p false in
          record {
            inside = omega (arith, i.inside, own_width, l.wide, l.fits);
            counted = omega (arith, i.counted, own_width, l.wide, l.fits);
          }

      pub second_run : (r.kind ≡ Kind.Sum → ⊥) → Run x (at + r.left_width) (bits (ty_at t.columns r.right))
      second_run f =
          part_run i r.left_width (bits (ty_at t.columns r.right)) (omega (arith, own_width, (side p true).wide, both p f))
