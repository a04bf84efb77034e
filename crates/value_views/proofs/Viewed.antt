-- What the inner view functions answer, by the facts that they test one after the other.
--
--   says_same says_other                a tag is the one asked for, or is not
--   payload_far payload_none payload_seen    the payload of a sum: 5, 7, or its place
--   parts_far parts_none parts_seen          the parts of a product: 5, 7, or their places
--   read_far read_near                       the record ends past the last 64-bit number, or does not
--   payload_no_sum tag_inside tag_read payload_other payload_within payload_read     the payload, as the node and the tag were read
--   parts_no_product second_addressed parts_read                              the parts, as the node was read
-- Assumes nothing.
use mathlib.Core.Path.{◌≡◌, refl, sym, ap, ap₂, ◌∙◌, subst}
use mathlib.Core.Bool.{Bool, true, false, not, ◌&&◌, beq, true≢false, false≢true}
use mathlib.Core.List.{[], ◌∷◌}
use Prim.Native.Nat.{ℕ, ◌+◌, ◌-◌, ◌*◌, ◌%◌, ◌≤◌, ◌<◌, max}
use native.Mathlib.Omega.{arith}
use lib.Dec.{ltb}
use lib.ListN.{length, get_or}
use borrow.Author.Tests.{lt-ltb, le-ltb}
use Rattle.meaning.specs.Types.{Ty, sum, bits, top, is_sum, is_prod, left_side}
use Rattle.meaning.specs.Tables.{Table, left, right}
use Rattle.meaning.specs.Records.{tag}
use Rattle.meaning.specs.Bits.{bits_of}
use Rattle.meaning.specs.Ladder.{refused, accepted, rung, ladder, Record, type_at, type_of, record_bits}
use Rattle.meaning.specs.RecordCalls.{Spot, Spots}
use Rattle.meaning.proofs.Ladders.{ladder_holds, ladder_fails}
use Rattle.tables.specs.declared.Kind.{Kind}
use Rattle.tables.specs.Kinds.{kind_no}
use Rattle.nodes.specs.declared.Node.{Node}
use Rattle.nodes.specs.declared.Side.{Side}
use Rattle.nodes.specs.Reading.{Reads, side_of}
use Rattle.checked.specs.Passed.{Held}
use Rattle.checked.specs.Sides.{side_node, padding, says}
use Rattle.value_views.specs.Views.{payload_at, parts_at}
use Rattle.checked.proofs.Nodes.{own_width, no_sum, sum_tree, sum_total, no_prod, prod_tree, prod_total, side_read, side-type, side-node, before_payload}
use Rattle.checked.proofs.Lent.{lent, lent_run, lent_tag}

pub says_same : (g x : Bool) → not (beq x g) ≡ false → says g x ≡ true
says_same true true h = refl
says_same true false h = absurd (true≢false h)
says_same false true h = absurd (true≢false h)
says_same false false h = refl

pub says_other : (g x : Bool) → not (beq x g) ≡ true → says g x ≡ false
says_other true true h = absurd (false≢true h)
says_other true false h = refl
says_other false true h = refl
says_other false false h = absurd (false≢true h)

-- The last two rungs of a call, whatever they are: the first refuses, the second does, neither does.
module _ {A : Type 0} (a : Bool) (n p : ℕ) (b : Bool) (m q : ℕ) (x : A) where
  first-rung : a ≡ true → ladder (rung a n p ∷ rung b m q ∷ []) x ≡ refused n p
  first-rung h = ladder_holds a n p (rung b m q ∷ []) x h

  second_rung : a ≡ false → b ≡ true → ladder (rung a n p ∷ rung b m q ∷ []) x ≡ refused m q
  second_rung h g = ladder_fails a n p (rung b m q ∷ []) x h ∙ ladder_holds b m q [] x g

  no_rung : a ≡ false → b ≡ false → ladder (rung a n p ∷ rung b m q ∷ []) x ≡ accepted x
  unfolding ladder
  no_rung h g = ladder_fails a n p (rung b m q ∷ []) x h ∙ ladder_fails b m q [] x g

-- A place, from its two numbers.
abbrev place : ℕ → ℕ → Spot
place o n = record { offset = o; node = n }

module _ (g : Bool) (t : Table) (r : Record) where
  -- The two tests of the ladder, and what is accepted.
  abbrev far : Bool
  far = ltb top (r.offset + bits (type_of t r))

  abbrev fits : Bool
  fits = is_sum (type_of t r) && says g (tag (record_bits t r))

  abbrev spot : Spot
  spot = place (r.offset + (1 + padding g (type_of t r))) (side_node g t.columns r.node)

  pub payload_far : top < r.offset + bits (type_of t r) → refused 5 0 ≡ payload_at g t r
  payload_far h = sym (first-rung far 5 0 (not fits) 7 0 spot (lt-ltb top (r.offset + bits (type_of t r)) h))

  pub payload_none : r.offset + bits (type_of t r) ≤ top → fits ≡ false → refused 7 0 ≡ payload_at g t r
  payload_none h e = sym (second_rung far 5 0 (not fits) 7 0 spot (le-ltb top (r.offset + bits (type_of t r)) h) (ap not e))

  pub payload_seen : r.offset + bits (type_of t r) ≤ top → (a b : Ty) → type_of t r ≡ sum a b → says g (tag (record_bits t r)) ≡ true
      → (at n : ℕ) → at ≡ r.offset + (1 + padding g (type_of t r)) → n ≡ side_node g t.columns r.node
      → accepted (place at n) ≡ payload_at g t r
  payload_seen h a b e s at n f k =
      ap₂ (λ (i m : ℕ). accepted (place i m)) f k
      ∙ sym (no_rung far 5 0 (not fits) 7 0 spot (le-ltb top (r.offset + bits (type_of t r)) h)
      (ap₂ (λ (x y : Bool). not (x && y)) (ap is_sum e) s))

module _ (t : Table) (r : Record) where
  abbrev both : Spots
  both =
      record {
        first = place r.offset (left t.columns r.node);
        second = place (r.offset + bits (left_side (type_of t r))) (right t.columns r.node);
      }

  pub parts_far : top < r.offset + bits (type_of t r) → refused 5 0 ≡ parts_at t r
  parts_far h =
      sym (first-rung (ltb top (r.offset + bits (type_of t r))) 5 0 (not (is_prod (type_of t r))) 7 0 both
      (lt-ltb top (r.offset + bits (type_of t r)) h))

  pub parts_none : r.offset + bits (type_of t r) ≤ top → is_prod (type_of t r) ≡ false → refused 7 0 ≡ parts_at t r
  parts_none h e =
      sym (second_rung (ltb top (r.offset + bits (type_of t r))) 5 0 (not (is_prod (type_of t r))) 7 0 both
      (le-ltb top (r.offset + bits (type_of t r)) h) (ap not e))

  pub parts_seen : r.offset + bits (type_of t r) ≤ top → is_prod (type_of t r) ≡ true
      → (w m n : ℕ) → w ≡ bits (left_side (type_of t r)) → m ≡ left t.columns r.node → n ≡ right t.columns r.node
      → accepted (record { first = place r.offset m; second = place (r.offset + w) n }) ≡ parts_at t r
  parts_seen h e w m n ew em en =
      ap (λ (k : ℕ). accepted (record { first = place r.offset k; second = place (r.offset + w) n })) em
      ∙ ap₂ (λ (d k : ℕ). accepted (record { first = place r.offset (left t.columns r.node); second = place (r.offset + d) k })) ew en
      ∙ sym (no_rung (ltb top (r.offset + bits (type_of t r))) 5 0 (not (is_prod (type_of t r))) 7 0 both
      (le-ltb top (r.offset + bits (type_of t r)) h) (ap not e))

-- A record whose node was read, and where it ends.
module _ (t : Table) (r : Record) (h : Held t r) (n : Node) (e : Reads t r.node n) where
  wide : n.width ≡ bits (type_of t r)
  wide = own_width t r.node n e h.named

  pub read_far : top < r.offset + n.width → top < r.offset + bits (type_of t r)
  read_far l = omega (arith, wide)

  module _ (end : ℕ) (f : (end ≡ r.offset + n.width) × (end ≤ top)) where
    pub read_near : r.offset + bits (type_of t r) ≤ top
    read_near = omega (arith, wide, f.0, f.1)

    module _ (k : n.kind ≡ Kind.Sum) where
      abbrev tree : type_of t r ≡ sum (type_at t n.left) (type_at t n.right)
      tree = sum_tree t r.node n e k

      inner : 1 ≤ kind_no n.kind
      inner = subst (λ (j : Kind). 1 ≤ kind_no j) (sym k) (omega arith)

      total : n.width ≡ 1 + max n.left_width n.right_width
      total = sum_total t r.node n e h.named k

      -- The tag lies within the part of the bytes that is lent, and is read there.
      pub tag_inside : r.offset % 8 < 8 * length (lent r)
      tag_inside = omega (arith, (lent_run t r h (bits (type_of t r)) refl).inside, wide, total)

      pub tag_read : get_or (bits_of (lent r)) (r.offset % 8) false ≡ tag (record_bits t r)
      tag_read = lent_tag t r h (omega (arith, wide, total))

      module _ (g : Bool) where
        pub payload_within : (side_of g n).width ≤ end
        payload_within = omega (arith, f.0, (side_read t r.node n e h.named inner g).fits)

        -- The payload lies at the end.
        payload_starts : end - (side_of g n).width ≡ r.offset + (1 + padding g (type_of t r))
        payload_starts =
            omega (
              arith,
              f.0,
              wide,
              (side_read t r.node n e h.named inner g).wide,
              (side_read t r.node n e h.named inner g).fits,
              ap bits (side-type t r.node n e inner g),
              before_payload g (type_of t r) (type_at t n.left) (type_at t n.right) tree,
            )

        pub payload_other : (x : Bool) → x ≡ get_or (bits_of (lent r)) (r.offset % 8) false → not (beq x g) ≡ true → refused 7 0 ≡ payload_at g t r
        payload_other x b d =
            payload_none g t r read_near (ap₂ (λ (y z : Bool). y && says g z) (ap is_sum tree) (sym (b ∙ tag_read)) ∙ says_other g x d)

        pub payload_read : (x : Bool) → x ≡ get_or (bits_of (lent r)) (r.offset % 8) false → not (beq x g) ≡ false → (s : Side) → s ≡ side_of g n
            → accepted (place (end - s.width) s.node) ≡ payload_at g t r
        payload_read x b d s i =
            ap (λ (y : Side). accepted (place (end - y.width) y.node)) i
            ∙ payload_seen g t r read_near (type_at t n.left) (type_at t n.right) tree (ap (says g) (sym (b ∙ tag_read)) ∙ says_same g x d)
            (end - (side_of g n).width)
            (side_of g n).node
            payload_starts
            (side-node t r.node n e g)

    pub payload_no_sum : (n.kind ≡ Kind.Sum → ⊥) → (g : Bool) → refused 7 0 ≡ payload_at g t r
    payload_no_sum k g = payload_none g t r read_near (ap (λ (x : Bool). x && says g (tag (record_bits t r))) (no_sum t r.node n e k))

    module _ (k : n.kind ≡ Kind.Product) where
      left_wide : n.left_width ≡ bits (left_side (type_of t r))
      left_wide =
          let i : 1 ≤ kind_no n.kind = subst (λ (j : Kind). 1 ≤ kind_no j) (sym k) (omega arith) in
          (side_read t r.node n e h.named i false).wide ∙ ap bits (side-type t r.node n e i false)

      pub second_addressed : r.offset + n.left_width ≤ top
      second_addressed = omega (arith, f.0, f.1, prod_total t r.node n e h.named k)

      pub parts_read : accepted (record { first = place r.offset n.left; second = place (r.offset + n.left_width) n.right }) ≡ parts_at t r
      parts_read =
          parts_seen t r read_near (ap is_prod (prod_tree t r.node n e k)) n.left_width n.left n.right left_wide e.left_is e.right_is

    pub parts_no_product : (n.kind ≡ Kind.Product → ⊥) → refused 7 0 ≡ parts_at t r
    parts_no_product k = parts_none t r read_near (no_prod t r.node n e k)
