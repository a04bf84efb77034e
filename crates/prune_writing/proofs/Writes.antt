-- What a walk has written: an output whose bits are those of the cut, from bit `to` on.
--
--   at_sum at_product           a walk that may cut, at a sum and at a product
--   Written                     the claim: the cut of a record was pasted over the bits of the output
--   written_equal written_unit written_sum written_product      one for each rule
--   lies_sum lies_first lies_second     where the payload and the parts have their place in the output
--   cuts_first cuts_second      where a product can be cut, its first part can be, and so can its second
-- Assumes nothing.
use mathlib.Core.Path.{◌≡◌, ap, ap₂, sym, ◌∙◌}
use mathlib.Core.Bool.{Bool, true}
use mathlib.Core.List.{List}
use Prim.Native.Nat.{ℕ, ◌+◌, ◌-◌, ◌≤◌, ◌<◌}
use native.Mathlib.Omega.{arith}
use lib.ListN.{length, set, drop}
use lib.Seq.{paste, paste-zero}
use Rattle.meaning.specs.Types.{bits}
use Rattle.meaning.specs.Tables.{Table}
use Rattle.meaning.specs.Bits.{bits_of, zeros}
use Rattle.meaning.specs.Ladder.{record_of, type_at, record_bits}
use Rattle.meaning.specs.CutCalls.{cut_bits, cut_of}
use Rattle.meaning.proofs.Tests.{and_left, and_right}
use Rattle.tables.specs.declared.Kind.{Kind}
use Rattle.nodes.specs.declared.Node.{Node}
use Rattle.nodes.specs.Reading.{Reads}
use Rattle.bits.proofs.OfBytes.{length_bits_of}
use Rattle.meaning.proofs.Pasted.{paste_take, paste_append}
use Rattle.laws.proofs.CutSides.{wrapped}
use Rattle.bits.specs.Runs.{Run}
use Rattle.checked.specs.Passed.{Named}
use Rattle.prune_sides.specs.Sides.{TakenSide}
use Rattle.prune_sides.specs.declared.Payload.{Payload}
use Rattle.prune_sides.specs.declared.Taken.{Taken}
use Rattle.prune_sides.proofs.CutSteps.{cut_bits_rebuilt, cut_bits_joined, pasted_tag}
use Rattle.prune_sides.proofs.Walks.{Step, step_of, step_like, SumStep, sum_step_of, ProductStep, product_step_of, cuts, cut-bits, step_equal, equal_width, equal_bits, unit_width}
use Rattle.prune_sides.proofs.Walks.{step_sum, accepts_sum, spans_sum, before_sum, wrapped_sum, step_product, accepts_product, first_product, spans_product, run_first}

-- A walk that may cut, at a sum and at a product: the record's type is of the target's kind.
module _ {t : Table} {src : List ℕ} {at given target : ℕ} {given-node target-node : Node} (from : Named t given) (to : Named t target)
    (run : Run src at (bits (type_at t given))) (given-read : Reads t given given-node) (target-read : Reads t target target-node)
    (cutting : cuts t src at given target ≡ true) (differ : target-node.class ≡ given-node.class → ⊥) where
  abbrev step : Step t src at given target given-node target-node
  step = step_of from to run given-read target-read

  pub at_sum : {s : Taken} → target-node.kind ≡ Kind.Sum → TakenSide src at given-node target-node s
      → SumStep t src at given target given-node target-node s.tag s.given s.target
  at_sum one taken = sum_step_of step differ one (step_like step one (omega arith) cutting) taken

  pub at_product : target-node.kind ≡ Kind.Product → ProductStep t src at given target given-node target-node
  at_product two = product_step_of step differ two (step_like step two (omega arith) cutting)

-- The output `out` became `new`.
abbrev pub Written : Table → List ℕ → ℕ → ℕ → ℕ → List ℕ → ℕ → List ℕ → Type 0
Written t src at given target out to new =
    bits_of new ≡ paste (bits_of out) to (cut_bits (cut_of t (record_of src at given) target)) (bits (type_at t target))

module _ {t : Table} {src : List ℕ} {at given target : ℕ} {given-node target-node : Node} (s : Step t src at given target given-node target-node)
    (out : List ℕ) (to : ℕ) where
  pub written_equal : (new : List ℕ) → target-node.class ≡ given-node.class
      → bits_of new ≡ paste (bits_of out) to (drop at (bits_of src)) target-node.width → Written t src at given target out to new
  unfolding record_bits
  written_equal new e h =
      let w : target-node.width ≡ bits (type_at t given) = equal_width s e in
      let n : bits (type_at t given) ≡ bits (type_at t target) = equal_bits s e in
      h
      ∙ ap (paste (bits_of out) to (drop at (bits_of src))) w
      ∙ sym (paste_take (bits_of out) to (drop at (bits_of src)) (bits (type_at t given)))
      ∙ ap₂ (paste (bits_of out) to) (sym (ap cut_bits (step_equal s e))) n

  pub written_unit : target-node.kind ≡ Kind.Unit → Written t src at given target out to out
  written_unit e =
      paste-zero (bits_of out) to (cut_bits (cut_of t (record_of src at given) target))
      ∙ ap (paste (bits_of out) to (cut_bits (cut_of t (record_of src at given) target))) (sym (unit_width s e))

-- Places in an output that was written before, and kept its length.
module _ {t : Table} {src : List ℕ} {at given target : ℕ} {given-node target-node : Node} {g : Bool} {p q : Payload}
    (s : SumStep t src at given target given-node target-node g p q) (out : List ℕ) (to : ℕ) (h : Run out to (bits (type_at t target))) where
  pub lies_sum : (mid : List ℕ) → length mid ≡ length out → Run mid (to + q.before) (bits (type_at t q.node))
  lies_sum mid e =
      let k = spans_sum s in
      let i = h.inside in
      let l = h.counted in
      record { inside = omega arith; counted = omega arith }

  pub written_sum : (one two new : List ℕ) → cuts t src at given target ≡ true → bits_of one ≡ set (bits_of out) to g
      → bits_of two ≡ paste (bits_of one) (to + 1) (zeros (q.before - 1)) (q.before - 1)
      → Written t src (at + p.before) p.node q.node two (to + q.before) new → Written t src at given target out to new
  written_sum one two new a e f k =
      let o = cut_of t (record_of src (at + p.before) p.node) q.node in
      let x = cut_bits o in
      let m = bits (type_at t q.node) in
      let c = wrapped g (type_at t target-node.left) (type_at t target-node.right) in
      let some-tag = before_sum s in
      let n : to + q.before ≡ to + (1 + (q.before - 1)) = omega arith in
      let spans = spans_sum s in
      let w : 1 + (q.before - 1) + m ≡ bits (type_at t target) = omega arith in
      let i = h.inside in
      let l : to < length (bits_of out) = omega (arith, length_bits_of out) in
      k
      ∙ ap₂ (λ (d : List Bool) (j : ℕ). paste d j x m) (f ∙ ap (λ (d : List Bool). paste d (to + 1) (zeros (q.before - 1)) (q.before - 1)) e) n
      ∙ pasted_tag (bits_of out) to g (q.before - 1) x m l
      ∙ ap₂ (paste (bits_of out) to)
      (sym (ap cut_bits (step_sum s) ∙ cut_bits_rebuilt c o (sym (accepts_sum s) ∙ a) ∙ wrapped_sum s x)) w

module _ {t : Table} {src : List ℕ} {at given target : ℕ} {given-node target-node : Node} (s : ProductStep t src at given target given-node target-node)
    (out : List ℕ) (to : ℕ) (h : Run out to (bits (type_at t target))) where
  pub lies_first : Run out to (bits (type_at t target-node.left))
  lies_first =
      let f = first_product s in
      let k = spans_product s in
      let i = h.inside in
      let l = h.counted in
      record { inside = omega arith; counted = omega arith }

  pub lies_second : (mid : List ℕ) → length mid ≡ length out → Run mid (to + target-node.left_width) (bits (type_at t target-node.right))
  lies_second mid e =
      let k = spans_product s in
      let i = h.inside in
      let l = h.counted in
      record { inside = omega arith; counted = omega arith }

  -- Where the whole can be cut, each part can.
  pub cuts_first : cuts t src at given target ≡ true → cuts t src at given-node.left target-node.left ≡ true
  cuts_first a =
      and_left (cuts t src at given-node.left target-node.left) (cuts t src (at + given-node.left_width) given-node.right target-node.right)
      (sym (accepts_product s) ∙ a)

  pub cuts_second : cuts t src at given target ≡ true → cuts t src (at + given-node.left_width) given-node.right target-node.right ≡ true
  cuts_second a =
      and_right (cuts t src at given-node.left target-node.left) (cuts t src (at + given-node.left_width) given-node.right target-node.right)
      (sym (accepts_product s) ∙ a)

  pub written_product : (mid new : List ℕ) → cuts t src at given target ≡ true
      → Written t src at given-node.left target-node.left out to mid
      → Written t src (at + given-node.left_width) given-node.right target-node.right mid (to + target-node.left_width) new
      → Written t src at given target out to new
  written_product mid new a e k =
      let o = cut_of t (record_of src at given-node.left) target-node.left in
      let r = cut_of t (record_of src (at + given-node.left_width) given-node.right) target-node.right in
      let first = first_product s in
      let m = bits (type_at t target-node.right) in
      let i = h.inside in
      let l : to ≤ length (bits_of out) = omega (arith, length_bits_of out) in
      k
      ∙ ap (λ (d : List Bool). paste d (to + target-node.left_width) (cut_bits r) m)
      (e ∙ ap (paste (bits_of out) to (cut_bits o)) first)
      ∙ paste_append (bits_of out) to (cut_bits o) target-node.left_width (cut_bits r) m l
      (cut-bits t src at given-node.left (run_first s) target-node.left (cuts_first a) ∙ first)
      ∙ ap₂ (paste (bits_of out) to) (sym (ap cut_bits (step_product s) ∙ cut_bits_joined o r (cuts_first a) (cuts_second a))) (spans_product s)
