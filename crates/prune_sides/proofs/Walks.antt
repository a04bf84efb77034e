-- One step of a walk down a sound table: its two nodes are read, and the cut goes on at their sides.
--
--   cuts                        whether the record that a walk was sent to can be cut to its target
--   record-bits cut-bits        the record has as many bits as its type; an accepted cut has as many as the target
--   Step step_of                a walk whose record's node and whose target were read
--   equal_bits equal_width      nodes of one class are of one width, as it was read and as it is
--   unit_width                  a unit target has no bits
--   step_equal step_unit step_unlike step_like      the cut where a rule needs no further walk
--   SumStep sum_step_of two_sums step_sum accepts_sum       the cut of a sum, by the cut of its payload
--   named_sum run_sum falls_sum         the walk to the payload
--   spans_sum before_sum wrapped_sum    what is written before the payload
--   ProductStep product_step_of step_product accepts_product first_decides second_decides       the cut of a product, by the cuts of its parts
--   named_first run_first falls_first named_second run_second falls_second      the walks to the parts
--   first_product spans_product         where the parts lie in the target
-- Assumes nothing.
use mathlib.Core.Path.{◌≡◌, refl, ap, ap₂, sym, ◌∙◌, subst}
use mathlib.Core.Bool.{Bool, true, false, ◌&&◌, false≢true}
use mathlib.Core.List.{List, [], ◌∷◌, ◌++◌}
use mathlib.Core.Option.{none, some}
use Prim.Native.Nat.{ℕ, ◌+◌, ◌-◌, ◌≤◌, ◌<◌}
use native.Mathlib.Omega.{arith}
use lib.ListN.{length, get_or, take, drop}
use Rattle.meaning.specs.Types.{Ty, sum, prod, same, bits}
use Rattle.meaning.specs.Tables.{Table}
use Rattle.meaning.specs.Tables as tables
use Rattle.meaning.specs.Bits.{bits_of, zeros}
use Rattle.meaning.specs.Ladder.{record_of, type_at, record_bits}
use Rattle.meaning.specs.Cuts.{rebuilt, joined, cut}
use Rattle.meaning.specs.CutCalls.{is_cut, cut_bits, cut_of}
use Rattle.meaning.proofs.Records.{bits_unit}
use Rattle.nodes.specs.Reading.{Reads}
use Rattle.nodes.specs.declared.Node.{Node}
use Rattle.bits.specs.Runs.{Run}
use Rattle.bits.proofs.Lent.{record_length}
use Rattle.checked.specs.Passed.{Named}
use Rattle.tables.specs.declared.Kind.{Kind}
use Rattle.tables.specs.Kinds.{kind_no}
use Rattle.checked.proofs.Lent.{part_run}
use Rattle.checked.proofs.Nodes.{own_width, side_read, same_class, other_class}
use Rattle.laws.proofs.CutSides.{side, wrapped}
use Rattle.laws.proofs.CutRules.{cut_same, cut_unit, cut_product}
use Rattle.laws.proofs.CutLaws.{length_cut}
use Rattle.prune_sides.specs.Sides.{UnderTag, Sums, TakenSide}
use Rattle.prune_sides.specs.declared.Payload.{Payload}
use Rattle.prune_sides.specs.declared.Taken.{Taken}
use Rattle.prune_sides.proofs.CutSteps.{cut_tag, cut_unlike, tag_run, within_run, first_run, second_run, cut_is, wrapped_bits}
use Rattle.prune_sides.proofs.CutSteps.{is_cut_rebuilt, is_cut_joined}
use Rattle.prune_sides.proofs.Sides.{sum_bits, some_bits_lem, before_some, Under, under, Parts, parts}

-- The record that a walk was sent to can be cut to its target.
abbrev pub cuts : Table → List ℕ → ℕ → ℕ → ℕ → Bool
cuts t src at given target = is_cut (cut_of t (record_of src at given) target)

-- A walk whose record's node and whose target were read: both are within the limits, and the record lies within the bytes.
pub record Step (t : Table) (src : List ℕ) (at given target : ℕ) (given-node target-node : Node) : Type 0 where
  pub given_named : Named t given
  pub target_named : Named t target
  pub run : Run src at (bits (type_at t given))
  pub given_read : Reads t given given-node
  pub target_read : Reads t target target-node

pub step_of : {t : Table} {src : List ℕ} {at given target : ℕ} {given-node target-node : Node} → Named t given → Named t target
    → Run src at (bits (type_at t given)) → Reads t given given-node → Reads t target target-node
    → Step t src at given target given-node target-node
step_of a b r e f = record { given_named = a; target_named = b; run = r; given_read = e; target_read = f }

module _ (t : Table) (src : List ℕ) (at given : ℕ) (r : Run src at (bits (type_at t given))) where
  pub record-bits : length (record_bits t (record_of src at given)) ≡ bits (type_at t given)
  record-bits = record_length t (record_of src at given) r.inside

  pub cut-bits : (target : ℕ) → cuts t src at given target ≡ true
      → length (cut_bits (cut_of t (record_of src at given) target)) ≡ bits (type_at t target)
  cut-bits target h =
      length_cut (type_at t target) (type_at t given) (record_bits t (record_of src at given)) (cut_bits (cut_of t (record_of src at given) target))
      record-bits (cut_is (cut_of t (record_of src at given) target) h)

-- ---- Where no further walk is needed

-- Kinds that cannot differ are equal.
kinds_equal : (k l : Kind) → ((k ≡ l → ⊥) → ⊥) → k ≡ l
kinds_equal Kind.Unit Kind.Unit f = refl
kinds_equal Kind.Unit Kind.Sum f = absurd (f (λ e. omega (arith, ap kind_no e)))
kinds_equal Kind.Unit Kind.Product f = absurd (f (λ e. omega (arith, ap kind_no e)))
kinds_equal Kind.Sum Kind.Unit f = absurd (f (λ e. omega (arith, ap kind_no e)))
kinds_equal Kind.Sum Kind.Sum f = refl
kinds_equal Kind.Sum Kind.Product f = absurd (f (λ e. omega (arith, ap kind_no e)))
kinds_equal Kind.Product Kind.Unit f = absurd (f (λ e. omega (arith, ap kind_no e)))
kinds_equal Kind.Product Kind.Sum f = absurd (f (λ e. omega (arith, ap kind_no e)))
kinds_equal Kind.Product Kind.Product f = refl

module _ {t : Table} {src : List ℕ} {at given target : ℕ} {given-node target-node : Node} (s : Step t src at given target given-node target-node) where
  -- Equal class is equal type.
  equal_trees : target-node.class ≡ given-node.class → type_at t target ≡ type_at t given
  equal_trees e = same_class t target given target-node given-node s.target_read s.given_read e

  pub step_equal : target-node.class ≡ given-node.class → cut_of t (record_of src at given) target ≡ some (record_bits t (record_of src at given))
  step_equal e =
      let v = record_bits t (record_of src at given) in
      ap (λ (a : Ty). cut a (type_at t given) v) (equal_trees e) ∙ cut_same (type_at t given) v

  pub equal_bits : target-node.class ≡ given-node.class → bits (type_at t given) ≡ bits (type_at t target)
  equal_bits e = ap bits (sym (equal_trees e))

  pub equal_width : target-node.class ≡ given-node.class → target-node.width ≡ bits (type_at t given)
  equal_width e = own_width t target target-node s.target_read s.target_named ∙ ap bits (equal_trees e)

  pub step_unit : target-node.kind ≡ Kind.Unit → cut_of t (record_of src at given) target ≡ some []
  step_unit e =
      let v = record_bits t (record_of src at given) in
      ap (λ (a : Ty). cut a (type_at t given) v)
      (s.target_read.tree ∙ ap (λ (k : Kind). tables.node (kind_no k) (type_at t target-node.left) (type_at t target-node.right)) e)
      ∙ cut_unit (type_at t given) v (record-bits t src at given s.run)

  pub unit_width : target-node.kind ≡ Kind.Unit → bits (type_at t target) ≡ 0
  unit_width e =
      ap bits (s.target_read.tree ∙ ap (λ (k : Kind). tables.node (kind_no k) (type_at t target-node.left) (type_at t target-node.right)) e) ∙ bits_unit

  -- A target with sides cuts no record of another kind.
  pub step_unlike : {k : Kind} → target-node.kind ≡ k → 1 ≤ kind_no k → (given-node.kind ≡ k → ⊥) → cut_of t (record_of src at given) target ≡ none
  step_unlike e inner other =
      let v = record_bits t (record_of src at given) in
      ap₂ (λ (a b : Ty). cut a b v) s.target_read.tree s.given_read.tree
      ∙ cut_unlike target-node.kind given-node.kind (type_at t target-node.left) (type_at t target-node.right)
      (type_at t given-node.left) (type_at t given-node.right) v (λ u. omega (arith, ap kind_no (sym e ∙ u))) (λ d. other (sym d ∙ e))

  -- Where a target with sides is accepted, the record's type is of its kind.
  pub step_like : {k : Kind} → target-node.kind ≡ k → 1 ≤ kind_no k → cuts t src at given target ≡ true → given-node.kind ≡ k
  step_like {k} e inner h = kinds_equal given-node.kind k (λ other. false≢true (sym (ap is_cut (step_unlike e inner other)) ∙ h))

  -- Other classes are other types.
  other_trees : (x y : Ty) → type_at t target ≡ x → type_at t given ≡ y → (target-node.class ≡ given-node.class → ⊥) → same x y ≡ false
  other_trees x y e f n = sym (ap₂ same e f) ∙ other_class t target given target-node given-node s.target_read s.given_read n

-- ---- A sum

-- A step at a sum: the classes differ, both are sums, and g is the tag; p and q are the payloads of record and target.
pub record SumStep (t : Table) (src : List ℕ) (at given target : ℕ) (given-node target-node : Node) (g : Bool) (p q : Payload) : Type 0 where
  pub step : Step t src at given target given-node target-node
  pub differ : target-node.class ≡ given-node.class → ⊥
  pub target_sum : target-node.kind ≡ Kind.Sum
  pub given_sum : given-node.kind ≡ Kind.Sum
  pub tag_is : g ≡ get_or (bits_of src) at false
  pub from : UnderTag given-node g p
  pub to : UnderTag target-node g q

pub sum_step_of : {t : Table} {src : List ℕ} {at given target : ℕ} {given-node target-node : Node} {s : Taken}
    → Step t src at given target given-node target-node → (target-node.class ≡ given-node.class → ⊥) → target-node.kind ≡ Kind.Sum
    → given-node.kind ≡ Kind.Sum → TakenSide src at given-node target-node s
    → SumStep t src at given target given-node target-node s.tag s.given s.target
sum_step_of p n one like taken =
    record { step = p; differ = n; target_sum = one; given_sum = like; tag_is = taken.tag_is; from = taken.from; to = taken.to }

-- Two nodes that were read and are sums.
pub two_sums : {t : Table} {src : List ℕ} {at given target : ℕ} {given-node target-node : Node} → Step t src at given target given-node target-node
    → target-node.kind ≡ Kind.Sum → given-node.kind ≡ Kind.Sum → Sums src at given-node target-node
two_sums {t} {src} {at} {given} {target} {given-node} {target-node} s e f =
    let n = sum_bits t given given-node s.given_read s.given_named f in
    record {
      tagged = omega (arith, s.run.inside);
      given_wide = λ g. (side_read t given given-node s.given_read s.given_named (omega (arith, ap kind_no f)) g).fits;
      target_wide = λ g. (side_read t target target-node s.target_read s.target_named (omega (arith, ap kind_no e)) g).fits;
    }

module _ {t : Table} {src : List ℕ} {at given target : ℕ} {given-node target-node : Node} {g : Bool} {p q : Payload}
    (s : SumStep t src at given target given-node target-node g p q) where
  from_under : Under t given given-node g p
  from_under = under t given given-node s.step.given_read s.step.given_named g p s.given_sum s.from

  to_under : Under t target target-node g q
  to_under = under t target target-node s.step.target_read s.step.target_named g q s.target_sum s.to

  pub step_sum : cut_of t (record_of src at given) target
      ≡ rebuilt (wrapped g (type_at t target-node.left) (type_at t target-node.right)) (cut_of t (record_of src (at + p.before) p.node) q.node)
  unfolding record_bits
  step_sum =
      let f = from_under in
      let to = to_under in
      let a = type_at t target-node.left in
      let b = type_at t target-node.right in
      let c = type_at t given-node.left in
      let d = type_at t given-node.right in
      let v = take (bits (sum c d)) (drop at (bits_of src)) in
      ap₂ (λ (x y : Ty). cut x y (take (bits y) (drop at (bits_of src)))) to.tree f.tree
      ∙ cut_tag g a b c d v
      (other_trees s.step (sum a b) (sum c d) to.tree f.tree s.differ)
      (tag_run (bits_of src) at (bits (sum c d)) (some_bits_lem c d) ∙ sym s.tag_is)
      ∙ ap (λ (x : List Bool). rebuilt (wrapped g a b) (cut (side g a b) (side g c d) x))
      (within_run (bits_of src) at g c d ∙ ap (λ (k : ℕ). take (bits (side g c d)) (drop (at + k) (bits_of src))) f.before_is)
      ∙ ap₂ (λ (x y : Ty). rebuilt (wrapped g a b) (cut x y (take (bits y) (drop (at + p.before) (bits_of src))))) to.side_is f.side_is

  pub accepts_sum : cuts t src at given target ≡ cuts t src (at + p.before) p.node q.node
  accepts_sum =
      ap is_cut step_sum
      ∙ is_cut_rebuilt (wrapped g (type_at t target-node.left) (type_at t target-node.right)) (cut_of t (record_of src (at + p.before) p.node) q.node)

  -- Record and target go on within the limits.
  pub named_sum : Named t p.node × Named t q.node
  named_sum = (from_under.named, to_under.named)

  pub run_sum : Run src (at + p.before) (bits (type_at t p.node))
  run_sum = part_run s.step.run p.before (bits (type_at t p.node)) (omega (arith, from_under.spans))

  pub falls_sum : q.node < target
  falls_sum = to_under.falls

  -- The target is its tag and padding, and then the payload.
  pub spans_sum : q.before + bits (type_at t q.node) ≡ bits (type_at t target)
  spans_sum = to_under.spans

  pub before_sum : 1 ≤ q.before
  before_sum = subst (λ (k : ℕ). 1 ≤ k) to_under.before_is (before_some g (type_at t target-node.left) (type_at t target-node.right))

  pub wrapped_sum : (x : List Bool) → wrapped g (type_at t target-node.left) (type_at t target-node.right) x ≡ g ∷ (zeros (q.before - 1) ++ x)
  wrapped_sum x =
      wrapped_bits g (type_at t target-node.left) (type_at t target-node.right) x
      ∙ ap (λ (k : ℕ). g ∷ (zeros (k - 1) ++ x)) to_under.before_is

-- ---- A product

-- A step at a product: the classes differ, and both are products.
pub record ProductStep (t : Table) (src : List ℕ) (at given target : ℕ) (given-node target-node : Node) : Type 0 where
  pub step : Step t src at given target given-node target-node
  pub differ : target-node.class ≡ given-node.class → ⊥
  pub target_product : target-node.kind ≡ Kind.Product
  pub given_product : given-node.kind ≡ Kind.Product

pub product_step_of : {t : Table} {src : List ℕ} {at given target : ℕ} {given-node target-node : Node}
    → Step t src at given target given-node target-node → (target-node.class ≡ given-node.class → ⊥) → target-node.kind ≡ Kind.Product
    → given-node.kind ≡ Kind.Product → ProductStep t src at given target given-node target-node
product_step_of p n two like = record { step = p; differ = n; target_product = two; given_product = like }

module _ {t : Table} {src : List ℕ} {at given target : ℕ} {given-node target-node : Node} (s : ProductStep t src at given target given-node target-node) where
  from_parts : Parts t given given-node
  from_parts = parts t given given-node s.step.given_read s.step.given_named s.given_product

  to_parts : Parts t target target-node
  to_parts = parts t target target-node s.step.target_read s.step.target_named s.target_product

  pub step_product : cut_of t (record_of src at given) target
      ≡ joined (cut_of t (record_of src at given-node.left) target-node.left)
      (cut_of t (record_of src (at + given-node.left_width) given-node.right) target-node.right)
  unfolding record_bits
  step_product =
      let f = from_parts in
      let to = to_parts in
      let a = type_at t target-node.left in
      let b = type_at t target-node.right in
      let c = type_at t given-node.left in
      let d = type_at t given-node.right in
      let v = take (bits (prod c d)) (drop at (bits_of src)) in
      ap₂ (λ (x y : Ty). cut x y (take (bits y) (drop at (bits_of src)))) to.tree f.tree
      ∙ cut_product a b c d v (other_trees s.step (prod a b) (prod c d) to.tree f.tree s.differ)
      ∙ ap₂ (λ (x y : List Bool). joined (cut a c x) (cut b d y)) (first_run (bits_of src) at c d)
      (second_run (bits_of src) at c d ∙ ap (λ (k : ℕ). take (bits d) (drop (at + k) (bits_of src))) f.first_is)

  pub accepts_product : cuts t src at given target
      ≡ (cuts t src at given-node.left target-node.left && cuts t src (at + given-node.left_width) given-node.right target-node.right)
  accepts_product =
      ap is_cut step_product
      ∙ is_cut_joined (cut_of t (record_of src at given-node.left) target-node.left)
      (cut_of t (record_of src (at + given-node.left_width) given-node.right) target-node.right)

  -- A first part that cannot be cut decides; else the second does.
  pub first_decides : (r : Bool) → r ≡ cuts t src at given-node.left target-node.left → r ≡ false → false ≡ cuts t src at given target
  first_decides r e n =
      sym
      (accepts_product
      ∙ ap (λ (x : Bool). x && cuts t src (at + given-node.left_width) given-node.right target-node.right) (sym e ∙ n))

  pub second_decides : (r x : Bool) → r ≡ cuts t src at given-node.left target-node.left → r ≡ true
      → x ≡ cuts t src (at + given-node.left_width) given-node.right target-node.right → x ≡ cuts t src at given target
  second_decides r x e n f =
      f
      ∙ sym
      (accepts_product
      ∙ ap (λ (y : Bool). y && cuts t src (at + given-node.left_width) given-node.right target-node.right) (sym e ∙ n))

  pub named_first : Named t given-node.left × Named t target-node.left
  named_first = (from_parts.first_named, to_parts.first_named)

  pub named_second : Named t given-node.right × Named t target-node.right
  named_second = (from_parts.second_named, to_parts.second_named)

  pub run_first : Run src at (bits (type_at t given-node.left))
  run_first =
      let r = s.step.run in
      let e = from_parts.spans in
      let n = from_parts.first_is in
      record { inside = omega (arith, r.inside); counted = omega (arith, r.counted) }

  pub run_second : Run src (at + given-node.left_width) (bits (type_at t given-node.right))
  run_second = part_run s.step.run given-node.left_width (bits (type_at t given-node.right)) (omega (arith, from_parts.spans))

  pub falls_first : target-node.left < target
  falls_first = to_parts.first_falls

  pub falls_second : target-node.right < target
  falls_second = to_parts.second_falls

  -- The target is its first part, and then its second.
  pub first_product : bits (type_at t target-node.left) ≡ target-node.left_width
  first_product = to_parts.first_is

  pub spans_product : target-node.left_width + bits (type_at t target-node.right) ≡ bits (type_at t target)
  spans_product = to_parts.spans
