-- Tests of shapes on a node that was read: what its kind and its sides say of its tree.
--
--   kept_kind other_kind        what a test of two kinds says, by its answer
--   passed passed_last          a test that passes leaves the others
--   read_unit                   unit is the tree of a unit's node
--   read_sum read_no_sum        against a sum: both sides, or no sum at all
--   read_prod read_no_prod      against a product
--   read_square read_uneven read_no_word    against word m, above 0: one side for both; sides that differ; no product
--   read_buffer read_no_buffer  against buffer m, above 0
--   read_state read_no_state read_no_rest   against the hash state's type: its parts; no product; none on its right
-- Assumes nothing.
use Prim.Native.Nat.{ℕ, suc, ◌-◌, ◌<◌}
use mathlib.Core.Path.{◌≡◌, refl, ap, ap₂, sym, ◌∙◌}
use mathlib.Core.Bool.{Bool, true, false, not, ◌&&◌}
use native.Mathlib.Omega.{arith}
use denote.Enum.Bare.{sameb}
use Rattle.meaning.specs.Types.{Ty, unit, sum, prod, same}
use Rattle.meaning.specs.Tables.{Table, node, ty_at}
use Rattle.meaning.specs.Words.{word, is_word, segment, buffer, ctx8}
use Rattle.meaning.proofs.Tests.{and_left, and_right, and_no_left, and_no_right}
use Rattle.meaning.proofs.Words.{is_word_word, is_word_same}
use Rattle.tables.specs.declared.Kind.{Kind}
use Rattle.tables.specs.contracts.Kind.{the_type}
use Rattle.tables.specs.Kinds.{kind_no}
use Rattle.nodes.specs.declared.Node.{Node}
use Rattle.nodes.specs.Reading.{Reads}

pub kept_kind : (b : Bool) → false ≡ not b → b ≡ true
kept_kind true e = refl
kept_kind false e = e

pub other_kind : (b : Bool) → true ≡ not b → b ≡ false
other_kind true e = e
other_kind false e = refl

-- A tree against each shape, by the kind of its node.
unit_shape : (k : Kind) (a b : Ty) → same (node (kind_no k) a b) unit ≡ sameb the_type k Kind.Unit
unfolding same
unit_shape Kind.Unit a b = refl
unit_shape Kind.Sum a b = refl
unit_shape Kind.Product a b = refl

sum_shape : (k : Kind) (a b x y : Ty) → same (node (kind_no k) a b) (sum x y) ≡ (sameb the_type k Kind.Sum && (same a x && same b y))
unfolding same
sum_shape Kind.Unit a b x y = refl
sum_shape Kind.Sum a b x y = refl
sum_shape Kind.Product a b x y = refl

prod_shape : (k : Kind) (a b x y : Ty) → same (node (kind_no k) a b) (prod x y) ≡ (sameb the_type k Kind.Product && (same a x && same b y))
unfolding same
prod_shape Kind.Unit a b x y = refl
prod_shape Kind.Sum a b x y = refl
prod_shape Kind.Product a b x y = refl

word_shape : (k : Kind) (a b : Ty) (n : ℕ) → is_word (suc n) (node (kind_no k) a b) ≡ (sameb the_type k Kind.Product && (is_word n a && is_word n b))
unfolding is_word
word_shape Kind.Unit a b n = refl
word_shape Kind.Sum a b n = refl
word_shape Kind.Product a b n = refl

-- A test of both sides of a product, where they are one tree.
twice : (p : Bool) → (p && p) ≡ p
twice true = refl
twice false = refl

refuted : (p : Bool) → (p ≡ true → ⊥) → p ≡ false
refuted true g = absurd (g refl)
refuted false g = refl

-- A first test that passes leaves the others.
pub passed : {p q : Bool} → p ≡ true → (p && q) ≡ q
passed {q = q} e = ap (λ b. b && q) e

pub passed_last : (p : Bool) {q : Bool} → q ≡ true → (p && q) ≡ p
passed_last true e = e
passed_last false e = refl

-- A number above 0 is one more than the number before it.
one_less : (n : ℕ) → 0 < n → n ≡ suc (n - 1)
one_less n h = omega arith

module _ (t : Table) {n : ℕ} {r : Node} (h : Reads t n r) where
  abbrev whole : Ty
  whole = ty_at t.columns n

  abbrev left : Ty
  left = ty_at t.columns r.left

  abbrev right : Ty
  right = ty_at t.columns r.right

  pub read_unit : same (ty_at t.columns n) unit ≡ sameb the_type r.kind Kind.Unit
  read_unit = ap (λ z. same z unit) h.tree ∙ unit_shape r.kind left right

  by_sum : (x y : Ty) → same whole (sum x y) ≡ (sameb the_type r.kind Kind.Sum && (same left x && same right y))
  by_sum x y = ap (λ z. same z (sum x y)) h.tree ∙ sum_shape r.kind left right x y

  pub read_sum : (x y : Ty) → sameb the_type r.kind Kind.Sum ≡ true
      → same (ty_at t.columns n) (sum x y) ≡ (same (ty_at t.columns r.left) x && same (ty_at t.columns r.right) y)
  read_sum x y e = by_sum x y ∙ passed e

  pub read_no_sum : (x y : Ty) → sameb the_type r.kind Kind.Sum ≡ false → same (ty_at t.columns n) (sum x y) ≡ false
  read_no_sum x y e = by_sum x y ∙ and_no_left _ _ e

  by_prod : (x y : Ty) → same whole (prod x y) ≡ (sameb the_type r.kind Kind.Product && (same left x && same right y))
  by_prod x y = ap (λ z. same z (prod x y)) h.tree ∙ prod_shape r.kind left right x y

  pub read_prod : (x y : Ty) → sameb the_type r.kind Kind.Product ≡ true
      → same (ty_at t.columns n) (prod x y) ≡ (same (ty_at t.columns r.left) x && same (ty_at t.columns r.right) y)
  read_prod x y e = by_prod x y ∙ passed e

  pub read_no_prod : (x y : Ty) → sameb the_type r.kind Kind.Product ≡ false → same (ty_at t.columns n) (prod x y) ≡ false
  read_no_prod x y e = by_prod x y ∙ and_no_left _ _ e

  by_word : (m : ℕ) → 0 < m → is_word m whole ≡ (sameb the_type r.kind Kind.Product && (is_word (m - 1) left && is_word (m - 1) right))
  by_word m p = ap₂ is_word (one_less m p) h.tree ∙ word_shape r.kind left right (m - 1)

  pub read_no_word : (m : ℕ) → 0 < m → sameb the_type r.kind Kind.Product ≡ false → is_word m (ty_at t.columns n) ≡ false
  read_no_word m p e = by_word m p ∙ and_no_left _ _ e

  pub read_square : (m : ℕ) → 0 < m → sameb the_type r.kind Kind.Product ≡ true → ty_at t.columns r.left ≡ ty_at t.columns r.right
      → is_word m (ty_at t.columns n) ≡ is_word (m - 1) (ty_at t.columns r.left)
  read_square m p e s =
      by_word m p ∙ passed e ∙ ap (λ z. is_word (m - 1) left && is_word (m - 1) z) (sym s) ∙ twice (is_word (m - 1) left)

  pub read_uneven : (m : ℕ) → 0 < m → sameb the_type r.kind Kind.Product ≡ true → (ty_at t.columns r.left ≡ ty_at t.columns r.right → ⊥)
      → is_word m (ty_at t.columns n) ≡ false
  read_uneven m p e f =
      by_word m p
      ∙ passed e
      ∙ refuted (is_word (m - 1) left && is_word (m - 1) right)
      (λ g. f (is_word_word (m - 1) left (and_left _ _ g) ∙ sym (is_word_word (m - 1) right (and_right _ _ g))))

  pub read_buffer : (m : ℕ) → 0 < m → sameb the_type r.kind Kind.Product ≡ true
      → same (ty_at t.columns n) (buffer m)
      ≡ (same (ty_at t.columns r.left) (segment m) && same (ty_at t.columns r.right) (buffer (m - 1)))
  unfolding buffer
  read_buffer m p e =
      ap (λ (k : ℕ). same whole (buffer k)) (one_less m p)
      ∙ read_prod (segment (suc (m - 1))) (buffer (m - 1)) e
      ∙ ap (λ (k : ℕ). same left (segment k) && same right (buffer (m - 1))) (sym (one_less m p))

  pub read_no_buffer : (m : ℕ) → 0 < m → sameb the_type r.kind Kind.Product ≡ false → same (ty_at t.columns n) (buffer m) ≡ false
  unfolding buffer
  read_no_buffer m p e = ap (λ (k : ℕ). same whole (buffer k)) (one_less m p) ∙ read_no_prod (segment (suc (m - 1))) (buffer (m - 1)) e

-- Against the hash state's type: a product whose right side was read too.
module _ (t : Table) {n : ℕ} {r q : Node} (h : Reads t n r) (g : Reads t r.right q) (e : sameb the_type r.kind Kind.Product ≡ true) where
  pub read_state : sameb the_type q.kind Kind.Product ≡ true
      → same (ty_at t.columns n) ctx8
      ≡ (same (ty_at t.columns r.left) (buffer 5)
      && (is_word 6 (ty_at t.columns q.left) && is_word 8 (ty_at t.columns q.right)))
  unfolding ctx8
  read_state f =
      read_prod t h (buffer 5) (prod (word 6) (word 8)) e
      ∙ ap (λ b. same (ty_at t.columns r.left) (buffer 5) && b)
      (read_prod t g (word 6) (word 8) f
      ∙ ap₂ ◌&&◌ (sym (is_word_same 6 (ty_at t.columns q.left))) (sym (is_word_same 8 (ty_at t.columns q.right))))

  pub read_no_rest : sameb the_type q.kind Kind.Product ≡ false → same (ty_at t.columns n) ctx8 ≡ false
  unfolding ctx8
  read_no_rest f =
      read_prod t h (buffer 5) (prod (word 6) (word 8)) e ∙ and_no_right _ _ (read_no_prod t g (word 6) (word 8) f)

pub read_no_state : (t : Table) {n : ℕ} {r : Node} → Reads t n r → sameb the_type r.kind Kind.Product ≡ false
    → same (ty_at t.columns n) ctx8 ≡ false
unfolding ctx8
read_no_state t h f = read_no_prod t h (buffer 5) (prod (word 6) (word 8)) f
