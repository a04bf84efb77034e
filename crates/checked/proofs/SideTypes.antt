-- The sides of a node of a sound table: their types, and that they are within the limits where the node is.
--
--   sum_tree prod_tree              the type of a sum, and of a product, by the columns
--   prod_sides                      a node whose type is this product has its sides' types
--   sum_named prod_named            both sides of a node within the limits are
--   side_type_is side_named         one side of a sum, over the tag
-- Assumes nothing.
use Prim.Native.Nat.{ℕ, zero, suc, ◌+◌, ◌≤◌, max}
use mathlib.Core.Path.{◌≡◌, refl, sym, ap, ◌∙◌, subst}
use mathlib.Core.Bool.{Bool, true, false, false≢true}
use native.Mathlib.Omega.{arith}
use Rattle.meaning.specs.Types.{Ty, sum, prod, bits, size, is_sum, is_prod, left_side, right_side}
use Rattle.meaning.specs.Tables.{Table, kind, left, right, node}
use Rattle.meaning.specs.Ladder.{type_at}
use Rattle.meaning.proofs.Types.{size_top}
use Rattle.meaning.proofs.Records.{bits_sum, bits_prod}
use Rattle.meaning.proofs.Sounds.{sound_tree, sound_left, sound_right_side}
use Rattle.checked.specs.Passed.{Named}
use Rattle.checked.specs.Sides.{side_node, side_type}

-- A kind whose type is a sum, or a product, is that of one.
sum_kind : (k : ℕ) (a b : Ty) → is_sum (node k a b) ≡ true → node k a b ≡ sum a b
sum_kind zero a b h = absurd (false≢true h)
sum_kind (suc zero) a b h = refl
sum_kind (suc (suc k)) a b h = absurd (false≢true h)

prod_kind : (k : ℕ) (a b : Ty) → is_prod (node k a b) ≡ true → node k a b ≡ prod a b
prod_kind zero a b h = absurd (false≢true h)
prod_kind (suc zero) a b h = absurd (false≢true h)
prod_kind (suc (suc k)) a b h = refl

-- A side is no larger than the whole.
sum_size : (a b : Ty) → (size a ≤ size (sum a b)) × (size b ≤ size (sum a b))
unfolding size
sum_size a b = let p = size_top a in let q = size_top b in (omega arith, omega arith)

prod_size : (a b : Ty) → (size a ≤ size (prod a b)) × (size b ≤ size (prod a b))
unfolding size
prod_size a b = let p = size_top a in let q = size_top b in (omega arith, omega arith)

module _ (t : Table) (n : ℕ) (h : Named t n) where
  -- The types of the two sides, as the columns have them.
  abbrev a : Ty
  a = type_at t (left t.columns n)

  abbrev b : Ty
  b = type_at t (right t.columns n)

  tree : type_at t n ≡ node (kind t.columns n) a b
  tree = sound_tree t h.sound n h.here

  pub sum_tree : is_sum (type_at t n) ≡ true → type_at t n ≡ sum a b
  sum_tree e = tree ∙ sum_kind (kind t.columns n) a b (ap is_sum (sym tree) ∙ e)

  pub prod_tree : is_prod (type_at t n) ≡ true → type_at t n ≡ prod a b
  prod_tree e = tree ∙ prod_kind (kind t.columns n) a b (ap is_prod (sym tree) ∙ e)

  pub prod_sides : (x y : Ty) → type_at t n ≡ prod x y → (type_at t (left t.columns n) ≡ x) × (type_at t (right t.columns n) ≡ y)
  prod_sides x y e = let f = sym (prod_tree (ap is_prod e)) ∙ e in (ap left_side f, ap right_side f)

  sides_named : (bits a ≤ bits (type_at t n)) × (bits b ≤ bits (type_at t n)) → (size a ≤ size (type_at t n)) × (size b ≤ size (type_at t n))
      → Named t (left t.columns n) × Named t (right t.columns n)
  sides_named w z = (
    record { sound = h.sound; here = sound_left t h.sound n h.here; narrow = omega (arith, h.narrow, w.0); few = omega (arith, h.few, z.0) },
    record { sound = h.sound; here = sound_right_side t h.sound n h.here; narrow = omega (arith, h.narrow, w.1); few = omega (arith, h.few, z.1) },
  )

  pub sum_named : is_sum (type_at t n) ≡ true → Named t (left t.columns n) × Named t (right t.columns n)
  sum_named e =
      let w : bits (type_at t n) ≡ suc (max (bits a) (bits b)) = ap bits (sum_tree e) ∙ bits_sum a b in
      sides_named (omega arith, omega arith) (subst (λ (x : Ty). (size a ≤ size x) × (size b ≤ size x)) (sym (sum_tree e)) (sum_size a b))

  pub prod_named : is_prod (type_at t n) ≡ true → Named t (left t.columns n) × Named t (right t.columns n)
  prod_named e =
      let w : bits (type_at t n) ≡ bits a + bits b = ap bits (prod_tree e) ∙ bits_prod a b in
      sides_named (omega arith, omega arith) (subst (λ (x : Ty). (size a ≤ size x) × (size b ≤ size x)) (sym (prod_tree e)) (prod_size a b))

  -- One side of a sum, over the tag.
  pub side_type_is : is_sum (type_at t n) ≡ true → (g : Bool) → type_at t (side_node g t.columns n) ≡ side_type g (type_at t n)
  side_type_is e true = sym (ap right_side (sum_tree e))
  side_type_is e false = sym (ap left_side (sum_tree e))

  pub side_named : is_sum (type_at t n) ≡ true → (g : Bool) → Named t (side_node g t.columns n)
  side_named e true = (sum_named e).1
  side_named e false = (sum_named e).0
