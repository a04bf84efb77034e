-- What the facts of the nodes of a sound table say of types, as the questions answer it.
--
--   unit_kind sum_kind product_kind     a type is unit, a sum, a product by its kind
--   unit_told empty_told sum_told product_told  the questions about a node whose facts are told
--   padding_told                the padding of two nodes, from their widths
--   padding_swapped             the padding of right records is that of left ones, the other way round
-- Assumes nothing.
use Prim.Native.Nat.{ℕ, zero, suc, ◌-◌, ◌≤◌, max}
use mathlib.Core.Path.{◌≡◌, refl, ap, ap₂, sym, ◌∙◌}
use mathlib.Core.Bool.{Bool}
use mathlib.Core.List.{[], ◌∷◌}
use native.Mathlib.Nat.{max_comm}
use native.Mathlib.Omega.{arith}
use lib.Dec.{eqb}
use borrow.Author.Tests.{eq-eqb, ne_eqb}
use Rattle.meaning.specs.Types.{Ty, width, is_unit, is_sum, is_prod}
use Rattle.meaning.specs.Tables.{Table, NodeFacts, kind, left, right, node, ty_at}
use Rattle.meaning.specs.Ladder.{accepted, ladder, type_at, shaped}
use Rattle.meaning.specs.TypeCalls.{asks, facts_of_call, is_unit_call, is_empty_call, sides_at, type_as_sum_call, type_as_product_call, pad_left_call, pad_right_call}
use Rattle.meaning.proofs.Sounds.{sound_tree, sound_kind}
use Rattle.checked.specs.Passed.{Present}
use Rattle.checked_present.proofs.Asking.{judged, answered, asks_swapped}
use Rattle.checked.proofs.Told.{own_facts, told_pass, told_answered}

-- The kinds.
is-unit : (k : ℕ) (a b : Ty) → eqb k 0 ≡ is_unit (node k a b)
is-unit zero a b = refl
is-unit (suc zero) a b = refl
is-unit (suc (suc k)) a b = ne_eqb (suc (suc k)) 0 (λ e. omega arith)

is_sum_lem : (k : ℕ) (a b : Ty) → eqb k 1 ≡ is_sum (node k a b)
is_sum_lem zero a b = refl
is_sum_lem (suc zero) a b = refl
is_sum_lem (suc (suc k)) a b = ne_eqb (suc (suc k)) 1 (λ e. omega arith)

is_product : (k : ℕ) (a b : Ty) → k ≤ 2 → eqb k 2 ≡ is_prod (node k a b)
is_product zero a b h = refl
is_product (suc zero) a b h = refl
is_product (suc (suc k)) a b h = eq-eqb (suc (suc k)) 2 (omega arith)

module _ (t : Table) (n : ℕ) (h : Present t n) where
  -- The sides' trees.
  l_side : Ty
  l_side = ty_at t.columns (left t.columns n)

  r_side : Ty
  r_side = ty_at t.columns (right t.columns n)

  pub unit_kind : eqb (kind t.columns n) 0 ≡ is_unit (ty_at t.columns n)
  unfolding l_side r_side
  unit_kind = is-unit (kind t.columns n) l_side r_side ∙ ap is_unit (sym (sound_tree t h.sound n h.here))

  pub sum_kind : eqb (kind t.columns n) 1 ≡ is_sum (ty_at t.columns n)
  unfolding l_side r_side
  sum_kind = is_sum_lem (kind t.columns n) l_side r_side ∙ ap is_sum (sym (sound_tree t h.sound n h.here))

  pub product_kind : eqb (kind t.columns n) 2 ≡ is_prod (ty_at t.columns n)
  unfolding l_side r_side
  product_kind = is_product (kind t.columns n) l_side r_side (sound_kind t h.sound n h.here) ∙ ap is_prod (sym (sound_tree t h.sound n h.here))

-- The questions about one node, from its facts.
module _ (t : Table) (n : ℕ) {f : NodeFacts} (h : accepted f ≡ facts_of_call t n) where
  pub unit_told : accepted (eqb f.kind_of 0) ≡ is_unit_call t n
  unit_told =
      let k = own_facts t n h in
      told_answered t n h (is_unit (type_at t n)) (eqb f.kind_of 0)
      (ap (λ g. eqb g.kind_of 0) k.facts_are ∙ unit_kind t n k.of_node)

  pub empty_told : accepted (eqb f.width_of 0) ≡ is_empty_call t n
  empty_told =
      told_answered t n h (eqb (width (type_at t n)) 0) (eqb f.width_of 0) (ap (λ g. eqb g.width_of 0) (own_facts t n h).facts_are)

  -- The sides, if the test of the kind is right.
  sides_told : (k : ℕ) (right_shape : Bool) → eqb (kind t.columns n) k ≡ right_shape
      → ladder (shaped (eqb f.kind_of k)) (record { left_node = f.left_node; right_node = f.right_node }) ≡ asks t (n ∷ []) (shaped right_shape) (sides_at t n)
  sides_told k right_shape e =
      ap (λ g. ladder (shaped (eqb g.kind_of k)) (record { left_node = g.left_node; right_node = g.right_node })) (own_facts t n h).facts_are
      ∙ ap (λ b. ladder (shaped b) (sides_at t n)) e
      ∙ told_pass t n h (shaped right_shape) (sides_at t n)

  pub sum_told : ladder (shaped (eqb f.kind_of 1)) (record { left_node = f.left_node; right_node = f.right_node }) ≡ type_as_sum_call t n
  sum_told = let k = own_facts t n h in sides_told 1 (is_sum (type_at t n)) (sum_kind t n k.of_node)

  pub product_told : ladder (shaped (eqb f.kind_of 2)) (record { left_node = f.left_node; right_node = f.right_node }) ≡ type_as_product_call t n
  product_told = let k = own_facts t n h in sides_told 2 (is_prod (type_at t n)) (product_kind t n k.of_node)

-- The padding of two nodes, from their widths as they were read from the table u, which equals the table t that was asked.
pub padding_told : (t u : Table) → u ≡ t → (a b : ℕ) → accepted (tt {0}) ≡ judged t (a ∷ b ∷ []) → {x y : ℕ} → x ≡ width (type_at u a)
    → y ≡ width (type_at u b) → (r : ℕ) → r ≡ max x y - x → accepted r ≡ pad_left_call t a b
padding_told t u s a b h e f r d =
    answered t (a ∷ b ∷ []) (max (width (type_at t a)) (width (type_at t b)) - width (type_at t a)) r h
    (d ∙ ap₂ (λ x y. max x y - x) (e ∙ ap (λ (v : Table). width (type_at v a)) s) (f ∙ ap (λ (v : Table). width (type_at v b)) s))

pub padding_swapped : (t : Table) (a b : ℕ) → pad_left_call t b a ≡ pad_right_call t a b
padding_swapped t a b =
    asks_swapped t a b (max (width (type_at t b)) (width (type_at t a)) - width (type_at t b))
    (max (width (type_at t a)) (width (type_at t b)) - width (type_at t b))
    (ap (λ m. m - width (type_at t b)) (max_comm (width (type_at t b)) (width (type_at t a))))
