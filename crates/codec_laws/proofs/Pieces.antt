-- The compact bits of a record that begins at a bit of a list of bits, piece by piece. The record is as much of the list as the type is wide.
--
--   compact_take              what follows the record does not matter
--   compact_run               without padding it is one run of bits
--   compact_right compact_left      a tag and the payload's, which lies at the end
--   compact_both              those of the first part, then those of the second
--   node_run node_run_length node_tagged node_both      the same of a node that was read
-- Assumes nothing.
use mathlib.Core.Path.{◌≡◌, refl, sym, ap, ap₂, ◌∙◌}
use mathlib.Core.Bool.{Bool, true, false, cond}
use mathlib.Core.List.{List, ◌∷◌, ◌++◌}
use Prim.Native.Nat.{ℕ, ◌+◌, ◌-◌, ◌≤◌, ◌<◌}
use native.Mathlib.Nat.{add-zero}
use native.Mathlib.Omega.{arith}
use lib.ListN.{length, take, drop, get_or, length-drop}
use Rattle.std.proofs.lemmas.List.{drop-take}
use lib.Seq.{drop-drop, take-take, get_or-take, get_or-drop, length-take-le}
use Rattle.meaning.specs.Types.{Ty, unit, sum, prod, bits, width, padded, top}
use Rattle.meaning.specs.Records.{tag, pad_left, pad_right, left_of, right_of, second_of, compact}
use Rattle.meaning.proofs.Records.{bits_sum, bits_prod, unpadded_compact}
use Rattle.meaning.proofs.Tests.{cond_true, cond_false}
use Rattle.meaning.specs.Tables.{Table, ty_at}
use Rattle.tables.specs.declared.Kind.{Kind}
use Rattle.nodes.specs.declared.Node.{Node}
use Rattle.nodes.specs.declared.Side.{Side}
use Rattle.nodes.specs.Reading.{side_of}
use Rattle.codec_laws.proofs.Nodes.{NodeRead, own_width, low, is_sum_lem, is-prod, side}

-- The end of a record, from bit k on, where n bits follow.
end_of : (w k n : ℕ) (v : List Bool) → w ≡ k + n → drop k (take w v) ≡ take n (drop k v)
end_of w k n v e = ap (λ (j : ℕ). drop k (take j v)) e ∙ drop-take k n v

pub compact_take : (t : Ty) (v : List Bool) → compact t (take (bits t) v) ≡ compact t v
unfolding compact
compact_take unit v = refl
compact_take (sum a b) v =
    let w = bits (sum a b) in
    let e = bits_sum a b in
    let l : w ≡ 1 + pad_left a b + bits a = omega arith in
    let r : w ≡ 1 + pad_right a b + bits b = omega arith in
    let g : 0 < w = omega arith in
    ap₂ (λ (c : Bool) (x : List Bool). cond c (true ∷ compact b (right_of a b (take w v))) (false ∷ x))
    (get_or-take w v 0 false g)
    (ap (compact a) (end_of w (1 + pad_left a b) (bits a) v l) ∙ compact_take a (left_of a b v))
    ∙ ap (λ (x : List Bool). cond (tag v) (true ∷ x) (false ∷ compact a (left_of a b v)))
    (ap (compact b) (end_of w (1 + pad_right a b) (bits b) v r) ∙ compact_take b (right_of a b v))
compact_take (prod a b) v =
    let e = bits_prod a b in
    let h : bits a ≤ bits (prod a b) = omega arith in
    ap₂ (λ (x y : List Bool). compact a x ++ y) (take-take (bits a) (bits (prod a b)) v h)
    (ap (compact b) (end_of (bits (prod a b)) (bits a) (bits b) v e) ∙ compact_take b (second_of a v))

-- The first bit of what begins at a bit.
first_bit : (s : List Bool) (at : ℕ) → tag (drop at s) ≡ get_or s at false
first_bit s at = get_or-drop at s 0 false ∙ ap (λ (i : ℕ). get_or s i false) (add-zero at)

-- What lies k bits after a bit.
later : (s : List Bool) (at k next : ℕ) → next ≡ at + k → drop k (drop at s) ≡ drop next s
later s at k next n = drop-drop k at s ∙ ap (λ (i : ℕ). drop i s) (sym n)

module _ (whole a b : Ty) (s : List Bool) (at next : ℕ) where
  pub compact_right : whole ≡ sum a b → get_or s at false ≡ true → next ≡ at + (1 + pad_right a b)
      → compact whole (drop at s) ≡ true ∷ compact b (drop next s)
  unfolding compact
  compact_right e t n =
      ap (λ (x : Ty). compact x (drop at s)) e
      ∙ cond_true (tag (drop at s)) (true ∷ compact b (right_of a b (drop at s))) (false ∷ compact a (left_of a b (drop at s))) (first_bit s at ∙ t)
      ∙ ap (λ (v : List Bool). true ∷ compact b v) (later s at (1 + pad_right a b) next n)

  pub compact_left : whole ≡ sum a b → get_or s at false ≡ false → next ≡ at + (1 + pad_left a b)
      → compact whole (drop at s) ≡ false ∷ compact a (drop next s)
  unfolding compact
  compact_left e t n =
      ap (λ (x : Ty). compact x (drop at s)) e
      ∙ cond_false (tag (drop at s)) (true ∷ compact b (right_of a b (drop at s))) (false ∷ compact a (left_of a b (drop at s))) (first_bit s at ∙ t)
      ∙ ap (λ (v : List Bool). false ∷ compact a v) (later s at (1 + pad_left a b) next n)

  pub compact_both : whole ≡ prod a b → next ≡ at + bits a → compact whole (drop at s) ≡ compact a (drop at s) ++ compact b (drop next s)
  unfolding compact
  compact_both e n =
      ap (λ (x : Ty). compact x (drop at s)) e
      ∙ ap₂ (λ (x y : List Bool). x ++ compact b y) (compact_take a (drop at s)) (later s at (bits a) next n)

pub compact_run : (t : Ty) (s : List Bool) (at : ℕ) → padded t ≡ false → width t < top → at + bits t ≤ length s
    → compact t (drop at s) ≡ take (bits t) (drop at s)
compact_run t s at p l h =
    sym (compact_take t (drop at s))
    ∙ unpadded_compact t (take (bits t) (drop at s)) p l (length-take-le (bits t) (drop at s) (omega (arith, length-drop at s)))

-- The same of a node that was read, in the bits s from bit `at` on.
module _ {t : Table} {n : ℕ} {r : Node} (h : NodeRead t n r) (s : List Bool) (at : ℕ) where
  pub node_run : r.padded ≡ false → at + bits (ty_at t.columns n) ≤ length s
      → compact (ty_at t.columns n) (drop at s) ≡ take r.width (drop at s)
  node_run p i =
      compact_run (ty_at t.columns n) s at (sym h.reads.padded_is ∙ p) (low h) i
      ∙ ap (λ (k : ℕ). take k (drop at s)) (sym (own_width h))

  pub node_run_length : r.padded ≡ false → at + bits (ty_at t.columns n) ≤ length s
      → r.width ≡ length (compact (ty_at t.columns n) (drop at s))
  node_run_length p i =
      sym (ap length (node_run p i) ∙ length-take-le r.width (drop at s) (omega (arith, own_width h, length-drop at s)))

  module _ (p : r.padded ≡ true) where
    -- The compact bits from a tag on, if the tag takes that side.
    abbrev after_tag : Bool → Side → List Bool
    after_tag c x = c ∷ compact (ty_at t.columns x.node) (drop (at + (r.width - x.width)) s)

    either_tagged : r.kind ≡ Kind.Sum → (c : Bool) → get_or s at false ≡ c → compact (ty_at t.columns n) (drop at s) ≡ after_tag c (side_of c r)
    either_tagged k true e =
        let a = ty_at t.columns r.left in
        let b = ty_at t.columns r.right in
        let f = is_sum_lem h k in
        compact_right (ty_at t.columns n) a b s at (at + (r.width - r.right_width)) f e
        (omega (arith, own_width h, (side h p true).wide, ap bits f, bits_sum a b))
    either_tagged k false e =
        let a = ty_at t.columns r.left in
        let b = ty_at t.columns r.right in
        let f = is_sum_lem h k in
        compact_left (ty_at t.columns n) a b s at (at + (r.width - r.left_width)) f e
        (omega (arith, own_width h, (side h p false).wide, ap bits f, bits_sum a b))

    pub node_tagged : r.kind ≡ Kind.Sum → {x : Side} {c : Bool} → x ≡ side_of c r → c ≡ get_or s at false
        → compact (ty_at t.columns n) (drop at s)
        ≡ c ∷ compact (ty_at t.columns x.node) (drop (at + (r.width - x.width)) s)
    node_tagged k {c = c} f e = either_tagged k c (sym e) ∙ ap (after_tag c) (sym f)

    pub node_both : (r.kind ≡ Kind.Sum → ⊥)
        → compact (ty_at t.columns n) (drop at s)
        ≡ compact (ty_at t.columns r.left) (drop at s) ++ compact (ty_at t.columns r.right) (drop (at + r.left_width) s)
    node_both k =
        compact_both (ty_at t.columns n) (ty_at t.columns r.left) (ty_at t.columns r.right) s at (at + r.left_width)
        (is-prod h p k)
        (ap (λ (i : ℕ). at + i) (side h p false).wide)
