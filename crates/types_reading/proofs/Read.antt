-- The facts of a node of a sound table, as they are read.
--
--   kind_is                     the kind that was read is the column's entry
--   facts_read                  all facts of a node: as they were read they are those of its tree
--   place_fits                  a node as an index
--   facts_said told_read facts_told     all facts of a node: as they are handed in, as they were read one by one, as they are by its tree
--   kinds_alike                 two kinds are equal exactly if their numbers are
-- Assumes nothing.
use Prim.Native.Nat.{ℕ, zero, suc, ◌*◌, ◌<◌, ◌≤◌}
use mathlib.Core.Path.{◌≡◌, refl, sym, ap, ◌∙◌}
use denote.Enum.Bare.{sameb}
use native.Mathlib.Nat.{lt_of_le_of_lt, lt_of_lt_of_le, le_of_lt, mul-le-mul}
use native.Mathlib.Omega.{arith}
use lib.Dec.{eqb, lit<}
use lib.ListN.{get_or}
use mir.Val.{Fits}
use mir.Syntax.{w64}
use Rattle.meaning.specs.Types.{Ty, unit, sum, prod, size}
use Rattle.meaning.specs.Tables.{Table, NodeFacts, kind, left, right, node, ty_at, facts_at}
use Rattle.meaning.specs.Checked.{Sound}
use Rattle.meaning.proofs.Sounds.{sound_tree, sound_kind, sound_width, sound_size, sound_padded, sound_class, sound_least}
use Rattle.tables.specs.declared.Kind.{Kind}
use Rattle.tables.specs.contracts.Kind.{the_type}
use Rattle.tables.specs.Kinds.{kind_no}
use Rattle.nodes.specs.declared.Node.{Node}
use Rattle.nodes.specs.Reading.{Reads}

-- The kind of a tree.
kind_in : Ty → ℕ
kind_in unit = 0
kind_in (sum a b) = 1
kind_in (prod a b) = 2

kind_back : (k : ℕ) (a b : Ty) → k ≤ 2 → kind_in (node k a b) ≡ k
unfolding kind_in
kind_back zero a b h = refl
kind_back (suc zero) a b h = refl
kind_back (suc (suc k)) a b h = omega arith

kind_low : (k : Kind) → kind_no k ≤ 2
kind_low Kind.Unit = omega arith
kind_low Kind.Sum = omega arith
kind_low Kind.Product = omega arith

module _ (t : Table) (s : Sound t) (n : ℕ) (h : n < t.count) (r : Node) (e : Reads t n r) where
  kind_is : kind_no r.kind ≡ kind t.columns n
  kind_is =
      sym (kind_back (kind_no r.kind) (ty_at t.columns r.left) (ty_at t.columns r.right) (kind_low r.kind))
      ∙ ap kind_in (sym e.tree ∙ sound_tree t s n h)
      ∙ kind_back (kind t.columns n) (ty_at t.columns (left t.columns n)) (ty_at t.columns (right t.columns n)) (sound_kind t s n h)

  pub facts_read : {z l : ℕ} → z ≡ size (ty_at t.columns n) → l ≡ get_or t.facts.leasts n 0
      → record { width_of = r.width; size_of = z; padded_of = r.padded; class_no = r.class; kind_of = kind_no r.kind; left_node = r.left; right_node = r.right; least_of = l } ≡ facts_at t.columns n
  facts_read f g =
      λ i.
      record {
        width_of = e.width_is i;
        size_of = f i;
        padded_of = e.padded_is i;
        class_no = e.class_is i;
        kind_of = kind_is i;
        left_node = e.left_is i;
        right_node = e.right_is i;
        least_of = (g ∙ sound_least t s n h) i;
      }

-- Everything that the table that is handed in says of a node.
abbrev pub facts_said : Table → ℕ → NodeFacts
facts_said t n =
    record {
      width_of = get_or t.facts.widths n 0;
      size_of = get_or t.facts.sizes n 0;
      padded_of = eqb (get_or t.facts.paddeds n 0) 1;
      class_no = get_or t.facts.classes n 0;
      kind_of = kind t.columns n;
      left_node = left t.columns n;
      right_node = right t.columns n;
      least_of = get_or t.facts.leasts n 0;
    }

pub told_read : (t : Table) (n : ℕ) {w z p k l : ℕ} → w ≡ get_or t.facts.widths n 0 → z ≡ get_or t.facts.sizes n 0 → p ≡ get_or t.facts.paddeds n 0
    → k ≡ get_or t.facts.classes n 0 → l ≡ get_or t.facts.leasts n 0
    → record { width_of = w; size_of = z; padded_of = eqb p 1; class_no = k; kind_of = kind t.columns n; left_node = left t.columns n; right_node = right t.columns n; least_of = l } ≡ facts_said t n
told_read t n e f g h j =
    λ i.
    record {
      width_of = e i;
      size_of = f i;
      padded_of = eqb (g i) 1;
      class_no = h i;
      kind_of = kind t.columns n;
      left_node = left t.columns n;
      right_node = right t.columns n;
      least_of = j i;
    }

module _ (t : Table) (s : Sound t) (n : ℕ) (h : n < t.count) where
  pub place_fits : (k : ℕ) → k ≤ 8 → Fits w64 (n * k)
  place_fits k l = record { fits = lt_of_le_of_lt (mul-le-mul (le_of_lt (lt_of_lt_of_le h s.few_nodes)) l) (lit< tt) }

  pub facts_told : facts_said t n ≡ facts_at t.columns n
  facts_told =
      λ i.
      record {
        width_of = sound_width t s n h i;
        size_of = sound_size t s n h i;
        padded_of = sound_padded t s n h i;
        class_no = sound_class t s n h i;
        kind_of = kind t.columns n;
        left_node = left t.columns n;
        right_node = right t.columns n;
        least_of = sound_least t s n h i;
      }

-- Two kinds are compared by their numbers.
pub kinds_alike : (a b : Kind) → eqb (kind_no a) (kind_no b) ≡ sameb the_type a b
kinds_alike Kind.Unit Kind.Unit = refl
kinds_alike Kind.Unit Kind.Sum = refl
kinds_alike Kind.Unit Kind.Product = refl
kinds_alike Kind.Sum Kind.Unit = refl
kinds_alike Kind.Sum Kind.Sum = refl
kinds_alike Kind.Sum Kind.Product = refl
kinds_alike Kind.Product Kind.Unit = refl
kinds_alike Kind.Product Kind.Sum = refl
kinds_alike Kind.Product Kind.Product = refl
