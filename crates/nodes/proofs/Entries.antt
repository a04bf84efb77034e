-- What a sound table says of a node, by its columns and groups.
--
--   a_kind                      the byte of its kind is read
--   kind_read                   and what is read of it is its kind, whatever stands for another byte
--   has_group                   it has a group
--   read_from                   what is read of it is what a walker needs
-- Assumes nothing.
use native.Mathlib.Omega.{arith}
use Prim.Native.Nat.{ℕ, ◌+◌, ◌*◌, ◌≤◌, ◌<◌}
use mathlib.Core.Path.{◌≡◌, refl, sym, ap, subst, ◌∙◌}
use mathlib.Core.List.{List}
use lib.Dec.{eqb}
use lib.ListN.{length, get_or}
use Rattle.std.specs.Prelude.{Result, Ok, Err, IsOk}
use Rattle.std.specs.Result.{result_unwrap_or}
use Rattle.meaning.specs.Groups.{group_size}
use Rattle.meaning.specs.Tables.{Table, table, facts_in, kind, left, right, ty_at, node as tree}
use Rattle.meaning.specs.Checked.{Sound}
use Rattle.meaning.proofs.Sounds.{sound_tree, sound_kind, sound_left, sound_right_side, sound_left_falls, sound_right_falls, sound_width, sound_padded, sound_class}
use Rattle.meaning.proofs.GroupLaws.{sound_group}
use Rattle.tables.specs.declared.Kind.{Kind}
use Rattle.tables.specs.declared.UnknownKind.{UnknownKind}
use Rattle.tables.specs.Kinds.{kind_no, Decodes}
use Rattle.nodes.specs.Reading.{Reads}

pub a_kind : (t : Table) → Sound t → (n : ℕ) → n < t.count → (r : Result Kind UnknownKind) → Decodes (kind t.columns n) r → IsOk r
a_kind t s n h (Ok k) d = refl
a_kind t s n h (Err e) d = let low = sound_kind t s n h in absurd (omega arith)

module _ (ks ls rs gs : List ℕ) (count n : ℕ) (s : Sound (table ks ls rs gs count)) where
  abbrev of : Table
  of = table ks ls rs gs count

  pub has_group : (k : ℕ) → k < count → group_size * (k + 1) ≤ length gs
  has_group k h = sound_group ks ls rs gs count k s h

  pub left_group : n < count → group_size * (get_or ls n 0 + 1) ≤ length gs
  left_group h = has_group (get_or ls n 0) (sound_left of s n h)

  pub right_group : n < count → group_size * (get_or rs n 0 + 1) ≤ length gs
  right_group h = has_group (get_or rs n 0) (sound_right_side of s n h)

  pub read_from : n < count → (k : Kind) → kind_no k ≡ get_or ks n 0 → (w lw rw p c : ℕ) → w ≡ get_or (facts_in gs).widths n 0
      → lw ≡ get_or (facts_in gs).widths (get_or ls n 0) 0 → rw ≡ get_or (facts_in gs).widths (get_or rs n 0) 0
      → p ≡ get_or (facts_in gs).paddeds n 0 → c ≡ get_or (facts_in gs).classes n 0
      → Reads of n (record { kind = k; left = get_or ls n 0; right = get_or rs n 0; width = w; left_width = lw; right_width = rw; padded = eqb p 1; class = c })
  read_from h k e w lw rw p c we le re pe ce =
      let falls : 1 ≤ kind_no k → 1 ≤ get_or ks n 0 = λ g. omega arith in
      record {
        tree = sound_tree of s n h ∙ ap (λ m. tree m (ty_at of.columns (get_or ls n 0)) (ty_at of.columns (get_or rs n 0))) (sym e);
        left_is = refl;
        right_is = refl;
        left_in = sound_left of s n h;
        right_in = sound_right_side of s n h;
        left_falls = λ g. sound_left_falls of s n h (falls g);
        right_falls = λ g. sound_right_falls of s n h (falls g);
        width_is = we ∙ sound_width of s n h;
        left_width_is = le ∙ sound_width of s (left of.columns n) (sound_left of s n h);
        right_width_is = re ∙ sound_width of s (right of.columns n) (sound_right_side of s n h);
        padded_is = ap (λ (x : ℕ). eqb x 1) pe ∙ sound_padded of s n h;
        class_is = ce ∙ sound_class of s n h;
      }

pub the_kind : (m : ℕ) (r : Result Kind UnknownKind) (k : Kind) → Decodes m r → r ≡ Ok k → kind_no k ≡ m
the_kind m r k d e = subst (Decodes m) e d

pub kind_read : (t : Table) → Sound t → (n : ℕ) → n < t.count → (r : Result Kind UnknownKind) (other k : Kind) → Decodes (kind t.columns n) r → k ≡ result_unwrap_or r other → kind_no k ≡ kind t.columns n
kind_read t s n h (Ok j) other k d e = ap kind_no e ∙ d
kind_read t s n h (Err x) other k d e = let low = sound_kind t s n h in absurd (omega arith)
