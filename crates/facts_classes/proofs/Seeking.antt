-- The search for the class of a node.
--
--   starts goes_on              the walk begins at the head of the key's slot, and goes on past a node with another key
--   left_class right_class      the classes of the sides of a node where it stands
--   class_here class_new        the class: the node that has the key, or the node itself where there is none
-- Assumes nothing.
use Rattle.std.proofs.Common.{ℕ, ◌≡◌, ◌+◌, ◌*◌, ◌<◌, ◌≤◌, List, length, get_or, refl, sym, ap, ◌∙◌, subst, arith}
use denote.Enum.Declared.{tag_of}
use Rattle.meaning.specs.Groups.{group_size}
use Rattle.meaning.specs.Tables.{Columns, facts_in, kind, left, right, class_of}
use Rattle.meaning.proofs.Trees.{RightTo}
use Rattle.tables.specs.declared.Kind.{Kind}
use Rattle.tables.specs.contracts.Kind.{the_type}
use Rattle.tables.specs.Kinds.{kind_no}
use Rattle.facts_entries.proofs.Entries.{above_unit, left_within, right_within}
use Rattle.facts_classes.specs.Chains.{slot, slot_at, Last, InSlot, Keyed}
use Rattle.facts_classes.specs.Seeking.{Classing}
use Rattle.facts_classes.specs.declared.Chains.{Chains}
use Rattle.facts_classes.specs.declared.Key.{Key}
use Rattle.facts_classes.proofs.Classes.{first_unit, old_class, new_class}
use Rattle.facts_classes.proofs.Linking.{Along, along_start, along_next, along_own, last_falls}

-- A kind as a number.
kind_tag : (k : Kind) → tag_of the_type k ≡ kind_no k
kind_tag Kind.Unit = refl
kind_tag Kind.Sum = refl
kind_tag Kind.Product = refl

module _ (c : Columns) (groups : List ℕ) (r : Chains) (key : Key) (n : ℕ) (h : Classing c groups r key n) where
  right_to : RightTo c n
  right_to = record { right-at = h.right_to }

  -- Node 0 is a unit.
  not_first : n ≡ 0 → ⊥
  not_first e = h.no_unit (subst (λ (x : ℕ). kind c x ≡ 0) (sym e) (first_unit c (h.right_to 0 (omega arith))))

  abbrev At : ℕ → Type 0
  At m = Along c (kind_no key.kind) key.left key.right n m

  abbrev With : ℕ → Type 0
  With m = Keyed c (kind_no key.kind) key.left key.right m

  pub starts : (s : ℕ) → s ≡ slot (kind_no key.kind) key.left key.right → At (get_or r.heads s 0)
  starts s e =
      along_start c (kind_no key.kind) key.left key.right n (get_or r.heads s 0) not_first
      (subst (λ (x : ℕ). Last (InSlot c (slot (kind_no key.kind) key.left key.right)) n (get_or r.heads x 0)) (sym e) h.starts)

  -- At a node, whose entry is read from the columns as they lie there.
  module _ (v : Columns) (same : v ≡ c) (m : ℕ) (at : At m) (ne : m ≡ 0 → ⊥) where
    next_last : Last (InSlot c (slot_at c m)) m (get_or r.links m 0)
    next_last = h.goes_on m at.within (along_own c (kind_no key.kind) key.left key.right n m at ne)

    pub falls : get_or r.links m 0 < m
    falls = last_falls next_last ne

    pub goes_on : (With m → ⊥) → At (get_or r.links m 0)
    goes_on other = along_next c (kind_no key.kind) key.left key.right n m (get_or r.links m 0) at ne other next_last

    left_low : left c m ≤ m
    left_low = left_within c m (h.right_to m (let w = at.within in omega arith))

    right_low : right c m ≤ m
    right_low = right_within c m (h.right_to m (let w = at.within in omega arith))

    pub left_reach : group_size * (left v m + 1) ≤ length groups
    left_reach = rw same (let w = at.within in let l = left_low in let g = h.groups-reach in omega arith)

    pub right_reach : group_size * (right v m + 1) ≤ length groups
    right_reach = rw same (let w = at.within in let l = right_low in let g = h.groups-reach in omega arith)

    pub left_class : get_or (facts_in groups).classes (left v m) 0 ≡ class_of c (left c m)
    left_class = rw same (h.classes_right (left c m) (let w = at.within in let l = left_low in omega arith))

    pub right_class : get_or (facts_in groups).classes (right v m) 0 ≡ class_of c (right c m)
    right_class = rw same (h.classes_right (right c m) (let w = at.within in let l = right_low in omega arith))

    pub with_key : kind v m ≡ tag_of the_type key.kind → get_or (facts_in groups).classes (left v m) 0 ≡ key.left → get_or (facts_in groups).classes (right v m) 0 ≡ key.right → With m
    with_key k a b =
        record {
          own = along_own c (kind_no key.kind) key.left key.right n m at ne;
          same_kind = ap (λ (t : Columns). kind t m) (sym same) ∙ k ∙ kind_tag key.kind;
          same_left = sym left_class ∙ a;
          same_right = sym right_class ∙ b;
        }

    pub other_kind : (kind v m ≡ tag_of the_type key.kind → ⊥) → With m → ⊥
    other_kind ne w = ne (ap (λ (t : Columns). kind t m) same ∙ w.same_kind ∙ sym (kind_tag key.kind))

    pub class_here : With m → m ≡ class_of c n
    class_here w =
        sym
        (old_class c n m right_to at.within
        (record {
          own = w.own;
          same_kind = w.same_kind ∙ sym h.kind_is;
          same_left = w.same_left ∙ sym h.left_is;
          same_right = w.same_right ∙ sym h.right_is;
        }))

  its_key : (m : ℕ) → Keyed c (kind c n) (class_of c (left c n)) (class_of c (right c n)) m → With m
  its_key m w =
      record {
        own = w.own;
        same_kind = w.same_kind ∙ h.kind_is;
        same_left = w.same_left ∙ h.left_is;
        same_right = w.same_right ∙ h.right_is;
      }

  pub class_new : (m : ℕ) → At m → m ≡ 0 → n ≡ class_of c n
  class_new m at z =
      let j = above_unit (kind c n) h.no_unit in
      sym (new_class c n j.0 right_to j.1 (λ i l w. let g = at.covers i l (its_key i w) in omega arith))
