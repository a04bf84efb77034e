-- What a node's facts are found from.
--
--   ready_right                 the entries up to a node
--   head_within                 the head of a slot
--   no_other_kind               its kind is a unit's, a sum's or a product's
--   left_reach right_reach      its sides have groups
--   classing                    finding the class of a node
--   unit_derived node_derived   the facts of a unit, and of a sum or a product
--   class_fits                  a class is a number of 16 bits
--   more_reach                  a smaller count
-- Assumes nothing.
use Rattle.std.proofs.Common.{ℕ, ◌≡◌, ◌+◌, ◌*◌, ◌<◌, ◌≤◌, List, true, false, length, get_or, refl, ap, sym, ◌∙◌, arith, nat_eq}
use denote.Enum.Bare.{sameb}
use mathlib.Core.Bool.{true≢false, false≢true}
use mathlib.Core.Logic.{⊎_elim}
use borrow.Author.Tests.{eqb-true}
use Rattle.meaning.specs.Types.{width, size, padded, least_length}
use Rattle.meaning.specs.Groups.{group_size}
use Rattle.meaning.specs.Tables.{Columns, facts_in, kind, left, right, ty_at, class_of, digit, entry_right}
use Rattle.meaning.proofs.Tests.{and_left, and_right}
use Rattle.meaning.proofs.GroupLaws.{right_holds}
use Rattle.meaning.proofs.Trees.{RightTo, class_le}
use Rattle.groups.specs.Held.{Held}
use Rattle.groups.specs.declared.Facts.{Facts as Known}
use Rattle.tables.specs.declared.Kind.{Kind}
use Rattle.tables.specs.contracts.Kind.{the_type}
use Rattle.tables.specs.Kinds.{kind_no}
use Rattle.facts_sides.specs.Sides.{width_by, size_by, padded_by, least_by}
use Rattle.facts_classes.specs.Chains.{slot, slot_at, InSlot}
use Rattle.facts_classes.specs.Seeking.{Classing}
use Rattle.facts_classes.specs.declared.Chains.{Chains}
use Rattle.facts_classes.specs.declared.Key.{Key}
use Rattle.facts_sides.specs.FactsOf.{FactsOf}
use Rattle.facts.specs.Known.{FullReach, Ready, Derived}
use Rattle.facts.specs.declared.Found.{Found}
use Rattle.facts_entries.proofs.Entries.{above_unit, sides_earlier, sides_unit}
use Rattle.facts_sides.proofs.Reading.{held_facts, same_digit}
use Rattle.facts_sides.proofs.Steps.{width-at, size-at, padded-at, least_at}
use Rattle.facts_classes.proofs.Classes.{unit_tree, unit_class, kind_below}
use Rattle.facts_classes.proofs.Linking.{slot_below}
use Rattle.facts.proofs.Judging.{entries_to}

-- The sides of a unit are 0, so its key is all zeros.
unit_slot : (c : Columns) (n : ℕ) → RightTo c n → kind c n ≡ 0 → slot_at c n ≡ 0
unfolding entry_right slot
unit_slot c n r e =
    let h = sym (sides_unit (kind c n) n (left c n) (right c n) e) ∙ r.right-at n (omega arith) in
    let p = eqb-true (left c n) 0 (and_left (nat_eq (left c n) 0) (nat_eq (right c n) 0) h) in
    let q = eqb-true (right c n) 0 (and_right (nat_eq (left c n) 0) (nat_eq (right c n) 0) h) in
    let z : class_of c 0 ≡ 0 = let b = class_le c 0 in omega arith in
    let s : class_of c (left c n) ≡ 0 = ap (class_of c) p ∙ z in
    let t : class_of c (right c n) ≡ 0 = ap (class_of c) q ∙ z in
    simp (e, s, t)

-- What the test for a unit says of a kind and its number.
unit_tested : (k : Kind) → true ≡ sameb the_type k Kind.Unit → kind_no k ≡ 0
unit_tested Kind.Unit t = refl
unit_tested Kind.Sum t = absurd (true≢false t)
unit_tested Kind.Product t = absurd (true≢false t)

no_unit_tested : (k : Kind) → false ≡ sameb the_type k Kind.Unit → kind_no k ≡ 0 → ⊥
no_unit_tested Kind.Unit t z = false≢true t
no_unit_tested Kind.Sum t z = omega arith
no_unit_tested Kind.Product t z = omega arith

pub head_within : (c : Columns) (groups : List ℕ) (r : Chains) (n : ℕ) → Ready c groups r n → (h : ℕ) → h < 1024 → get_or r.heads h 0 ≤ n
head_within c groups r n ready h l =
    ⊎_elim (λ (z : get_or r.heads h 0 ≡ 0). omega arith) (λ (w : (get_or r.heads h 0 < n) × InSlot c h (get_or r.heads h 0)). let g = w.0 in omega arith)
    (ready.chained.starts h l).has

-- At node n, whose entry is read from the columns as they lie there.
module _ (c : Columns) (groups : List ℕ) (r : Chains) (n : ℕ) (ready : Ready c groups r n) (v : Columns) (same : v ≡ c) where
  ready_right : RightTo c n
  ready_right = entries_to c n ready.known.entries ready.entry

  kind_read : kind v n ≡ kind c n
  kind_read = ap (λ (t : Columns). kind t n) same

  pub no_other_kind : 2 < kind v n → ⊥
  no_other_kind h = let b = kind_below c n ready.entry in let e = kind_read in omega arith

  pub class_fits : class_of c n < 65536
  class_fits = let b = class_le c n in let f = ready.reach.few in omega arith

  module _ (k : Kind) (is : kind_no k ≡ kind v n) where
    pub unit_derived : true ≡ sameb the_type k Kind.Unit → Derived c n (record { facts = record { width = 0; size = 1; padded = false; class = 0; least = 0 }; slot = 0 })
    unfolding width size padded least_length
    unit_derived t =
        let e : kind c n ≡ 0 = sym (is ∙ kind_read) ∙ unit_tested k t in
        let u = unit_tree c n ready_right e in
        record {
          facts_are =
              record {
                width_is = sym (ap width u);
                size_is = sym (ap size u);
                padded_is = sym (ap padded u);
                class_is = sym (unit_class c n ready_right e);
                least_is = sym (ap least_length u);
              };
          slot_is = sym (unit_slot c n ready_right e);
        }

    module _ (t : false ≡ sameb the_type k Kind.Unit) where
      no_unit : kind c n ≡ 0 → ⊥
      no_unit z = no_unit_tested k t (is ∙ kind_read ∙ z)

      earlier : (left c n < n) × (right c n < n)
      earlier = sides_earlier c n ready.entry no_unit

      -- An earlier node has a group, and right facts.
      pub left_reach : group_size * (left v n + 1) ≤ length groups
      left_reach = rw same (let r = ready.reach.groups-reach in let l = earlier in omega arith)

      pub right_reach : group_size * (right v n + 1) ≤ length groups
      right_reach = rw same (let r = ready.reach.groups-reach in let l = earlier in omega arith)

      -- The two sides, as they are read.
      module _ (x y : Known) (hx : Held (facts_in groups) (left v n) x) (hy : Held (facts_in groups) (right v n) y) where
        abbrev key : Key
        key = record { kind = k; left = x.class; right = y.class }

        left_facts : FactsOf c (left c n) x
        left_facts = held_facts c (facts_in groups) (left c n) x (ready.known.facts-right (left c n) earlier.0) (rw same at hx)

        right_facts : FactsOf c (right c n) y
        right_facts = held_facts c (facts_in groups) (right c n) y (ready.known.facts-right (right c n) earlier.1) (rw same at hy)

        pub classing : Classing c groups r key n
        classing =
            let m = ready.reach in
            record {
              right_to = ready_right.right-at;
              few_nodes = let w = m.few in omega arith;
              reach =
                  record {
                    kinds_reach = let w = m.entries_reach.kinds_reach in omega arith;
                    lefts_reach = let w = m.entries_reach.lefts_reach in omega arith;
                    rights_reach = let w = m.entries_reach.rights_reach in omega arith;
                  };
              groups-reach = let w = m.groups-reach in omega arith;
              classes_right = λ j l. (right_holds c (facts_in groups) j (ready.known.facts-right j l)).class_held;
              goes_on = ready.chained.goes_on;
              starts =
                  ready.chained.starts (slot (kind_no key.kind) key.left key.right)
                  (let b = slot_below (kind_no key.kind) key.left key.right in omega arith);
              no_unit = no_unit;
              kind_is = sym (is ∙ kind_read);
              left_is = sym left_facts.class_is;
              right_is = sym right_facts.class_is;
            }

        pub node_derived : (f : Found)
            → f.facts.width ≡ width_by (kind_no k) x.width y.width
            → f.facts.size ≡ size_by x.size y.size
            → digit f.facts.padded ≡ padded_by (kind_no k) (digit x.padded) (digit y.padded) x.width y.width
            → f.facts.class ≡ class_of c n
            → f.facts.least ≡ least_by (kind_no k) x.least y.least
            → f.slot ≡ slot (kind_no k) x.class y.class
            → Derived c n f
        node_derived f w s p q m t =
            let j = above_unit (kind c n) no_unit in
            let e : kind_no k ≡ kind c n = is ∙ kind_read in
            let xw = left_facts.width_is in
            let xs = left_facts.size_is in
            let xp = left_facts.padded_is in
            let xc = left_facts.class_is in
            let xl = left_facts.least_is in
            let yw = right_facts.width_is in
            let ys = right_facts.size_is in
            let yp = right_facts.padded_is in
            let yc = right_facts.class_is in
            let yl = right_facts.least_is in
            record {
              facts_are =
                  record {
                    width_is = w ∙ rw (e, xw, yw) (sym (width-at c n j.0 ready_right j.1));
                    size_is = s ∙ rw (xs, ys) (sym (size-at c n j.0 ready_right j.1));
                    padded_is = same_digit f.facts.padded (padded (ty_at c n)) (p ∙ rw (e, xw, yw, xp, yp) (sym (padded-at c n j.0 ready_right j.1)));
                    class_is = q;
                    least_is = m ∙ rw (e, xl, yl) (sym (least_at c n j.0 ready_right j.1));
                  };
              slot_is = t ∙ rw (e, xc, yc);
            }

-- What reaches a count reaches a smaller one.
pub more_reach : (c : Columns) (groups : List ℕ) (n m : ℕ) → FullReach c groups n → m ≤ n → FullReach c groups m
more_reach c groups n m h l =
    record {
      few = let w = h.few in omega arith;
      entries_reach =
          record {
            kinds_reach = let w = h.entries_reach.kinds_reach in omega arith;
            lefts_reach = let w = h.entries_reach.lefts_reach in omega arith;
            rights_reach = let w = h.entries_reach.rights_reach in omega arith;
          };
      groups-reach = let w = h.groups-reach in omega arith;
    }
