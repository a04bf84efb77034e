-- How rung 1 answers.
--
--   misshaped                   a count, a column or groups that are wrong refuse with 1 at 0
--   faulty_node faultless       else the first node at fault refuses with 1 there; where there is none, it accepts
--   whole                       a table from the columns, the groups and the count that were read
--   unfit                       the same of a table that was read
--   reaching                    what the search for the first node at fault relies on
-- Assumes nothing.
use native.Mathlib.Omega.{arith}
use Prim.Native.Nat.{ℕ, ◌*◌, ◌/◌, ◌<◌, ◌≤◌}
use mathlib.Core.Path.{◌≡◌, refl, sym, ap, subst, ◌∙◌}
use mathlib.Core.Bool.{Bool, true, false, not}
use mathlib.Core.List.{List, [], ◌∷◌}
use lib.Dec.{ltb}
use lib.ListN.{length}
use borrow.Author.Tests.{lt-ltb, le-ltb, le-leb}
use Rattle.meaning.specs.Groups.{group_size}
use Rattle.meaning.specs.Tables.{Columns, Table, table, facts_in, first_bad}
use Rattle.meaning.proofs.Groups.{length_fact}
use Rattle.facts.specs.Known.{TableReach}
use Rattle.meaning.specs.Ladder.{refused, accepted, rung, ladder}
use Rattle.meaning.specs.TypeCalls.{check_table_call}
use Rattle.meaning.proofs.Ladders.{Shape, shape_right, shape-right, right_shape, ladder_holds, ladder_fails}

-- A test that cannot pass fails.
fails : (b : Bool) → (b ≡ true → ⊥) → b ≡ false
fails true f = absurd (f refl)
fails false f = refl

pub misshaped : (t : Table) → (Shape t → ⊥) → check_table_call t ≡ refused 1 0
misshaped t f =
    ladder_holds (not (shape_right t)) 1 0 (rung (ltb (first_bad t) t.count) 1 (first_bad t) ∷ []) (tt {0})
    (ap not (fails (shape_right t) (λ h. f (shape-right t h))))

pub faulty_node : (t : Table) → Shape t → (b : ℕ) → b ≡ first_bad t → b < t.count → refused 1 b ≡ check_table_call t
faulty_node t s b e h =
    let l : first_bad t < t.count = subst (λ (m : ℕ). m < t.count) e h in
    ap (refused 1) e
    ∙ sym
    (ladder_fails (not (shape_right t)) 1 0 (rung (ltb (first_bad t) t.count) 1 (first_bad t) ∷ []) (tt {0}) (ap not (right_shape t s))
    ∙ ladder_holds (ltb (first_bad t) t.count) 1 (first_bad t) [] (tt {0}) (lt-ltb (first_bad t) t.count l))

pub faultless : (t : Table) → Shape t → (b : ℕ) → b ≡ first_bad t → t.count ≤ b → accepted (tt {0}) ≡ check_table_call t
unfolding ladder
faultless t s b e h =
    let l : t.count ≤ first_bad t = subst (λ (m : ℕ). t.count ≤ m) e h in
    sym
    (ladder_fails (not (shape_right t)) 1 0 (rung (ltb (first_bad t) t.count) 1 (first_bad t) ∷ []) (tt {0}) (ap not (right_shape t s))
    ∙ ladder_fails (ltb (first_bad t) t.count) 1 (first_bad t) [] (tt {0}) (le-ltb (first_bad t) t.count l))

-- What the search for the first node at fault relies on.
pub reaching : (t : Table) → Shape t → TableReach t
reaching t s =
    record {
      few = s.few_nodes;
      entries_reach = record { kinds_reach = s.kinds_reach; lefts_reach = s.lefts_reach; rights_reach = s.rights_reach };
      facts-reach = rw (le-leb t.count _ s.widths_reach, le-leb t.count _ s.sizes_reach, le-leb t.count _ s.paddeds_reach, le-leb t.count _ s.classes_reach, le-leb t.count _ s.leasts_reach);
    }

pub whole : (t : Table) (c d : Columns) (gs : List ℕ) (n : ℕ) → c ≡ d → record { columns = d; facts = facts_in gs; count = n } ≡ t
    → record { columns = c; facts = facts_in gs; count = n } ≡ t
whole t c d gs n e f = ap (λ (c : Columns). record { columns = c; facts = facts_in gs; count = n }) e ∙ f

-- The groups of a table, and the nodes that have one.
pub grouped : (gs : List ℕ) → length (facts_in gs).widths ≡ length gs / group_size
grouped gs = length_fact 0 8 gs

pub shaped : (ks ls rs gs : List ℕ) (n : ℕ) → 1 ≤ n → n ≤ 1024 → n ≤ length ks → n ≤ length ls → n ≤ length rs → group_size * n ≤ length gs
    → Shape (table ks ls rs gs n)
shaped ks ls rs gs n a b k l r g =
    record {
      some_node = a;
      few_nodes = b;
      kinds_reach = k;
      lefts_reach = l;
      rights_reach = r;
      widths_reach = omega (arith, length_fact 0 8 gs);
      sizes_reach = omega (arith, length_fact 8 8 gs);
      paddeds_reach = omega (arith, length_fact 16 1 gs);
      classes_reach = omega (arith, length_fact 17 2 gs);
      leasts_reach = omega (arith, length_fact 19 8 gs);
    }

-- A table t, read as a table s.
module _ (t s : Table) (e : s ≡ t) where
  pub unfit : (Shape s → ⊥) → refused 1 0 ≡ check_table_call t
  unfit f = sym (misshaped s f) ∙ ap check_table_call e
