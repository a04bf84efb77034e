-- How `fill_facts` answers, and what it leaves in the groups.
--
--   too_few too_many short_column faulty_entry short_groups all_right
--                               the answer, by the first test that fails or by there being none
--   fillable                    where it accepts, the entries are right and there is room
--   Fills                       an answer with the groups afterwards
--   fill_refused fill_accepted  groups that stand as they stood; groups that are filled
-- Assumes nothing.
use Prim.Native.Nat.{ℕ, ◌*◌, ◌<◌, ◌≤◌}
use mathlib.Core.Path.{◌≡◌, ap, sym, ◌∙◌}
use mathlib.Core.Bool.{Bool, true, false, not, ◌&&◌}
use mathlib.Core.List.{List, [], ◌∷◌}
use native.Mathlib.Omega.{arith}
use lib.Dec.{ltb, leb}
use lib.ListN.{length}
use borrow.Author.Tests.{ltb-false, leb-true, lt-ltb, le-ltb, le-leb, lt-leb, not-false}
use Rattle.meaning.specs.Groups.{group_size}
use Rattle.meaning.specs.Tables.{Columns, count_right, columns_reach, groups_reach, entry_right, first_bad_entry}
use Rattle.meaning.specs.Ladder.{Answer, refused, accepted, Rung, rung, ladder}
use Rattle.meaning.specs.TypeCalls.{groups_written, fill_facts_call, fill_facts_out}
use Rattle.meaning.proofs.Tests.{and_left, and_right, and_both, and_no_right}
use Rattle.meaning.proofs.Choices.{least_before}
use Rattle.meaning.proofs.Ladders.{ladder_holds, ladder_fails, ladder_clear, kept_refused, kept_accepted}
use Rattle.facts.specs.Known.{Fillable}
use Rattle.table_room.proofs.Room.{columns_reached}

module _ (c : Columns) (n : ℕ) (g : List ℕ) where
  -- The count and the columns of the entries.
  abbrev shape : Bool
  shape = count_right n && columns_reach c n

  -- What follows them on the ladder.
  abbrev entries : List Rung
  entries = rung (ltb (first_bad_entry c n) n) 1 (first_bad_entry c n) ∷ rung (not (groups_reach g n)) 9 0 ∷ []

  abbrev room : List Rung
  room = rung (not (groups_reach g n)) 9 0 ∷ []

  misshaped : shape ≡ false → refused 1 0 ≡ fill_facts_call c n g
  misshaped h = sym (ladder_holds (not shape) 1 0 entries (tt {0}) (ap not h))

  pub too_few : n < 1 → refused 1 0 ≡ fill_facts_call c n g
  too_few h = misshaped (rw (lt-leb 1 n h))

  pub too_many : 1024 < n → refused 1 0 ≡ fill_facts_call c n g
  too_many h = misshaped (ap (λ b. b && columns_reach c n) (and_no_right (leb 1 n) (leb n 1024) (lt-leb n 1024 h)))

  pub short_column : columns_reach c n ≡ false → refused 1 0 ≡ fill_facts_call c n g
  short_column h = misshaped (and_no_right (count_right n) (columns_reach c n) h)

  module _ (some : 1 ≤ n) (few : n ≤ 1024) (reach : columns_reach c n ≡ true) where
    after_shape : fill_facts_call c n g ≡ ladder entries (tt {0})
    after_shape =
        ladder_fails (not shape) 1 0 entries (tt {0})
        (ap not (and_both (count_right n) (columns_reach c n) (and_both (leb 1 n) (leb n 1024) (le-leb 1 n some) (le-leb n 1024 few)) reach))

    pub faulty_entry : (p : ℕ) → p ≡ first_bad_entry c n → p < n → refused 1 p ≡ fill_facts_call c n g
    faulty_entry p e h =
        let l : first_bad_entry c n < n = omega arith in
        ap (refused 1) e ∙ sym (after_shape ∙ ladder_holds (ltb (first_bad_entry c n) n) 1 (first_bad_entry c n) room (tt {0}) (lt-ltb (first_bad_entry c n) n l))

    module _ (p : ℕ) (e : p ≡ first_bad_entry c n) (h : n ≤ p) where
      after_entries : fill_facts_call c n g ≡ ladder room (tt {0})
      after_entries =
          let l : n ≤ first_bad_entry c n = omega arith in
          after_shape ∙ ladder_fails (ltb (first_bad_entry c n) n) 1 (first_bad_entry c n) room (tt {0}) (le-ltb (first_bad_entry c n) n l)

      pub short_groups : groups_reach g n ≡ false → refused 9 0 ≡ fill_facts_call c n g
      short_groups r = sym (after_entries ∙ ladder_holds (not (groups_reach g n)) 9 0 [] (tt {0}) (ap not r))

      pub all_right : groups_reach g n ≡ true → accepted (tt {0}) ≡ fill_facts_call c n g
      unfolding ladder
      all_right r = sym (after_entries ∙ ladder_fails (not (groups_reach g n)) 9 0 [] (tt {0}) (ap not r))

  -- What is known once it accepts.
  pub record Right : Type 0 where
    pub some_node : 1 ≤ n
    pub can_fill : Fillable c g n

  pub fillable : accepted (tt {0}) ≡ fill_facts_call c n g → Right
  unfolding first_bad_entry
  fillable h =
      let first = ladder_clear (not shape) 1 0 entries (tt {0}) (tt {0}) (sym h) in
      let second = ladder_clear (ltb (first_bad_entry c n) n) 1 (first_bad_entry c n) room (tt {0}) (tt {0}) first.1 in
      let third = ladder_clear (not (groups_reach g n)) 9 0 [] (tt {0}) (tt {0}) second.1 in
      let s = not-false shape first.0 in
      let counted = and_left (count_right n) (columns_reach c n) s in
      let none : n ≤ first_bad_entry c n = ltb-false (first_bad_entry c n) n second.0 in
      record {
        some_node = leb-true 1 n (and_left (leb 1 n) (leb n 1024) counted);
        can_fill =
            record {
              reach =
                  record {
                    few = leb-true n 1024 (and_right (leb 1 n) (leb n 1024) counted);
                    entries_reach = columns_reached c n (and_right (count_right n) (columns_reach c n) s);
                    groups-reach = leb-true (group_size * n) (length g) (not-false (groups_reach g n) third.0);
                  };
              entries = λ k l. not-false (entry_right c k) (least_before (λ j. not (entry_right c j)) n k (omega arith));
            };
      }

  -- An answer of `fill_facts` with the groups afterwards.
  abbrev pub Fills : Answer (Unit {0}) → List ℕ → Type 0
  Fills a h = (a ≡ fill_facts_call c n g) × (h ≡ fill_facts_out c n g)

  pub fill_refused : (m p : ℕ) → refused m p ≡ fill_facts_call c n g → Fills (refused m p) g
  fill_refused m p h = (h, sym (kept_refused (fill_facts_call c n g) m p g (groups_written c n g) (sym h)))

  pub fill_accepted : (after : List ℕ) → accepted (tt {0}) ≡ fill_facts_call c n g → after ≡ groups_written c n g → Fills (accepted (tt {0})) after
  fill_accepted after h d = (h, d ∙ sym (kept_accepted (fill_facts_call c n g) (tt {0}) g (groups_written c n g) (sym h)))
