-- Laws of a whole file: its verdict by what was read of it, and what a file with no fault holds.
--
--   Counted counted             the count is found
--   verdict_count verdict_node verdict_surplus verdict_sound
--                               the verdict, by the first fault or by there being none
--   sound_count sound_nodes     the count and the nodes of a file with no fault
--   accepted_count              an accepted count is that of the nodes
--   accepted_found              an accepted file is found
--   read_refused read_accepted  what `read_table` answers by the file's verdict
-- Assumes nothing.
use Prim.Native.Nat.{ℕ, ◌<◌}
use Rattle.std.proofs.Common.{Ok, Err}
use mathlib.Core.Path.{◌≡◌, refl, ap, sym, ◌∙◌}
use mathlib.Core.Bool.{Bool, true, false, not, cond, ◌&&◌}
use mathlib.Core.List.{List, [], ◌∷◌}
use lib.ListN.{length}
use lib.Dec.{ltb}
use borrow.Author.Tests.{lt-ltb}
use Rattle.meaning.specs.Tables.{Columns, count_right, columns_reach, groups_reach}
use Rattle.meaning.specs.Files.{Reading, faulty, found, number, and_then, ended, Entry, entry_from, entries_from, table_in}
use Rattle.meaning.specs.Ladder.{refused, accepted, rung, ladder}
use Rattle.meaning.specs.TypeCalls.{file_rung, entries_in, read_table_call}
use Rattle.files_numbers.specs.declared.Fault.{Fault}
use Rattle.files_numbers.specs.Places.{Place, front, behind}
use Rattle.files_numbers.specs.Readings.{answer_of}
use Rattle.files_numbers.proofs.Told.{not_found, was_found, same_file}
use Rattle.files.specs.Readings.{file_verdict}
use Rattle.files.proofs.Entries.{ReadUpTo, first_nodes, read_length, read_fault, entries_length}

-- The count of a file is found, and its nodes begin where a reader is.
pub record Counted (file : List ℕ) (count : ℕ) (start : Place) : Type 0 where
  pub begins : found count start.at ≡ number count_right file 0
  pub in_file : start.file ≡ file

pub counted : (file : List ℕ) (first : Place) (count : ℕ) (start : Place) → first ≡ front file
    → Ok count ≡ answer_of (number count_right first.file first.at) → start ≡ behind first (number count_right first.file first.at)
    → Counted file count start
counted file first count start new told left_off =
    let r = number count_right first.file first.at in
    record {
      begins = was_found r count first start told left_off ∙ ap (λ p. number count_right p.file p.at) new;
      in_file = same_file r first start left_off ∙ ap (λ p. p.file) new;
    }

pub verdict_count : (file : List ℕ) (first : Place) (f : Fault) → first ≡ front file
    → Err f ≡ answer_of (number count_right first.file first.at) → refused 1 f.place ≡ file_verdict (table_in file)
unfolding table_in
verdict_count file first f new told =
    rw (← (not_found (number count_right first.file first.at) f told ∙ ap (λ p. number count_right p.file p.at) new))

module _ (file : List ℕ) (count : ℕ) (start : Place) (c : Counted file count start) where
  -- What follows the count decides.
  whole : table_in file ≡ and_then (entries_from start.file count 0 start.at) (ended file)
  unfolding table_in
  whole = rw (← c.begins) (ap (λ f. and_then (entries_from f count 0 start.at) (ended file)) (sym c.in_file))

  pub verdict_node : (n : ℕ) (now : Place) (f : Fault) → ReadUpTo start n now → n < count → Err f ≡ answer_of (entry_from now.file n now.at)
      → refused 1 f.place ≡ file_verdict (table_in file)
  verdict_node n now f r h e = rw (whole, read_fault start n now r count f h e)

  -- All nodes are read: what follows them decides.
  module _ (now : Place) (r : ReadUpTo start count now) where
    after_nodes : table_in file ≡ ended now.file (first_nodes start count) now.at
    after_nodes =
        whole ∙ ap (λ x. and_then x (ended file)) r.so_far
        ∙ ap (λ f. ended f (first_nodes start count) now.at) (sym (r.in_file ∙ c.in_file))

    pub verdict_surplus : now.at < length file → refused 1 now.at ≡ file_verdict (table_in file)
    verdict_surplus h = rw (whole, r.so_far, lt-ltb now.at (length file) h)

    pub verdict_sound : (u : Unit {0}) → Ok u ≡ answer_of (ended now.file u now.at) → accepted count ≡ file_verdict (table_in file)
    verdict_sound u e = rw after_nodes (by_test (ltb now.at (length now.file)) e)
      where
        by_test : (b : Bool) → Ok u ≡ answer_of {A = Unit {0}} (cond b (faulty now.at) (found u now.at))
            → accepted count ≡ file_verdict (cond b (faulty now.at) (found (first_nodes start count) now.at))
        by_test true q = cc
        by_test false q = ap accepted (sym (read_length start count now r))

  -- A file with no fault: its nodes are those that were read, and they are as many as it says.
  module _ (k : ℕ) (no_fault : file_verdict (table_in file) ≡ accepted k) where
    nodes : (r : Reading (List Entry)) → file_verdict (and_then r (ended file)) ≡ accepted k → entries_in (and_then r (ended file)) ≡ entries_in r
    nodes (faulty p) v = refl
    nodes (found es at) v = by_test (ltb at (length file)) v
      where
        by_test : (b : Bool) → file_verdict (cond b (faulty at) (found es at)) ≡ accepted k → entries_in (cond b (faulty at) (found es at)) ≡ es
        by_test true w = cc
        by_test false w = refl

    counts : (r : Reading (List Entry)) → ((es : List Entry) (at : ℕ) → r ≡ found es at → length es ≡ count)
        → file_verdict (and_then r (ended file)) ≡ accepted k → length (entries_in r) ≡ count
    counts (faulty p) l v = cc
    counts (found es at) l v = l es at refl

    pub sound_nodes : entries_in (table_in file) ≡ first_nodes start count
    sound_nodes = ap entries_in whole ∙ nodes (entries_from start.file count 0 start.at) (rw whole at no_fault)

    pub sound_count : length (entries_in (table_in file)) ≡ count
    sound_count =
        ap length sound_nodes
        ∙ counts (entries_from start.file count 0 start.at) (λ es at e. entries_length start.file count 0 start.at es at e) (rw whole at no_fault)

-- An accepted count is that of the nodes.
pub accepted_count : (r : Reading (List Entry)) (n : ℕ) → file_verdict r ≡ accepted n → length (entries_in r) ≡ n
accepted_count (faulty p) n e = cc
accepted_count (found es at) n e = cc

-- The end of what was found; 0 of a fault.
abbrev pub end_of : {A : Type 0} → Reading A → ℕ
end_of (faulty p) = 0
end_of (found a at) = at

pub accepted_found : (r : Reading (List Entry)) (n : ℕ) → file_verdict r ≡ accepted n → r ≡ found (entries_in r) (end_of r)
accepted_found (faulty p) n e = cc
accepted_found (found es at) n e = refl

pub read_refused : (file : List ℕ) (c : Columns) (g : List ℕ) (p : ℕ) → file_verdict (table_in file) ≡ refused 1 p → read_table_call file c g ≡ refused 1 p
unfolding ladder
read_refused file c g p e = by_cases (table_in file) e
  where
    short : Reading (List Entry) → Bool
    short r = not (columns_reach c (length (entries_in r)) && groups_reach g (length (entries_in r)))

    by_cases : (r : Reading (List Entry)) → file_verdict r ≡ refused 1 p
        → ladder (file_rung r ∷ rung (short r) 9 0 ∷ []) (length (entries_in r)) ≡ refused 1 p
    by_cases (faulty q) h = h
    by_cases (found es at) h = cc

pub read_accepted : (file : List ℕ) (c : Columns) (g : List ℕ) (n : ℕ) → file_verdict (table_in file) ≡ accepted n
    → read_table_call file c g ≡ ladder (rung (not (columns_reach c n && groups_reach g n)) 9 0 ∷ []) n
unfolding ladder
read_accepted file c g n e =
    rw (accepted_found (table_in file) n e)
    (ap (λ k. ladder (rung (not (columns_reach c k && groups_reach g k)) 9 0 ∷ []) k) (accepted_count (table_in file) n e))
