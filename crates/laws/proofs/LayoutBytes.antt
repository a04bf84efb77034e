-- K9: groups byte by byte. Every byte of a node's group is judged, no byte past the groups is judged or changed, and too few bytes are refused.
--
--   group_told                  a group of bytes whose facts are right is the group of the node's tree
--   wrong_byte                  so any other byte, at any place of a group, is 1 at its node if every node before it is right
--   past_unjudged               bytes past the count's groups are no facts
--   fill_later read_later       and what fills groups leaves them as they stood
--   short_refused fill_short    a buffer short of a group for each node: 1 at 0 where it is read; 9 at 0 where it is filled, after the entries
-- Assumes nothing.
use Prim.Native.Nat.{ℕ, zero, suc, ◌+◌, ◌*◌, ◌≤◌, ◌<◌, min}
use mathlib.Core.Path.{◌≡◌, refl, ap, sym, ◌∙◌}
use mathlib.Core.Bool.{true, false, not, ◌&&◌}
use mathlib.Core.List.{List, [], ◌∷◌, ◌++◌}
use mathlib.Core.Logic.{⊎_elim}
use native.Mathlib.Omega.{arith}
use lib.Dec.{ltb}
use lib.ListN.{length, take, drop, get_or, length-take, length-drop, take-append-drop}
use lib.Seq.{take_at, drop_at, drop-append-le, get_or-take, get_or-drop}
use borrow.Author.Tests.{leb-true, leb-false, le-leb, lt-leb, lt-ltb, le-ltb}
use Rattle.meaning.specs.Groups.{low, group, group_size, fact_in}
use Rattle.meaning.specs.Tables.{Columns, Facts, facts_in, entry_right, facts_right, count_right, columns_reach, facts_reach, groups_reach, first_bad_entry, first_bad}
use Rattle.meaning.specs.Files.{columns_of}
use Rattle.meaning.specs.Ladder.{Answer, refused, accepted, Rung, ladder, kept, sound}
use Rattle.meaning.specs.Checked.{Bytes}
use Rattle.meaning.specs.TypeCalls.{group_of, groups_of, fill_facts_call, fill_facts_out, read_table_call, read_table_groups_out}
use Rattle.meaning.proofs.Choices.{either, least_unique, least_none}
use Rattle.meaning.proofs.Ladders.{ladder_holds, ladder_fails, bad}
use Rattle.meaning.proofs.Groups.{fact_at, groups-reach}
use Rattle.meaning.proofs.GroupLaws.{right_holds, length_group, length_groups_of}
use Rattle.meaning.proofs.GroupBytes.{group_low}
use Rattle.meaning.proofs.Tests.{and_no_right}
use Rattle.laws.proofs.Layouts.{SameFacts, table_with}
use Rattle.laws.proofs.LayoutFills.{nodes_in}

pub group_told : (c : Columns) (g : List ℕ) (k : ℕ) → Bytes g → group_size * (k + 1) ≤ length g → facts_right c (facts_in g) k ≡ true
    → take group_size (drop (group_size * k) g) ≡ group_of c k
unfolding group_of
group_told c g k b h r =
    let f = facts_in g in
    let s = right_holds c f k r in
    let w = get_or f.widths k 0 in
    let z = get_or f.sizes k 0 in
    let p = get_or f.paddeds k 0 in
    let j = get_or f.classes k 0 in
    let l = get_or f.leasts k 0 in
    ap (take group_size) (sym (group_low g k b h))
    ∙ take_at (group w z p j l) (drop (group_size * (k + 1)) g) group_size (length_group w z p j l)
    ∙ (λ i. group (s.width_held i) (s.size_held i) (s.padded_held i) (s.class_held i) (s.least_held i))

-- The first node at fault is told, in any layout.
fault_at : {A : Type 0} (c : Columns) (n : ℕ) (f : Facts) (k : ℕ) (rs : List Rung) (a : A) → count_right n ≡ true → columns_reach c n ≡ true
    → facts_reach f n ≡ true → k < n → ((j : ℕ) → j < k → (entry_right c j && facts_right c f j) ≡ true) → facts_right c f k ≡ false
    → ladder (sound (table_with c n f) ++ rs) a ≡ refused 1 k
unfolding first_bad
fault_at c n f k rs a m r t h before wrong =
    let e : first_bad (table_with c n f) ≡ k = least_unique (bad (table_with c n f)) n k (omega arith) (λ j l. ap not (before j l)) (λ _. ap not (and_no_right (entry_right c k) (facts_right c f k) wrong)) in
    ladder_fails (not (count_right n && columns_reach c n && facts_reach f n)) 1 0 _ a (rw (m, r, t))
    ∙ ladder_holds (ltb (first_bad (table_with c n f)) n) 1 (first_bad (table_with c n f)) rs a (lt-ltb (first_bad (table_with c n f)) n (omega arith))
    ∙ ap (refused 1) e

pub wrong_byte : {A : Type 0} (c : Columns) (n : ℕ) (g : List ℕ) (k i : ℕ) (rs : List Rung) (a : A) → Bytes g → count_right n ≡ true → columns_reach c n ≡ true
    → groups_reach g n ≡ true → k < n → i < group_size → ((j : ℕ) → j < k → (entry_right c j && facts_right c (facts_in g) j) ≡ true)
    → (get_or g (group_size * k + i) 0 ≡ get_or (group_of c k) i 0 → ⊥) → ladder (sound (table_with c n (facts_in g)) ++ rs) a ≡ refused 1 k
wrong_byte c n g k i rs a b m r t h l before other =
    fault_at c n (facts_in g) k rs a m r (groups-reach n g ∙ t) h before
    (⊎_elim (λ e. absurd (other (same e))) (λ e. e) (either (facts_right c (facts_in g) k)))
  where
    same : facts_right c (facts_in g) k ≡ true → get_or g (group_size * k + i) 0 ≡ get_or (group_of c k) i 0
    same e =
        let d = leb-true (group_size * n) (length g) t in
        sym (get_or-take group_size (drop (group_size * k) g) i 0 l ∙ get_or-drop (group_size * k) g i 0)
        ∙ ap (λ (s : List ℕ). get_or s i 0) (group_told c g k b (omega arith) e)

-- A number lies in the bytes that it has.
low_front : (k : ℕ) (s r : List ℕ) → k ≤ length s → low k (s ++ r) ≡ low k s
unfolding low
low_front zero s r h = refl
low_front (suc k) [] r h = absurd (never h)
  where
    never : suc k ≤ 0 → ⊥
    never l = omega arith
low_front (suc k) (x ∷ s) r h = ap (λ (y : ℕ). x + 256 * y) (low_front k s r (omega arith))

low_take : (k at m : ℕ) (s : List ℕ) → at + k ≤ m → m ≤ length s → low k (drop at s) ≡ low k (drop at (take m s))
low_take k at m s h l =
    let t = length-take m s in
    let d = length-drop at (take m s) in
    ap (λ (x : List ℕ). low k (drop at x)) (sym (take-append-drop m s))
    ∙ ap (low k) (drop-append-le at (take m s) (drop m s) (omega arith))
    ∙ low_front k (drop at (take m s)) (drop m s) (omega arith)

pub past_unjudged : (n : ℕ) (g h : List ℕ) → take (group_size * n) g ≡ take (group_size * n) h → SameFacts n (facts_in g) (facts_in h)
past_unjudged n g h e =
    record {
      reach_same = groups-reach n g ∙ reach ∙ sym (groups-reach n h);
      all_same = λ r k l.
          let o = leb-true (group_size * n) (length g) (sym (groups-reach n g) ∙ r) in
          record {
            widths_same = fact 0 8 k l (omega arith) o;
            sizes_same = fact 8 8 k l (omega arith) o;
            paddeds_same = fact 16 1 k l (omega arith) o;
            classes_same = fact 17 2 k l (omega arith) o;
            leasts_same = fact 19 8 k l (omega arith) o;
          };
    }
  where
    lengths : min (group_size * n) (length g) ≡ min (group_size * n) (length h)
    lengths = sym (length-take (group_size * n) g) ∙ ap length e ∙ length-take (group_size * n) h

    reach : groups_reach g n ≡ groups_reach h n
    reach =
        ⊎_elim (λ y. let d = leb-true (group_size * n) (length g) y in let m = lengths in y ∙ sym (le-leb (group_size * n) (length h) (omega arith)))
        (λ y. let d = leb-false (group_size * n) (length g) y in let m = lengths in y ∙ sym (lt-leb (group_size * n) (length h) (omega arith)))
        (either (groups_reach g n))

    fact : (at b k : ℕ) → k < n → at + b ≤ group_size → group_size * n ≤ length g → get_or (fact_in at b g) k 0 ≡ get_or (fact_in at b h) k 0
    fact at b k l i o =
        let m = lengths in
        let o' : group_size * n ≤ length h = omega arith in
        fact_at at b k g (omega arith)
        ∙ low_take b (group_size * k + at) (group_size * n) g (omega arith) o
        ∙ ap (λ (s : List ℕ). low b (drop (group_size * k + at) s)) e
        ∙ sym (fact_at at b k h (omega arith) ∙ low_take b (group_size * k + at) (group_size * n) h (omega arith) o')

-- A buffer that has a new front, or stays.
kept_later : {A : Type 0} (x : Answer A) (m : ℕ) (front g : List ℕ) → length front ≡ m → drop m (kept x g (front ++ drop m g)) ≡ drop m g
kept_later (refused q p) m front g e = refl
kept_later (accepted v) m front g e = drop_at front (drop m g) m e

pub fill_later : (c : Columns) (n : ℕ) (g : List ℕ) → drop (group_size * n) (fill_facts_out c n g) ≡ drop (group_size * n) g
fill_later c n g = kept_later (fill_facts_call c n g) (group_size * n) (groups_of c n) g (length_groups_of c n)

pub read_later : (file : List ℕ) (c : Columns) (g : List ℕ)
    → drop (group_size * length (nodes_in file)) (read_table_groups_out file c g) ≡ drop (group_size * length (nodes_in file)) g
read_later file c g =
    let n = length (nodes_in file) in
    let d = columns_of (nodes_in file) in
    kept_later (read_table_call file c g) (group_size * n) (groups_of d n) g (length_groups_of d n)

pub short_refused : {A : Type 0} (c : Columns) (n : ℕ) (g : List ℕ) (rs : List Rung) (a : A) → length g < group_size * n
    → ladder (sound (table_with c n (facts_in g)) ++ rs) a ≡ refused 1 0
short_refused c n g rs a h =
    ladder_holds (not (count_right n && columns_reach c n && facts_reach (facts_in g) n)) 1 0 _ a
    (ap not (and_no_right (count_right n && columns_reach c n) (facts_reach (facts_in g) n) (groups-reach n g ∙ lt-leb (group_size * n) (length g) h)))

pub fill_short : (c : Columns) (n : ℕ) (g : List ℕ) → count_right n ≡ true → columns_reach c n ≡ true → ((k : ℕ) → k < n → entry_right c k ≡ true)
    → length g < group_size * n → fill_facts_call c n g ≡ refused 9 0
unfolding first_bad_entry
fill_short c n g m r right h =
    let e : first_bad_entry c n ≡ n = least_none (λ k. not (entry_right c k)) n (λ k l. ap not (right k l)) in
    ladder_fails (not (count_right n && columns_reach c n)) 1 0 _ tt (rw (m, r))
    ∙ ladder_fails (ltb (first_bad_entry c n) n) 1 (first_bad_entry c n) _ tt (le-ltb (first_bad_entry c n) n (omega arith))
    ∙ ladder_holds (not (groups_reach g n)) 9 0 [] tt (ap not (lt-leb (group_size * n) (length g) h))
