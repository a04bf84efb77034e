-- K9: the two calls that write facts, to columns and to groups.
--
--   filled_same                 what was written to columns and what is written to groups hold the same facts
--   fill_same                   `fill_facts`: the same answer, where both layouts have room or neither has
--   fill_out_same               where it is accepted, the facts after it are the same
--   fill_refused_kept           where it is refused, they are the same as far as they were before
--   fill_refused_stays          a refusal leaves the groups as they stood
--   nodes_in file_count         the nodes of a file are at most 1,024
--   read_same read_columns_same     `read_table`: the same answer and entries, where both layouts have room for the file's nodes or neither has
--   read_out_same               where it is accepted, the facts after it are the same
--   read_refused_kept           where it is refused, they are the same as far as they were before, whatever its nodes
--   read_refused_stays          a refusal leaves the groups as they stood
-- Assumes nothing.
use Prim.Native.Nat.{ℕ, zero, suc, ◌*◌, ◌≤◌, ◌<◌, zero-le}
use mathlib.Core.Path.{◌≡◌, refl, ap, sym, ◌∙◌, subst}
use mathlib.Core.Bool.{Bool, true, false, not, cond, ◌&&◌}
use mathlib.Core.List.{List, [], ◌∷◌, map}
use native.Mathlib.Omega.{arith}
use native.Mathlib.Nat.{zero-add}
use lib.Dec.{ltb, leb}
use lib.ListN.{length, drop, get_or, length-append, get_or-append}
use borrow.Author.Tests.{leb-true, le-leb, not-false}
use Rattle.meaning.specs.Choice.{from}
use Rattle.meaning.specs.Types.{width, size, padded, least_length}
use Rattle.meaning.specs.Groups.{group_size}
use Rattle.meaning.specs.Tables.{Columns, Facts, facts_in, ty_at, class_of, digit, count_right, columns_reach, facts_reach, groups_reach, first_bad_entry}
use Rattle.meaning.specs.Files.{Reading, faulty, found, and_then, number_at, Entry, entry_from, entries_from, ended, table_in, columns_of}
use Rattle.meaning.specs.Ladder.{Answer, refused, accepted, rung, ladder, kept}
use Rattle.meaning.specs.TypeCalls.{groups_written, fill_facts_call, fill_facts_out, entries_in, entries_written, columns_kept, file_rung, read_table_call, read_table_columns_out, read_table_groups_out}
use Rattle.meaning.specs.OldLayout.{filled, facts_written, facts_kept, fill_columns, fill_columns_out, read_columns, read_columns_entries, read_columns_facts}
use Rattle.meaning.proofs.Tests.{and_left, and_right}
use Rattle.meaning.proofs.Ladders.{ladder_clear, kept_refused}
use Rattle.meaning.proofs.Groups.{length_from, get_d_from, groups-reach}
use Rattle.meaning.proofs.GroupLaws.{length_groups_of, written_holds}
use Rattle.laws.proofs.Layouts.{SameFacts}
use Rattle.laws.proofs.LayoutFacts.{held_same}

-- A column with n entries written reaches n, and holds them.
filled_reaches : (v : ℕ → ℕ) (n : ℕ) (old : List ℕ) → leb n (length (filled v n old)) ≡ true
filled_reaches v n old =
    let e = length_from v 0 n in
    let d = length-append (map v (from 0 n)) (drop n old) in
    le-leb n (length (filled v n old)) (omega arith)

filled_at : (v : ℕ → ℕ) (n k : ℕ) (old : List ℕ) → k < n → get_or (filled v n old) k 0 ≡ v k
filled_at v n k old h =
    let e = length_from v 0 n in
    get_or-append (map v (from 0 n)) (drop n old) 0 k (omega arith) ∙ get_d_from v 0 n k h ∙ ap v (zero-add k)

pub filled_same : (c : Columns) (n : ℕ) (f : Facts) (g : List ℕ) → n ≤ 1024 → SameFacts n (facts_written c n f) (facts_in (groups_written c n g))
filled_same c n f g few =
    let w : ℕ → ℕ = λ k. width (ty_at c k) in
    let z : ℕ → ℕ = λ k. size (ty_at c k) in
    let p : ℕ → ℕ = λ k. digit (padded (ty_at c k)) in
    let l : ℕ → ℕ = λ k. least_length (ty_at c k) in
    let e = length_groups_of c n in
    record {
      reach_same = rw (
        filled_reaches w n f.widths,
        filled_reaches z n f.sizes,
        filled_reaches p n f.paddeds,
        filled_reaches (class_of c) n f.classes,
        filled_reaches l n f.leasts,
      )
          (sym (groups-reach n (groups_written c n g) ∙ le-leb (group_size * n) (length (groups_written c n g)) (simp length-append (omega arith))));
      all_same = λ _ k h. held_same (facts_written c n f) (facts_in (groups_written c n g)) k _ _ _ _ _
          (record {
            width_held = filled_at w n k f.widths h;
            size_held = filled_at z n k f.sizes h;
            padded_held = filled_at p n k f.paddeds h;
            class_held = filled_at (class_of c) n k f.classes h;
            least_held = filled_at l n k f.leasts h;
          })
          (written_holds c n g k h few);
    }

-- Facts in columns and in groups after two calls whose answer is known.
after_same : {A : Type 0} (m : ℕ) (x y z : Answer A) (f f' : Facts) (g g' : List ℕ) → x ≡ y → x ≡ z
    → SameFacts m (facts_kept z f f') (facts_in (kept z g g')) → SameFacts m (facts_kept x f f') (facts_in (kept y g g'))
after_same m x y z f f' g g' e d s =
    subst (λ a. SameFacts m (facts_kept x f f') (facts_in (kept a g g'))) e (subst (λ a. SameFacts m (facts_kept a f f') (facts_in (kept a g g'))) (sym d) s)

fill_few : (c : Columns) (n : ℕ) (f : Facts) (v : Unit {0}) → fill_columns c n f ≡ accepted v → n ≤ 1024
fill_few c n f v e =
    let r = not-false (count_right n && columns_reach c n) (ladder_clear _ _ _ _ _ _ e).0 in
    leb-true n 1024 (and_right (leb 1 n) (leb n 1024) (and_left (count_right n) (columns_reach c n) r))

module _ (c : Columns) (n : ℕ) (f : Facts) (g : List ℕ) where
  pub fill_same : facts_reach f n ≡ groups_reach g n → fill_columns c n f ≡ fill_facts_call c n g
  fill_same room =
      ap (λ (b : Bool). ladder (rung (not (count_right n && columns_reach c n)) 1 0 ∷ rung (ltb (first_bad_entry c n) n) 1 (first_bad_entry c n) ∷ rung (not b) 9 0 ∷ []) tt) room

  pub fill_out_same : facts_reach f n ≡ groups_reach g n → (v : Unit {0}) → fill_columns c n f ≡ accepted v
      → SameFacts n (fill_columns_out c n f) (facts_in (fill_facts_out c n g))
  fill_out_same room v e =
      after_same n (fill_columns c n f) (fill_facts_call c n g) (accepted v) f (facts_written c n f) g (groups_written c n g) (fill_same room) e
      (filled_same c n f g (fill_few c n f v e))

  pub fill_refused_kept : (m q p : ℕ) → facts_reach f n ≡ groups_reach g n → fill_columns c n f ≡ refused q p → SameFacts m f (facts_in g)
      → SameFacts m (fill_columns_out c n f) (facts_in (fill_facts_out c n g))
  fill_refused_kept m q p room e s =
      after_same m (fill_columns c n f) (fill_facts_call c n g) (refused q p) f (facts_written c n f) g (groups_written c n g) (fill_same room) e s

pub fill_refused_stays : (c : Columns) (n : ℕ) (g : List ℕ) (q p : ℕ) → fill_facts_call c n g ≡ refused q p → fill_facts_out c n g ≡ g
fill_refused_stays c n g q p = kept_refused (fill_facts_call c n g) q p g (groups_written c n g)

-- The nodes of a file, none where it is faulty.
abbrev pub nodes_in : List ℕ → List Entry
nodes_in file = entries_in (table_in file)

-- The number of nodes that a reading has.
abbrev counted : Reading (List Entry) → ℕ
counted r = length (entries_in r)

counted_next : (k : ℕ) (e : Entry) (r : Reading (List Entry)) → counted r ≤ k → counted (and_then r (λ es last. found (e ∷ es) last)) ≤ suc k
counted_next k e (faulty p) h = zero-le
counted_next k e (found es last) h = omega arith

counted_from : (file : List ℕ) (k n at : ℕ) → counted (entries_from file k n at) ≤ k
unfolding entries_from
counted_from file zero n at = zero-le
counted_from file (suc k) n at = first (entry_from file n at) (λ next. counted_from file k (suc n) next)
  where
    first : (r : Reading Entry) → ((next : ℕ) → counted (entries_from file k (suc n) next) ≤ k)
        → counted (and_then r (λ e next. and_then (entries_from file k (suc n) next) (λ es last. found (e ∷ es) last))) ≤ suc k
    first (faulty p) h = zero-le
    first (found e next) h = counted_next k e (entries_from file k (suc n) next) (h next)

counted_ended : (file : List ℕ) (k : ℕ) (r : Reading (List Entry)) → counted r ≤ k → counted (and_then r (ended file)) ≤ k
counted_ended file k (faulty p) h = zero-le
counted_ended file k (found es at) h = end (ltb at (length file))
  where
    end : (b : Bool) → counted (cond b (faulty at) (found es at)) ≤ k
    end true = zero-le
    end false = h

pub file_count : (file : List ℕ) → length (nodes_in file) ≤ 1024
unfolding table_in
file_count file = first (number_at file 0)
  where
    nodes : ℕ → ℕ → Reading (List Entry)
    nodes n at = and_then (entries_from file n 0 at) (ended file)

    ranged : (n next : ℕ) (b : Bool) → count_right n ≡ b → counted (and_then (cond b (found n next) (faulty 0)) nodes) ≤ 1024
    ranged n next true e =
        let h = leb-true n 1024 (and_right (leb 1 n) (leb n 1024) e) in
        let l = counted_ended file n (entries_from file n 0 next) (counted_from file n 0 next) in
        omega arith
    ranged n next false e = zero-le

    first : (r : Reading ℕ) → counted (and_then (and_then r (λ n next. cond (count_right n) (found n next) (faulty 0))) nodes) ≤ 1024
    first (faulty p) = zero-le
    first (found n next) = ranged n next (count_right n) refl

module _ (file : List ℕ) (c : Columns) (f : Facts) (g : List ℕ) where
  pub read_same : facts_reach f (length (nodes_in file)) ≡ groups_reach g (length (nodes_in file)) → read_columns file c f ≡ read_table_call file c g
  read_same room =
      ap (λ (b : Bool). ladder (file_rung (table_in file) ∷ rung (not (columns_reach c (length (nodes_in file)) && b)) 9 0 ∷ []) (length (nodes_in file))) room

  pub read_columns_same : facts_reach f (length (nodes_in file)) ≡ groups_reach g (length (nodes_in file))
      → read_columns_entries file c f ≡ read_table_columns_out file c g
  read_columns_same room = ap (λ x. columns_kept x c (entries_written (nodes_in file) c)) (read_same room)

  pub read_out_same : facts_reach f (length (nodes_in file)) ≡ groups_reach g (length (nodes_in file)) → (v : ℕ) → read_columns file c f ≡ accepted v
      → SameFacts (length (nodes_in file)) (read_columns_facts file c f) (facts_in (read_table_groups_out file c g))
  read_out_same room v e =
      let n = length (nodes_in file) in
      let d = columns_of (nodes_in file) in
      after_same n (read_columns file c f) (read_table_call file c g) (accepted v) f (facts_written d n f) g (groups_written d n g) (read_same room) e
      (filled_same d n f g (file_count file))

  pub read_refused_kept : (m q p : ℕ) → facts_reach f (length (nodes_in file)) ≡ groups_reach g (length (nodes_in file)) → read_columns file c f ≡ refused q p
      → SameFacts m f (facts_in g) → SameFacts m (read_columns_facts file c f) (facts_in (read_table_groups_out file c g))
  read_refused_kept m q p room e s =
      let n = length (nodes_in file) in
      let d = columns_of (nodes_in file) in
      after_same m (read_columns file c f) (read_table_call file c g) (refused q p) f (facts_written d n f) g (groups_written d n g) (read_same room) e s

pub read_refused_stays : (file : List ℕ) (c : Columns) (g : List ℕ) (q p : ℕ) → read_table_call file c g ≡ refused q p → read_table_groups_out file c g ≡ g
read_refused_stays file c g q p =
    kept_refused (read_table_call file c g) q p g (groups_written (columns_of (nodes_in file)) (length (nodes_in file)) g)
