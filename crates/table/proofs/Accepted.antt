-- What the three calls on whole tables have to do with each other.
--
--   filled_sound                entries that are right, with their facts filled in, are a sound table
--   fill_checked                what `fill_facts` writes is what `check_table` wants
--   checked_filled              and it wants nothing else: over a table of bytes that it accepts, `fill_facts` changes nothing
--   read_sound read_checked     a table that is read is sound, and `check_table` accepts it
--   SameNodes file_unambiguous  two files that are read to the same nodes are the same
-- Assumes nothing.
use Prim.Native.Nat.{ℕ, ◌*◌, ◌<◌, ◌≤◌}
use mathlib.Core.Path.{◌≡◌, refl, ap, sym, ◌∙◌, subst}
use mathlib.Core.Bool.{not}
use mathlib.Core.List.{List, ◌++◌, map}
use native.Mathlib.Omega.{arith}
use lib.ListN.{length, get_or, drop, length-map, get_or-append, get_or-map}
use lib.Seq.{ext_get_or}
use borrow.Author.Tests.{le-leb}
use Rattle.meaning.specs.Groups.{group_size}
use Rattle.meaning.specs.Tables.{Columns, Table, facts_in, kind, left, right, entry_right, first_bad_entry}
use Rattle.meaning.specs.Files.{found, Entry, table_in, columns_of}
use Rattle.meaning.specs.Ladder.{accepted, kept}
use Rattle.meaning.specs.Checked.{Sound, Bytes}
use Rattle.meaning.specs.TypeCalls.{groups_written, check_table_call, fill_facts_call, fill_facts_out, read_table_call, read_table_columns_out, read_table_groups_out, entries_in, entries_written, columns_kept}
use Rattle.meaning.proofs.Choices.{least_none}
use Rattle.meaning.proofs.Groups.{length_fact}
use Rattle.meaning.proofs.GroupLaws.{length_groups_written, written_right}
use Rattle.meaning.proofs.GroupBytes.{sound_written}
use Rattle.meaning.proofs.Ladders.{sound_accepted, accepted_sound}
use Rattle.facts.specs.Known.{Fillable}
use Rattle.files.proofs.Whole.{end_of, accepted_found}
use Rattle.files.proofs.Unique.{file_unique}
use Rattle.table_room.proofs.Room.{reached_columns}
use Rattle.table_filling.proofs.Fillings.{fillable, all_right}
use Rattle.table_reading.proofs.Readings.{read_in, some_node, fillable_after, groups-after}

-- A table from its entries, its groups and its count.
abbrev pub table_of : Columns → List ℕ → ℕ → Table
table_of c g n = record { columns = c; facts = facts_in g; count = n }

pub filled_sound : (c : Columns) (n : ℕ) (g : List ℕ) → 1 ≤ n → Fillable c g n → Sound (table_of c (groups_written c n g) n)
filled_sound c n g some h =
    let few = h.reach.few in
    let r = h.reach.groups-reach in
    let l = length_groups_written c n g r in
    record {
      some_node = some;
      few_nodes = few;
      kinds_reach = h.reach.entries_reach.kinds_reach;
      lefts_reach = h.reach.entries_reach.lefts_reach;
      rights_reach = h.reach.entries_reach.rights_reach;
      widths_reach = omega (arith, length_fact 0 8 (groups_written c n g));
      sizes_reach = omega (arith, length_fact 8 8 (groups_written c n g));
      paddeds_reach = omega (arith, length_fact 16 1 (groups_written c n g));
      classes_reach = omega (arith, length_fact 17 2 (groups_written c n g));
      leasts_reach = omega (arith, length_fact 19 8 (groups_written c n g));
      entries = h.entries;
      told = λ k b. written_right c n g k b few;
    }

pub fill_checked : (c : Columns) (n : ℕ) (g : List ℕ) → fill_facts_call c n g ≡ accepted (tt {0}) → check_table_call (table_of c (fill_facts_out c n g) n) ≡ accepted (tt {0})
fill_checked c n g h =
    let r = fillable c n g (sym h) in
    ap (λ a. check_table_call (table_of c (kept a g (groups_written c n g)) n)) h
    ∙ sound_accepted (table_of c (groups_written c n g) n) (filled_sound c n g r.some_node r.can_fill)

pub checked_filled : (c : Columns) (n : ℕ) (g : List ℕ) → Bytes g → check_table_call (table_of c g n) ≡ accepted (tt {0})
    → (fill_facts_call c n g ≡ accepted (tt {0})) × (fill_facts_out c n g ≡ g)
unfolding first_bad_entry
checked_filled c n g b h =
    let s = accepted_sound (table_of c g n) h in
    let e = length_fact 0 8 g in
    let w = s.widths_reach in
    let none = least_none (λ k. not (entry_right c k)) n (λ k l. ap not (s.entries k l)) in
    let yes = all_right c n g s.some_node s.few_nodes (reached_columns c n s.kinds_reach s.lefts_reach s.rights_reach) n (sym none) (omega arith)
    (le-leb (group_size * n) (length g) (omega arith)) in
    (sym yes, ap (λ a. kept a g (groups_written c n g)) (sym yes) ∙ sound_written c n g b s)

-- What stands for a node past the last.
abbrev past : Entry
past = record { kind = 0; left = 0; right = 0 }

module _ (file : List ℕ) (c : Columns) (g : List ℕ) (n : ℕ) (h : read_table_call file c g ≡ accepted n) where
  -- The nodes of the file, and the table that they are read to.
  abbrev nodes : List Entry
  nodes = entries_in (table_in file)

  columns_are : read_table_columns_out file c g ≡ entries_written nodes c
  columns_are = ap (λ a. columns_kept a c (entries_written nodes c)) h

  groups_are : read_table_groups_out file c g ≡ groups_written (entries_written nodes c) n g
  groups_are =
      ap (λ a. kept a g (groups_written (columns_of nodes) (length nodes) g)) h
      ∙ sym (groups-after file c g n (sym h) (entries_written nodes c) refl)

  pub read_sound : Sound (table_of (read_table_columns_out file c g) (read_table_groups_out file c g) n)
  read_sound =
      subst Sound (sym (λ i. table_of (columns_are i) (groups_are i) n))
      (filled_sound (entries_written nodes c) n g (some_node file c g n (sym h)) (fillable_after file c g n (sym h) (entries_written nodes c) refl))

  pub read_checked : check_table_call (table_of (read_table_columns_out file c g) (read_table_groups_out file c g) n) ≡ accepted (tt {0})
  read_checked = sound_accepted (table_of (read_table_columns_out file c g) (read_table_groups_out file c g) n) read_sound

  -- The entry of a node that is read.
  entry_at : (f : Entry → ℕ) (old : List ℕ) (k : ℕ) → k < n → get_or (map f nodes ++ drop (length nodes) old) k (f past) ≡ f (get_or nodes k past)
  entry_at f old k l =
      let e = (read_in file c g n (sym h)).counted in
      let m = length-map nodes f in
      get_or-append (map f nodes) (drop (length nodes) old) (f past) k (omega arith) ∙ get_or-map f nodes k past

  kind_at : (k : ℕ) → k < n → kind (read_table_columns_out file c g) k ≡ (get_or nodes k past).kind
  kind_at k l = ap (λ z. kind z k) columns_are ∙ entry_at (λ e. e.kind) c.kinds k l

  left_at : (k : ℕ) → k < n → left (read_table_columns_out file c g) k ≡ (get_or nodes k past).left
  left_at k l = ap (λ z. left z k) columns_are ∙ entry_at (λ e. e.left) c.lefts k l

  right-at : (k : ℕ) → k < n → right (read_table_columns_out file c g) k ≡ (get_or nodes k past).right
  right-at k l = ap (λ z. right z k) columns_are ∙ entry_at (λ e. e.right) c.rights k l

  is_found_lem : table_in file ≡ found nodes (end_of (table_in file))
  is_found_lem = accepted_found (table_in file) (length nodes) (read_in file c g n (sym h)).no_fault

-- Two tables have the same first n nodes.
pub record SameNodes (n : ℕ) (c d : Columns) : Type 0 where
  pub same_kinds : (k : ℕ) → k < n → kind c k ≡ kind d k
  pub same_lefts : (k : ℕ) → k < n → left c k ≡ left d k
  pub same_rights : (k : ℕ) → k < n → right c k ≡ right d k

module _ (a b : List ℕ) (c d : Columns) (f g : List ℕ) (n : ℕ) (p : read_table_call a c f ≡ accepted n) (q : read_table_call b d g ≡ accepted n) where
  same_nodes : SameNodes n (read_table_columns_out a c f) (read_table_columns_out b d g) → nodes a c f n p ≡ nodes b d g n q
  same_nodes s =
      let e = (read_in a c f n (sym p)).counted in
      let w = (read_in b d g n (sym q)).counted in
      ext_get_or past (nodes a c f n p) (nodes b d g n q) (sym e ∙ w) (λ k l. one k (omega arith))
    where
      one : (k : ℕ) → k < n → get_or (nodes a c f n p) k past ≡ get_or (nodes b d g n q) k past
      one k l =
          let x = sym (kind_at a c f n p k l) ∙ s.same_kinds k l ∙ kind_at b d g n q k l in
          let y = sym (left_at a c f n p k l) ∙ s.same_lefts k l ∙ left_at b d g n q k l in
          let z = sym (right-at a c f n p k l) ∙ s.same_rights k l ∙ right-at b d g n q k l in
          λ i. record { kind = x i; left = y i; right = z i }

  pub file_unambiguous : Bytes a → Bytes b → SameNodes n (read_table_columns_out a c f) (read_table_columns_out b d g) → a ≡ b
  file_unambiguous j k s =
      file_unique a b j k (nodes b d g n q) (end_of (table_in a)) (end_of (table_in b))
      (is_found_lem a c f n p ∙ ap (λ es. found es (end_of (table_in a))) (same_nodes s)) (is_found_lem b d g n q)
