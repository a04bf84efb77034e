-- How `read_table` answers, and what it leaves in the columns and the groups.
--
--   few_nodes                   a file with no fault has at most 1,024 nodes
--   file_fault short_columns short_room all_read
--                               the answer, by the file's verdict and by the room
--   ReadIn read_in              where it accepts, the nodes of the file and the room for them
--   readable fillable_after     what writing the nodes and filling in their facts rely on
--   groups-after                the groups that are filled in
--   Reads                       an answer with the columns and the groups afterwards
--   read_kept read_written      they stand as they stood; they hold the table
-- Assumes nothing.
use Prim.Native.Nat.{ℕ, ◌*◌, ◌<◌, ◌≤◌}
use mathlib.Core.Path.{◌≡◌, refl, ap, sym, ◌∙◌, subst}
use mathlib.Core.Bool.{Bool, true, false, not, ◌&&◌}
use mathlib.Core.List.{List, [], ◌∷◌, ◌++◌, map}
use native.Mathlib.Omega.{arith}
use lib.ListN.{length, drop, length-append, length-map}
use borrow.Author.Tests.{leb-true, not-false}
use Rattle.meaning.specs.Groups.{group_size}
use Rattle.meaning.specs.Tables.{Columns, entry_right, columns_reach, groups_reach}
use Rattle.meaning.specs.Files.{Reading, faulty, found, Entry, table_in, columns_of}
use Rattle.meaning.specs.Ladder.{Answer, refused, accepted, rung, ladder, kept}
use Rattle.meaning.specs.TypeCalls.{groups_written, file_rung, entries_in, entries_written, read_table_call, read_table_columns_out, read_table_groups_out}
use Rattle.meaning.proofs.Tests.{and_left, and_right, and_both, and_no_right}
use Rattle.meaning.proofs.Ladders.{accepted_refused, ladder_holds, ladder_fails, ladder_clear, ladder_value, kept_refused, kept_accepted}
use Rattle.facts_entries.specs.Reach.{Reach}
use Rattle.facts.specs.Known.{Fillable}
use Rattle.files.specs.Readings.{file_verdict, Readable}
use Rattle.files.proofs.Whole.{end_of, accepted_count, accepted_found, read_refused, read_accepted}
use Rattle.files.proofs.Right.{entries_right, count-right}
use Rattle.files.proofs.Written.{entry_written, groups-written}
use Rattle.table_room.proofs.Room.{columns_reached}

module _ (file : List ℕ) (c : Columns) (g : List ℕ) where
  -- The nodes of the file.
  abbrev nodes : List Entry
  nodes = entries_in (table_in file)

  pub file_fault : (p : ℕ) → refused 1 p ≡ file_verdict (table_in file) → refused 1 p ≡ read_table_call file c g
  file_fault p h = sym (read_refused file c g p (sym h))

  -- A file with no fault.
  module _ (n : ℕ) (h : accepted n ≡ file_verdict (table_in file)) where
    pub few_nodes : n ≤ 1024
    few_nodes =
        let e = accepted_count (table_in file) n (sym h) in
        let b = (count-right file nodes (end_of (table_in file)) (accepted_found (table_in file) n (sym h))).1 in
        omega arith

    abbrev fits : Bool
    fits = columns_reach c n && groups_reach g n

    no_room : fits ≡ false → refused 9 0 ≡ read_table_call file c g
    no_room r = sym (read_accepted file c g n (sym h) ∙ ladder_holds (not fits) 9 0 [] n (ap not r))

    pub short_columns : columns_reach c n ≡ false → refused 9 0 ≡ read_table_call file c g
    short_columns r = no_room (ap (λ b. b && groups_reach g n) r)

    pub short_room : groups_reach g n ≡ false → refused 9 0 ≡ read_table_call file c g
    short_room r = no_room (and_no_right (columns_reach c n) (groups_reach g n) r)

    pub all_read : columns_reach c n ≡ true → groups_reach g n ≡ true → accepted n ≡ read_table_call file c g
    unfolding ladder
    all_read r s =
        sym
        (read_accepted file c g n (sym h)
        ∙ ladder_fails (not fits) 9 0 [] n (ap not (and_both (columns_reach c n) (groups_reach g n) r s)))

  -- What is known once it accepts.
  pub record ReadIn (n : ℕ) : Type 0 where
    pub counted : n ≡ length nodes
    pub no_fault : file_verdict (table_in file) ≡ accepted (length nodes)
    pub entries_reach : Reach c (length nodes)
    pub groups-reach : group_size * length nodes ≤ length g

  module _ (n : ℕ) (h : accepted n ≡ read_table_call file c g) where
    pub read_in : ReadIn n
    unfolding ladder
    read_in =
        let r = by_cases (table_in file) h in
        let k = length nodes in
        record {
          counted = r.0;
          no_fault = r.1.0;
          entries_reach = columns_reached c k (and_left (columns_reach c k) (groups_reach g k) r.1.1);
          groups-reach = leb-true (group_size * k) (length g) (and_right (columns_reach c k) (groups_reach g k) r.1.1);
        }
      where
        by_cases : (r : Reading (List Entry))
            → accepted n ≡ ladder (file_rung r ∷ rung (not (columns_reach c (length (entries_in r)) && groups_reach g (length (entries_in r)))) 9 0 ∷ []) (length (entries_in r))
            → (n ≡ length (entries_in r)) × ((file_verdict r ≡ accepted (length (entries_in r)))
            × ((columns_reach c (length (entries_in r)) && groups_reach g (length (entries_in r))) ≡ true))
        by_cases (faulty p) e = absurd (accepted_refused n 1 p e)
        by_cases (found es at) e =
            let b = columns_reach c (length es) && groups_reach g (length es) in (
              ladder_value (rung (not b) 9 0 ∷ []) (length es) n e,
              (refl, not-false b (ladder_clear (not b) 9 0 [] (length es) n (sym e)).0),
            )

    pub readable : Readable file c.kinds c.lefts c.rights
    readable =
        let r = read_in in
        record {
          no_fault = r.no_fault;
          kinds_reach = r.entries_reach.kinds_reach;
          lefts_reach = r.entries_reach.lefts_reach;
          rights_reach = r.entries_reach.rights_reach;
        }

    is_found_lem : table_in file ≡ found nodes (end_of (table_in file))
    is_found_lem = accepted_found (table_in file) (length nodes) read_in.no_fault

    right-at : (k : ℕ) → k < length nodes → entry_right (columns_of nodes) k ≡ true
    right-at = entries_right file nodes (end_of (table_in file)) is_found_lem

    pub some_node : 1 ≤ n
    some_node = let e = read_in.counted in let b = (count-right file nodes (end_of (table_in file)) is_found_lem).0 in omega arith

    -- The columns that hold the nodes reach their count.
    written_reach : (f : Entry → ℕ) (old : List ℕ) → length nodes ≤ length (map f nodes ++ drop (length nodes) old)
    written_reach f old = simp (length-append, length-map) (omega arith)

    pub fillable_after : (d : Columns) → d ≡ entries_written nodes c → Fillable d g n
    fillable_after d e =
        subst (λ k. Fillable d g k) (sym read_in.counted)
        (subst (λ x. Fillable x g (length nodes)) (sym e)
        (record {
          reach =
              record {
                few = (count-right file nodes (end_of (table_in file)) is_found_lem).1;
                entries_reach =
                    record {
                      kinds_reach = written_reach (λ x. x.kind) c.kinds;
                      lefts_reach = written_reach (λ x. x.left) c.lefts;
                      rights_reach = written_reach (λ x. x.right) c.rights;
                    };
                groups-reach = read_in.groups-reach;
              };
          entries = entry_written nodes c right-at;
        }))

    -- The groups that are filled in are those of the file's nodes.
    pub groups-after : (d : Columns) → d ≡ entries_written nodes c → groups_written d n g ≡ groups_written (columns_of nodes) (length nodes) g
    groups-after d e =
        ap (λ k. groups_written d k g) read_in.counted ∙ ap (λ x. groups_written x (length nodes) g) e ∙ groups-written nodes c right-at g

  -- An answer of `read_table` with all columns and the groups afterwards.
  abbrev pub Reads : Answer ℕ → Columns → List ℕ → Type 0
  Reads a d h =
      (a ≡ read_table_call file c g)
      × ((d.kinds ≡ (read_table_columns_out file c g).kinds)
      × ((d.lefts ≡ (read_table_columns_out file c g).lefts)
      × ((d.rights ≡ (read_table_columns_out file c g).rights)
      × (h ≡ read_table_groups_out file c g))))

  -- A column after a refusal, and after an accepted call.
  stays : (m p : ℕ) → refused m p ≡ read_table_call file c g → (before after : List ℕ) → before ≡ kept (read_table_call file c g) before after
  stays m p h before after = sym (kept_refused (read_table_call file c g) m p before after (sym h))

  turns : (n : ℕ) → accepted n ≡ read_table_call file c g → (before after now' : List ℕ) → now' ≡ after → now' ≡ kept (read_table_call file c g) before after
  turns n h before after now' e = e ∙ sym (kept_accepted (read_table_call file c g) n before after (sym h))

  pub read_kept : (m p : ℕ) → refused m p ≡ read_table_call file c g → Reads (refused m p) c g
  read_kept m p h =
      let d = entries_written nodes c in
      let s = stays m p h in (
        h,
        (
          s c.kinds d.kinds,
          (s c.lefts d.lefts, (s c.rights d.rights, s g (groups_written (columns_of nodes) (length nodes) g))),
        ),
      )

  pub read_written : (n : ℕ) (d : Columns) (after : List ℕ) → accepted n ≡ read_table_call file c g → d ≡ entries_written nodes c → after ≡ groups_written d n g
      → Reads (accepted n) d after
  read_written n d after h e w =
      let x = entries_written nodes c in
      let s = turns n h in (
        h,
        (
          s c.kinds x.kinds d.kinds (ap (λ z. z.kinds) e),
          (
            s c.lefts x.lefts d.lefts (ap (λ z. z.lefts) e),
            (
              s c.rights x.rights d.rights (ap (λ z. z.rights) e),
              s g (groups_written (columns_of nodes) (length nodes) g) after (w ∙ groups-after n h d e),
            ),
          ),
        ),
      )
