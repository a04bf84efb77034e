-- The columns of document 02's K9: each of the five facts that it names in a column of its own, as the first four lay before it. No call takes
-- them; they stand here for the theorem that both layouts hold the same facts and give every call the same answer (laws/proofs/Layouts and the
-- files beside it).
--
--   columns_table               a table from its eight columns and its count
--   filled facts_written facts_kept             columns of facts after a call
--   fill_columns fill_columns_out  facts from entries, written to columns
--   read_columns read_columns_entries read_columns_facts  a table from its file, its facts written to columns
use Rattle.std.specs.Prelude.{ℕ, not, ◌&&◌, List, [], ◌∷◌, ◌++◌, map, length, drop, ltb}
use Rattle.meaning.specs.Choice.{from}
use Rattle.meaning.specs.Types.{width, size, padded, least_length}
use Rattle.meaning.specs.Tables.{Columns, Facts, Table, columns, facts, ty_at, class_of, digit, count_right, columns_reach, facts_reach, first_bad_entry}
use Rattle.meaning.specs.Files.{table_in, columns_of}
use Rattle.meaning.specs.Ladder.{Answer, rung, ladder, kept}
use Rattle.meaning.specs.TypeCalls.{file_rung, entries_in, entries_written, columns_kept}

-- A table from its eight columns and its count.
abbrev pub columns_table : List ℕ → List ℕ → List ℕ → List ℕ → List ℕ → List ℕ → List ℕ → List ℕ → ℕ → Table
columns_table ks ls rs ws ss ps cs ms n = record { columns = columns ks ls rs; facts = facts ws ss ps cs ms; count = n }

-- The contents of a column with n entries written from the front on; entries past them stay.
abbrev pub filled : (ℕ → ℕ) → ℕ → List ℕ → List ℕ
filled f n old = map f (from 0 n) ++ drop n old

-- The facts of the first n nodes, written over five columns.
abbrev pub facts_written : Columns → ℕ → Facts → Facts
facts_written c n f =
    record {
      widths = filled (λ k. width (ty_at c k)) n f.widths;
      sizes = filled (λ k. size (ty_at c k)) n f.sizes;
      paddeds = filled (λ k. digit (padded (ty_at c k))) n f.paddeds;
      classes = filled (class_of c) n f.classes;
      leasts = filled (λ k. least_length (ty_at c k)) n f.leasts;
    }

-- The facts' columns after a call: as they stood if it was refused.
abbrev pub facts_kept : {A : Type 0} → Answer A → Facts → Facts → Facts
facts_kept a before after =
    record {
      widths = kept a before.widths after.widths;
      sizes = kept a before.sizes after.sizes;
      paddeds = kept a before.paddeds after.paddeds;
      classes = kept a before.classes after.classes;
      leasts = kept a before.leasts after.leasts;
    }

-- `fill_facts`: the entries are judged as in a sound table, and the facts' columns must reach the count.
abbrev pub fill_columns : Columns → ℕ → Facts → Answer (Unit {0})
fill_columns c n f =
    ladder
    (rung (not (count_right n && columns_reach c n)) 1 0
    ∷ rung (ltb (first_bad_entry c n) n) 1 (first_bad_entry c n)
    ∷ rung (not (facts_reach f n)) 9 0
    ∷ [])
    tt

-- The facts' columns after `fill_facts`.
abbrev pub fill_columns_out : Columns → ℕ → Facts → Facts
fill_columns_out c n f = facts_kept (fill_columns c n f) f (facts_written c n f)

-- `read_table`: the whole file is judged first; then every column must reach the count, which is the answer.
abbrev pub read_columns : List ℕ → Columns → Facts → Answer ℕ
read_columns file c f =
    ladder
    (file_rung (table_in file)
    ∷ rung (not (columns_reach c (length (entries_in (table_in file))) && facts_reach f (length (entries_in (table_in file))))) 9 0
    ∷ [])
    (length (entries_in (table_in file)))

-- The entries' columns after `read_table`.
abbrev pub read_columns_entries : List ℕ → Columns → Facts → Columns
read_columns_entries file c f = columns_kept (read_columns file c f) c (entries_written (entries_in (table_in file)) c)

-- The facts' columns after `read_table`.
abbrev pub read_columns_facts : List ℕ → Columns → Facts → Facts
read_columns_facts file c f =
    facts_kept (read_columns file c f) f
    (facts_written (columns_of (entries_in (table_in file))) (length (entries_in (table_in file))) f)
