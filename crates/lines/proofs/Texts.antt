-- What is printed of a table that was read is the report of its file.
--
--   accepted_text refused_text  after `read_table`: the kinds and the groups that it leaves, and its refusal, have the report of the file
-- Assumes nothing.
use Prim.Native.Nat.{ℕ, ◌*◌, ◌≤◌}
use mathlib.Core.Path.{◌≡◌, refl, ap, sym, ◌∙◌}
use mathlib.Core.Bool.{Bool, true, false, not, ◌&&◌}
use mathlib.Core.List.{List, [], ◌∷◌, ◌++◌, map}
use native.Mathlib.Omega.{arith}
use lib.Dec.{leb}
use lib.ListN.{length, drop, length-map, get_or-append}
use Rattle.meaning.specs.Groups.{group_size}
use Rattle.meaning.specs.Tables.{Columns, facts_in, facts_at, columns_reach}
use Rattle.meaning.specs.Files.{Reading, faulty, found, Entry, table_in, columns_of}
use Rattle.meaning.specs.Ladder.{Answer, refused, accepted, rung, ladder}
use Rattle.meaning.specs.TypeCalls.{groups_written, file_rung, entries_in, entries_written, read_table_call, read_table_columns_out, read_table_groups_out}
use Rattle.meaning.proofs.GroupLaws.{written_width, written_size, written_padded, written_class, written_least}
use Rattle.meaning.proofs.Ladders.{accepted_refused, number_of, place_of, kept_accepted}
use Rattle.lines_digits.specs.Report.{node_line, line_in, facts_line, head_line, refusal_line, groups_text, table_text, reading_text, file_text}
use Rattle.lines.proofs.Lines.{lines_agree}

-- The column of kinds and the groups of some nodes have the report of those nodes.
nodes_text : (es : List Entry) (c : Columns) (gs : List ℕ) → length es ≤ 1024
    → groups_text (entries_written es c).kinds (groups_written (columns_of es) (length es) gs) (length es) ≡ table_text (columns_of es) (length es)
nodes_text es c gs few =
    let t = columns_of es in
    let n = length es in
    ap (λ s. head_line n ++ s)
    (lines_agree (line_in (entries_written es c).kinds (facts_in (groups_written t n gs))) (λ k. facts_line k (facts_at t k)) n
    (λ k h i. node_line k (get_or-append (map (λ e. e.kind) es) (drop n c.kinds) 0 k (rw length-map h) i) (written_width t n gs k h few i)
    (written_size t n gs k h few i) (written_padded t n gs k h few i) (written_class t n gs k h few i) (written_least t n gs k h few i)))

-- What `read_table` answers of a reading.
answer : Reading (List Entry) → Columns → List ℕ → Answer ℕ
answer r c gs =
    ladder
    (file_rung r ∷ rung (not (columns_reach c (length (entries_in r)) && leb (group_size * length (entries_in r)) (length gs))) 9 0 ∷ [])
    (length (entries_in r))

-- The count of an answer.
abbrev count_of : Answer ℕ → ℕ
count_of (refused n p) = 0
count_of (accepted n) = n

-- An accepted reading is found, and its count is the answer.
when_accepted : (r : Reading (List Entry)) (c : Columns) (gs : List ℕ) (n : ℕ) → answer r c gs ≡ accepted n
    → (length (entries_in r) ≡ n) × (reading_text r ≡ table_text (columns_of (entries_in r)) (length (entries_in r)))
unfolding answer ladder
when_accepted (faulty p) c gs n e = absurd (accepted_refused n 1 p (sym e))
when_accepted (found es at) c gs n e = (by_test (not (columns_reach c (length es) && leb (group_size * length es) (length gs))) e, refl)
  where
    by_test : (b : Bool) → ladder (rung b 9 0 ∷ []) (length es) ≡ accepted n → length es ≡ n
    by_test true q = absurd (accepted_refused n 9 0 (sym q))
    by_test false q = ap count_of q

-- A reading that is refused as an unsound table is faulty at that place.
when_refused : (r : Reading (List Entry)) (c : Columns) (gs : List ℕ) (p : ℕ) → answer r c gs ≡ refused 1 p → refusal_line 1 p ≡ reading_text r
unfolding answer ladder
when_refused (faulty q) c gs p e = ap (refusal_line 1) (sym (ap place_of e))
when_refused (found es at) c gs p e = absurd (by_test (not (columns_reach c (length es) && leb (group_size * length es) (length gs))) e)
  where
    by_test : (b : Bool) → ladder (rung b 9 0 ∷ []) (length es) ≡ refused 1 p → ⊥
    by_test true q = let z : ◌≡◌ {A = ℕ} 9 1 = ap number_of q in omega arith
    by_test false q = accepted_refused (length es) 1 p q

-- After a `read_table` that was accepted, the kinds and the groups have the report of the file.
pub accepted_text : (file : List ℕ) (c : Columns) (gs : List ℕ) (n : ℕ) → n ≤ 1024 → read_table_call file c gs ≡ accepted n
    → groups_text (read_table_columns_out file c gs).kinds (read_table_groups_out file c gs) n ≡ file_text file
unfolding answer file_text
accepted_text file c gs n few e =
    let es = entries_in (table_in file) in
    let found = when_accepted (table_in file) c gs n e in
    (λ i. groups_text (kept_accepted (read_table_call file c gs) n c.kinds (entries_written es c).kinds e i)
    (kept_accepted (read_table_call file c gs) n gs (groups_written (columns_of es) (length es) gs) e i) (sym found.0 i))
    ∙ nodes_text es c gs (omega (arith, found.0))
    ∙ sym found.1

-- Where `read_table` refuses the file, the line of the refusal is the report of the file.
pub refused_text : (file : List ℕ) (c : Columns) (gs : List ℕ) (p : ℕ) → read_table_call file c gs ≡ refused 1 p → refusal_line 1 p ≡ file_text file
unfolding answer file_text
refused_text file c gs p e = when_refused (table_in file) c gs p e
