-- The calls on tables and types, each with its answer and, where it fills lent columns or groups, their contents afterwards.
--
--   check_table_call                the check
--   group_of groups_of groups_written             the groups of nodes, and a buffer with them written
--   fill_facts_call fill_facts_out  the groups of the facts, from the entries
--   file_rung entries_in entries_written columns_kept   a file's fault as a rung, its nodes, and the columns after it was read
--   read_table_call read_table_columns_out read_table_groups_out  a table from its file
--   Sides sides_at              the two sides of a node
--   asks facts_of_call same_type_call is_unit_call is_empty_call type_as_sum_call type_as_product_call pad_left_call pad_right_call as_word_call
--   word_width_call buffer_width_call is_buffer8_call is_ctx8_call  the type-only questions
use Rattle.std.specs.Prelude.{ℕ, zero, suc, ◌*◌, ◌-◌, max, Bool, true, false, not, ◌&&◌, List, [], ◌∷◌, ◌++◌, map, length, drop, get_or, eqb, ltb}
use Rattle.meaning.specs.Types.{same, bits, width, size, padded, least_length, is_unit, is_sum, is_prod}
use Rattle.meaning.specs.Groups.{group, group_size}
use Rattle.meaning.specs.Tables.{Columns, Table, left, right, ty_at, class_of, digit, NodeFacts, facts_at, count_right, columns_reach, groups_reach, first_bad_entry}
use Rattle.meaning.specs.Files.{Reading, faulty, found, Entry, table_in, columns_of}
use Rattle.meaning.specs.Words.{word_widths, as_word, buffer, ctx8}
use Rattle.meaning.specs.Ladder.{Answer, Rung, rung, ladder, kept, type_at, sound, present, ranged, shaped}

-- The group of a node, by its tree.
unfoldable pub group_of : Columns → ℕ → List ℕ
group_of c n = group (width (ty_at c n)) (size (ty_at c n)) (digit (padded (ty_at c n))) (class_of c n) (least_length (ty_at c n))

-- The groups of the first n nodes.
unfoldable pub groups_of : Columns → ℕ → List ℕ
groups_of c zero = []
groups_of c (suc n) = groups_of c n ++ group_of c n

-- A buffer after the groups of the first n nodes were written to it; later bytes stay.
abbrev pub groups_written : Columns → ℕ → List ℕ → List ℕ
groups_written c n old = groups_of c n ++ drop (group_size * n) old

-- `check_table`: the table is sound.
abbrev pub check_table_call : Table → Answer (Unit {0})
check_table_call t = ladder (sound t) tt

-- `fill_facts`: the entries are judged as in a sound table, and the buffer must have a group for each node.
abbrev pub fill_facts_call : Columns → ℕ → List ℕ → Answer (Unit {0})
fill_facts_call c n gs =
    ladder
    (rung (not (count_right n && columns_reach c n)) 1 0
    ∷ rung (ltb (first_bad_entry c n) n) 1 (first_bad_entry c n)
    ∷ rung (not (groups_reach gs n)) 9 0
    ∷ [])
    tt

-- The buffer after `fill_facts`.
abbrev pub fill_facts_out : Columns → ℕ → List ℕ → List ℕ
fill_facts_out c n gs = kept (fill_facts_call c n gs) gs (groups_written c n gs)

-- A faulty file is an unsound table, and the place is the fault's.
abbrev pub file_rung : {A : Type 0} → Reading A → Rung
file_rung (faulty p) = rung true 1 p
file_rung (found a at) = rung false 1 0

-- The nodes of a file that has no fault.
abbrev pub entries_in : Reading (List Entry) → List Entry
entries_in (faulty p) = []
entries_in (found es at) = es

-- `read_table`: the whole file is judged first; then every column must reach the count, which is the answer, and the buffer must have a
-- group for each node.
abbrev pub read_table_call : List ℕ → Columns → List ℕ → Answer ℕ
read_table_call file c gs =
    ladder
    (file_rung (table_in file)
    ∷ rung (not (columns_reach c (length (entries_in (table_in file))) && groups_reach gs (length (entries_in (table_in file))))) 9 0
    ∷ [])
    (length (entries_in (table_in file)))

-- A list of nodes, written over three columns.
abbrev pub entries_written : List Entry → Columns → Columns
entries_written es c =
    record {
      kinds = map (λ e. e.kind) es ++ drop (length es) c.kinds;
      lefts = map (λ e. e.left) es ++ drop (length es) c.lefts;
      rights = map (λ e. e.right) es ++ drop (length es) c.rights;
    }

-- The columns after a call: as they stood if it was refused.
abbrev pub columns_kept : {A : Type 0} → Answer A → Columns → Columns → Columns
columns_kept a before after =
    record {
      kinds = kept a before.kinds after.kinds;
      lefts = kept a before.lefts after.lefts;
      rights = kept a before.rights after.rights;
    }

-- The entries' columns after `read_table`.
abbrev pub read_table_columns_out : List ℕ → Columns → List ℕ → Columns
read_table_columns_out file c gs = columns_kept (read_table_call file c gs) c (entries_written (entries_in (table_in file)) c)

-- The buffer after `read_table`.
abbrev pub read_table_groups_out : List ℕ → Columns → List ℕ → List ℕ
read_table_groups_out file c gs =
    kept (read_table_call file c gs) gs
    (groups_written (columns_of (entries_in (table_in file))) (length (entries_in (table_in file))) gs)

-- A question about the type of a node.
abbrev pub asks : {A : Type 0} → Table → List ℕ → List Rung → A → Answer A
asks t ns own a = ladder (sound t ++ (present t ns ++ own)) a

-- `facts_of`: everything that the table says of a node.
abbrev pub facts_of_call : Table → ℕ → Answer NodeFacts
facts_of_call t n = asks t (n ∷ []) [] (facts_at t.columns n)

-- `same_type`: equal types means equal class, which is the same tree.
abbrev pub same_type_call : Table → ℕ → ℕ → Answer Bool
same_type_call t a b = asks t (a ∷ b ∷ []) [] (same (type_at t a) (type_at t b))

-- `is_unit`: the type is unit.
abbrev pub is_unit_call : Table → ℕ → Answer Bool
is_unit_call t n = asks t (n ∷ []) [] (is_unit (type_at t n))

-- `is_empty`: the type has no width.
abbrev pub is_empty_call : Table → ℕ → Answer Bool
is_empty_call t n = asks t (n ∷ []) [] (eqb (width (type_at t n)) 0)

-- The two sides of a node, as the columns have them.
pub record Sides : Type 0 where
  pub left_node : ℕ
  pub right_node : ℕ

-- The sides of a node.
abbrev pub sides_at : Table → ℕ → Sides
sides_at t n = record { left_node = left t.columns n; right_node = right t.columns n }

-- `as_sum` of a type: the sides of a sum.
abbrev pub type_as_sum_call : Table → ℕ → Answer Sides
type_as_sum_call t n = asks t (n ∷ []) (shaped (is_sum (type_at t n))) (sides_at t n)

-- `as_product` of a type: the sides of a product.
abbrev pub type_as_product_call : Table → ℕ → Answer Sides
type_as_product_call t n = asks t (n ∷ []) (shaped (is_prod (type_at t n))) (sides_at t n)

-- `pad_left`: the padding of left records of the sum of two types, by their 64-bit widths.
abbrev pub pad_left_call : Table → ℕ → ℕ → Answer ℕ
pad_left_call t a b =
    asks t (a ∷ b ∷ []) []
    (max (width (type_at t a)) (width (type_at t b)) - width (type_at t a))

-- `pad_right`: the padding of right records of the sum of two types, by their 64-bit widths.
abbrev pub pad_right_call : Table → ℕ → ℕ → Answer ℕ
pad_right_call t a b =
    asks t (a ∷ b ∷ []) []
    (max (width (type_at t a)) (width (type_at t b)) - width (type_at t b))

-- `as_word`: n for that exact tree, else wrong shape.
abbrev pub as_word_call : Table → ℕ → Answer ℕ
as_word_call t n = asks t (n ∷ []) (shaped (ltb (as_word (type_at t n)) 32)) (as_word (type_at t n))

-- `word_width`: the width of word type n.
abbrev pub word_width_call : ℕ → Answer ℕ
word_width_call n = ladder (ranged (ltb n 32)) (get_or word_widths n 0)

-- `buffer_width`: the width of buffer type n.
abbrev pub buffer_width_call : ℕ → Answer ℕ
buffer_width_call n = ladder (ranged (ltb n 13)) (bits (buffer n))

-- `is_buffer8`: the type is buffer type n.
abbrev pub is_buffer8_call : Table → ℕ → ℕ → Answer Bool
is_buffer8_call t a n = asks t (a ∷ []) (ranged (ltb n 13)) (same (type_at t a) (buffer n))

-- `is_ctx8`: the type is the hash state's.
abbrev pub is_ctx8_call : Table → ℕ → Answer Bool
is_ctx8_call t a = asks t (a ∷ []) [] (same (type_at t a) ctx8)
