-- How samples are put: tables read from their files, and what a call says, all in one type.
--
--   table_s table_b             table S; one with the words 0 to 4 and buffer types 0 and 1: each is what its file says
--   Said                        what a call answers, or leaves in its output
--   Sample defined paper        what the definitions say and what the paper says, and each of the two
--   spare                       an output of two bytes
--   one                         a record that begins a byte
-- Assumes nothing.
use mathlib.Core.Bool.{Bool}
use mathlib.Core.List.{List, [], ◌∷◌}
use Prim.Native.Nat.{ℕ, Ordering}
use lib.ListN.{length}
use mathlib.Core.Path.{◌≡◌, refl}
use Rattle.meaning.specs.Choice.{least, from}
use Rattle.meaning.specs.Types.{same, width, size, padded, least_length}
use Rattle.meaning.specs.Groups.{low, low_bytes, fact_in}
use Rattle.meaning.specs.Tables.{ty_to, ty_at, class_of, Table, facts_in, NodeFacts}
use Rattle.meaning.specs.Files.{Entry, table_in, seven_bit_groups, entry_from, entries_from, columns_of}
use Rattle.meaning.specs.Ladder.{Answer, Record, record_of}
use Rattle.meaning.specs.TypeCalls.{entries_in, group_of, groups_of}
use Rattle.meaning.specs.RecordCalls.{Spot, Spots}
use Rattle.meaning.specs.OldLayout.{columns_table}

-- A table with the nodes of a file and the facts of their trees, laid as groups.
table_of : List Entry → Table
table_of es = record { columns = columns_of es; facts = facts_in (groups_of (columns_of es) (length es)); count = length es }

table_from : List ℕ → Table
table_from file = table_of (entries_in (table_in file))

-- Table S, its facts as numbers.
unfoldable pub table_s : Table
table_s =
    columns_table (0 ∷ 1 ∷ 2 ∷ 1 ∷ 2 ∷ 1 ∷ 1 ∷ 2 ∷ 1 ∷ 1 ∷ []) (0 ∷ 0 ∷ 0 ∷ 0 ∷ 1 ∷ 1 ∷ 0 ∷ 5 ∷ 1 ∷ 1 ∷ []) (0 ∷ 0 ∷ 0 ∷ 1 ∷ 1 ∷ 4 ∷ 0 ∷ 1 ∷ 0 ∷ 2 ∷ [])
    (0 ∷ 1 ∷ 0 ∷ 2 ∷ 2 ∷ 3 ∷ 1 ∷ 4 ∷ 2 ∷ 2 ∷ []) (1 ∷ 3 ∷ 3 ∷ 5 ∷ 7 ∷ 11 ∷ 3 ∷ 15 ∷ 5 ∷ 7 ∷ []) (0 ∷ 0 ∷ 0 ∷ 1 ∷ 0 ∷ 1 ∷ 0 ∷ 1 ∷ 1 ∷ 1 ∷ [])
    (0 ∷ 1 ∷ 2 ∷ 3 ∷ 4 ∷ 5 ∷ 1 ∷ 7 ∷ 8 ∷ 9 ∷ []) (0 ∷ 1 ∷ 0 ∷ 1 ∷ 2 ∷ 2 ∷ 1 ∷ 3 ∷ 1 ∷ 1 ∷ []) 10

-- It is what its file says.
file_s : table_from (0x0A ∷ 0x00 ∷ 0x01 ∷ 0x00 ∷ 0x00 ∷ 0x02 ∷ 0x00 ∷ 0x00 ∷ 0x01 ∷ 0x00 ∷ 0x01 ∷ 0x02 ∷ 0x01 ∷ 0x01 ∷ 0x01 ∷ 0x01 ∷ 0x04 ∷ 0x01 ∷ 0x00 ∷ 0x00 ∷ 0x02 ∷ 0x05 ∷ 0x01 ∷ 0x01 ∷ 0x01 ∷ 0x00 ∷ 0x01 ∷ 0x01 ∷ 0x02 ∷ []) ≡ table_s
unfolding table_s table_from table_of group_of groups_of low low_bytes fact_in from same width size padded least_length ty_to ty_at class_of least table_in seven_bit_groups entry_from entries_from
file_s = refl

-- A table with the words 0 to 4 (nodes 1 to 5) and buffer types 0 and 1 (nodes 6 and 8).
unfoldable pub table_b : Table
table_b =
    columns_table (0 ∷ 1 ∷ 2 ∷ 2 ∷ 2 ∷ 2 ∷ 1 ∷ 1 ∷ 2 ∷ []) (0 ∷ 0 ∷ 1 ∷ 2 ∷ 3 ∷ 4 ∷ 0 ∷ 0 ∷ 7 ∷ []) (0 ∷ 0 ∷ 1 ∷ 2 ∷ 3 ∷ 4 ∷ 4 ∷ 5 ∷ 6 ∷ [])
    (0 ∷ 1 ∷ 2 ∷ 4 ∷ 8 ∷ 16 ∷ 9 ∷ 17 ∷ 26 ∷ []) (1 ∷ 3 ∷ 7 ∷ 15 ∷ 31 ∷ 63 ∷ 33 ∷ 65 ∷ 99 ∷ []) (0 ∷ 0 ∷ 0 ∷ 0 ∷ 0 ∷ 0 ∷ 1 ∷ 1 ∷ 1 ∷ [])
    (0 ∷ 1 ∷ 2 ∷ 3 ∷ 4 ∷ 5 ∷ 6 ∷ 7 ∷ 8 ∷ []) (0 ∷ 1 ∷ 2 ∷ 4 ∷ 8 ∷ 16 ∷ 1 ∷ 1 ∷ 2 ∷ []) 9

-- It is what its file says.
file_b : table_from (0x09 ∷ 0x00 ∷ 0x01 ∷ 0x00 ∷ 0x00 ∷ 0x02 ∷ 0x01 ∷ 0x01 ∷ 0x02 ∷ 0x02 ∷ 0x02 ∷ 0x02 ∷ 0x03 ∷ 0x03 ∷ 0x02 ∷ 0x04 ∷ 0x04 ∷ 0x01 ∷ 0x00 ∷ 0x04 ∷ 0x01 ∷ 0x00 ∷ 0x05 ∷ 0x02 ∷ 0x07 ∷ 0x06 ∷ []) ≡ table_b
unfolding table_b table_from table_of group_of groups_of low low_bytes fact_in from same width size padded least_length ty_to ty_at class_of least table_in seven_bit_groups entry_from entries_from
file_b = refl

-- What a call answers, or leaves in its output.
pub data Said : Type 0 where
  done : Answer (Unit {0}) → Said
  node-facts : Answer NodeFacts → Said
  flag : Answer Bool → Said
  count : Answer ℕ → Said
  number : ℕ → Said
  order : Answer Ordering → Said
  place : Answer Spot → Said
  places : Answer Spots → Said
  out : List ℕ → Said

-- What the definitions say, and what the paper says.
pub data Sample : Type 0 where
  sample : Said → Said → Sample

unfoldable pub defined : Sample → Said
defined (sample d p) = d

unfoldable pub paper : Sample → Said
paper (sample d p) = p

-- An output of two bytes.
unfoldable pub spare : List ℕ
spare = 0xFF ∷ 0xFF ∷ []

-- A record that begins a byte.
abbrev pub one : ℕ → ℕ → Record
one b n = record_of (b ∷ []) 0 n
