-- Tables: document 01, "The type table", and document 02, K9 and K1. The entries of a table lie in three lent columns; its facts lie in one lent buffer,
-- a group of bytes for each node.
--
--   Columns Facts Table         what a call is handed
--   facts_in table              the facts that groups hold, and a table from its columns, groups and count
--   kind left right             the entry of a node
--   node ty_to ty_at             the type of a node: its tree
--   class_of                     the smallest node with the same tree
--   digit                       a fact that is yes or no, as a number
--   NodeFacts facts_at          all facts of a node
--   sides_right entry_right     an entry is right
--   facts_right                 the facts handed in are right
--   count_right                 a count of 1 to 1,024
--   reaches columns_reach facts_reach   columns and facts that reach it
--   groups_reach                groups that reach it
--   first_bad_entry first_bad   the first node at fault, or the count where there is none
use Rattle.std.specs.Prelude.{ℕ, zero, suc, ◌*◌, Bool, true, false, not, ◌&&◌, List, length, get_or, eqb, ltb, leb}
use Rattle.meaning.specs.Choice.{least}
use Rattle.meaning.specs.Types.{Ty, unit, sum, prod, same, width, size, padded, least_length}
use Rattle.meaning.specs.Groups.{group_size, fact_in}

-- The entries of the nodes: a kind (0 unit, 1 sum, 2 product) and the numbers of the two sides.
pub record Columns : Type 0 where
  pub kinds : List ℕ
  pub lefts : List ℕ
  pub rights : List ℕ

-- The facts of the nodes: widths, sizes and least lengths as 64-bit numbers, padded as 0 or 1, classes as node numbers.
pub record Facts : Type 0 where
  pub widths : List ℕ
  pub sizes : List ℕ
  pub paddeds : List ℕ
  pub classes : List ℕ
  pub leasts : List ℕ

-- A table with its facts, as it is handed to a call.
pub record Table : Type 0 where
  pub columns : Columns
  pub facts : Facts
  pub count : ℕ

-- Entries from their three columns.
abbrev pub columns : List ℕ → List ℕ → List ℕ → Columns
columns ks ls rs = record { kinds = ks; lefts = ls; rights = rs }

-- Facts from their five lists.
abbrev pub facts : List ℕ → List ℕ → List ℕ → List ℕ → List ℕ → Facts
facts ws ss ps cs ms = record { widths = ws; sizes = ss; paddeds = ps; classes = cs; leasts = ms }

-- The facts that groups hold: width, size, padded, class and least length, in this order.
abbrev pub facts_in : List ℕ → Facts
facts_in gs = facts (fact_in 0 8 gs) (fact_in 8 8 gs) (fact_in 16 1 gs) (fact_in 17 2 gs) (fact_in 19 8 gs)

-- A table from the columns of its entries, the groups of its facts and its count.
abbrev pub table : List ℕ → List ℕ → List ℕ → List ℕ → ℕ → Table
table ks ls rs gs n = record { columns = columns ks ls rs; facts = facts_in gs; count = n }

-- The kind of a node.
abbrev pub kind : Columns → ℕ → ℕ
kind c n = get_or c.kinds n 0

-- The left side of a node.
abbrev pub left : Columns → ℕ → ℕ
left c n = get_or c.lefts n 0

-- The right side of a node.
abbrev pub right : Columns → ℕ → ℕ
right c n = get_or c.rights n 0

-- The type of a kind and two sides. A kind above 2 is no kind: `sides_right` refuses it, whatever stands for it here.
abbrev pub node : ℕ → Ty → Ty → Ty
node zero a b = unit
node (suc zero) a b = sum a b
node (suc (suc k)) a b = prod a b

-- The tree of a node, followed down to a depth.
unfoldable pub ty_to : ℕ → Columns → ℕ → Ty
ty_to zero c n = unit
ty_to (suc d) c n = node (kind c n) (ty_to d c (left c n)) (ty_to d c (right c n))

-- The tree of a node. Sides stand earlier than their parent, so the node's own number is depth enough.
unfoldable pub ty_at : Columns → ℕ → Ty
ty_at c n = ty_to (suc n) c n

-- The class of a node: the smallest number of a node with the same tree.
unfoldable pub class_of : Columns → ℕ → ℕ
class_of c n = least (λ m. same (ty_at c m) (ty_at c n)) n

-- A yes or no as a number.
abbrev pub digit : Bool → ℕ
digit true = 1
digit false = 0

-- Everything that a table says of a node.
pub record NodeFacts : Type 0 where
  pub width_of : ℕ
  pub size_of : ℕ
  pub padded_of : Bool
  pub class_no : ℕ
  pub kind_of : ℕ
  pub left_node : ℕ
  pub right_node : ℕ
  pub least_of : ℕ

-- The facts of a node, by its tree.
abbrev pub facts_at : Columns → ℕ → NodeFacts
facts_at c n =
    record {
      width_of = width (ty_at c n);
      size_of = size (ty_at c n);
      padded_of = padded (ty_at c n);
      class_no = class_of c n;
      kind_of = kind c n;
      left_node = left c n;
      right_node = right c n;
      least_of = least_length (ty_at c n);
    }

-- The sides that a kind allows at node n: zeros for a unit, earlier nodes for a sum and a product. There is no other kind.
abbrev pub sides_right : ℕ → ℕ → ℕ → ℕ → Bool
sides_right zero n l r = eqb l 0 && eqb r 0
sides_right (suc zero) n l r = ltb l n && ltb r n
sides_right (suc (suc zero)) n l r = ltb l n && ltb r n
sides_right (suc (suc (suc k))) n l r = false

-- The entry of a node is right.
unfoldable pub entry_right : Columns → ℕ → Bool
entry_right c n = sides_right (kind c n) n (left c n) (right c n)

-- The facts handed in for a node are those of its tree.
unfoldable pub facts_right : Columns → Facts → ℕ → Bool
facts_right c f n =
    eqb (get_or f.widths n 0) (width (ty_at c n))
    && eqb (get_or f.sizes n 0) (size (ty_at c n))
    && eqb (get_or f.paddeds n 0) (digit (padded (ty_at c n)))
    && eqb (get_or f.classes n 0) (class_of c n)
    && eqb (get_or f.leasts n 0) (least_length (ty_at c n))

-- A table has 1 to 1,024 nodes.
abbrev pub count_right : ℕ → Bool
count_right n = leb 1 n && leb n 1024

-- A column has an entry for each of the nodes. What lies past the count is nobody's business.
abbrev pub reaches : ℕ → List ℕ → Bool
reaches n xs = leb n (length xs)

-- The columns of the entries reach the count.
abbrev pub columns_reach : Columns → ℕ → Bool
columns_reach c n = reaches n c.kinds && reaches n c.lefts && reaches n c.rights

-- There are facts for each of the nodes.
abbrev pub facts_reach : Facts → ℕ → Bool
facts_reach f n = reaches n f.widths && reaches n f.sizes && reaches n f.paddeds && reaches n f.classes && reaches n f.leasts

-- There is a whole group for each of the nodes.
abbrev pub groups_reach : List ℕ → ℕ → Bool
groups_reach gs n = leb (group_size * n) (length gs)

-- The first node whose entry is wrong, or the count where none is.
unfoldable pub first_bad_entry : Columns → ℕ → ℕ
first_bad_entry c n = least (λ k. not (entry_right c k)) n

-- The first node whose entry or any of whose facts is wrong, or the count where none is.
unfoldable pub first_bad : Table → ℕ
first_bad t = least (λ k. not (entry_right t.columns k && facts_right t.columns t.facts k)) t.count
