-- The file form of a table, with the place of every fault: document 01, "The type table".
--
--   Reading                     what is read, with the offset after it; or the place of the fault
--   seven_bit_groups number_at   a number in groups of seven bits, shortest form; one of at most two groups
--   number                      such a number in its range
--   and_then                     one reading after another
--   Entry                       a node as the file has it
--   entry_of entry_from entries_from  a node of a kind, a node, several nodes
--   ended table_in              the nodes of a whole file, after which nothing follows
--   columns_of                  the columns that hold them
use Rattle.std.specs.Prelude.{ℕ, zero, suc, ◌+◌, ◌*◌, ◌%◌, Bool, cond, List, [], ◌∷◌, map, length, get_or, ltb, leb}
use Rattle.meaning.specs.Tables.{Columns, columns, count_right}

-- What was read and the offset after it, or the place of the first fault.
pub data Reading (A : Type 0) : Type 0 where
  faulty : ℕ → Reading A
  found : A → ℕ → Reading A

-- What was read goes on to the next step; a fault stays.
abbrev pub and_then : {A B : Type 0} → Reading A → (A → ℕ → Reading B) → Reading B
and_then (faulty p) next = faulty p
and_then (found a at) next = next a at

-- A number from one of its groups on, of which at most k are left: seven bits each, the low group first, and the top bit set on all but the
-- last. In the shortest form what follows a group is not 0. A number that has more groups, or that the file's end cuts off, is faulty, and
-- the place of every fault is the offset of its first byte.
unfoldable pub seven_bit_groups : ℕ → List ℕ → ℕ → ℕ → Reading ℕ
seven_bit_groups zero file first at = faulty first
seven_bit_groups (suc k) file first at =
    cond (ltb at (length file))
    (cond (ltb (get_or file at 0) 128)
    (found (get_or file at 0) (at + 1))
    (and_then (seven_bit_groups k file first (at + 1))
    (λ rest next. cond (leb 1 rest) (found (get_or file at 0 % 128 + 128 * rest) next) (faulty first))))
    (faulty first)

-- The number whose first byte stands at an offset: it has at most two groups.
abbrev pub number_at : List ℕ → ℕ → Reading ℕ
number_at file at = seven_bit_groups 2 file at at

-- A number that passes the test of its range; else it is faulty, and its place is its first byte.
abbrev pub number : (ℕ → Bool) → List ℕ → ℕ → Reading ℕ
number in_range file at = and_then (number_at file at) (λ n next. cond (in_range n) (found n next) (faulty at))

-- A node as the file has it.
pub record Entry : Type 0 where
  pub kind : ℕ
  pub left : ℕ
  pub right : ℕ

-- A node of a kind: nothing follows a unit, a sum and a product name two earlier nodes.
abbrev pub entry_of : List ℕ → ℕ → ℕ → ℕ → Reading Entry
entry_of file n zero at = found (record { kind = 0; left = 0; right = 0 }) at
entry_of file n (suc k) at =
    and_then (number (λ l. ltb l n) file at)
    (λ l at₁. and_then (number (λ r. ltb r n) file at₁) (λ r at₂. found (record { kind = suc k; left = l; right = r }) at₂))

-- The node numbered n, from its kind on.
unfoldable pub entry_from : List ℕ → ℕ → ℕ → Reading Entry
entry_from file n at = and_then (number (λ k. ltb k 3) file at) (λ k next. entry_of file n k next)

-- The next k nodes, of which the first is numbered n.
unfoldable pub entries_from : List ℕ → ℕ → ℕ → ℕ → Reading (List Entry)
entries_from file zero n at = found [] at
entries_from file (suc k) n at =
    and_then (entry_from file n at) (λ e next. and_then (entries_from file k (suc n) next) (λ es last. found (e ∷ es) last))

-- Nothing follows the last node: the first surplus byte is the fault.
abbrev pub ended : {A : Type 0} → List ℕ → A → ℕ → Reading A
ended file a at = cond (ltb at (length file)) (faulty at) (found a at)

-- The nodes of a whole file: first their count, then each of them, then the end.
unfoldable pub table_in : List ℕ → Reading (List Entry)
table_in file = and_then (number count_right file 0) (λ n at. and_then (entries_from file n 0 at) (ended file))

-- The columns that hold a list of nodes.
abbrev pub columns_of : List Entry → Columns
columns_of es = columns (map (λ e. e.kind) es) (map (λ e. e.left) es) (map (λ e. e.right) es)
