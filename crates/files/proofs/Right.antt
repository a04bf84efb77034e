-- A table that is read from a file is right: its count, and the entry of every node.
--
--   entries_right               the entry of each node that is read is right
--   count-right                 there are 1 to 1,024
-- Assumes nothing.
use Prim.Native.Nat.{ℕ, zero, suc, ◌+◌, ◌≤◌, ◌<◌}
use mathlib.Core.Path.{◌≡◌, refl, subst}
use mathlib.Core.Bool.{true, ◌&&◌}
use mathlib.Core.List.{List}
use native.Mathlib.Nat.{add-zero, zero-add, le_of_suc-le-suc, not-suc-le-zero}
use native.Mathlib.Omega.{arith}
use lib.Dec.{ltb}
use lib.ListN.{length, get_or, get_or-map}
use borrow.Author.Tests.{ltb-true}
use Rattle.meaning.specs.Tables.{sides_right, entry_right}
use Rattle.meaning.specs.Files.{found, Entry, table_in, columns_of}
use Rattle.meaning.proofs.Tests.{and_both}
use Rattle.files.proofs.Nodes.{number_range, count_range}
use Rattle.files.proofs.Read.{EntryRead, a_unit, with_sides, NodesRead, no_node, a-node, table_read}

-- What stands for a node past the last: a unit.
pub no_entry : Entry
no_entry = record { kind = 0; left = 0; right = 0 }

-- Sides below the node are right of a sum and of a product.
two_sides : (k n l r : ℕ) → suc k < 3 → (ltb l n && ltb r n) ≡ true → sides_right (suc k) n l r ≡ true
two_sides zero n l r h e = e
two_sides (suc zero) n l r h e = e
two_sides (suc (suc k)) n l r h e = absurd (too_large h)
  where
    too_large : suc (suc (suc k)) < 3 → ⊥
    too_large x = omega arith

node_right : (file : List ℕ) (n at : ℕ) (e : Entry) (next : ℕ) → EntryRead file n at e next → sides_right e.kind n e.left e.right ≡ true
node_right file n at e next (a_unit q) = refl
node_right file n at e next (with_sides {k = k} {l = l} {r = r} {left_at = la} {right-at = ra} {next = x} kq lq rq) =
    two_sides k n l r (ltb-true (suc k) 3 (number_range (λ m. ltb m 3) file at (suc k) la kq).1)
    (and_both (ltb l n) (ltb r n) (number_range (λ m. ltb m n) file la l ra lq).1 (number_range (λ m. ltb m n) file ra r x rq).1)

nodes_right : (file : List ℕ) (n at : ℕ) (es : List Entry) (last : ℕ) → NodesRead file n at es last → (i : ℕ) → i < length es
    → sides_right (get_or es i no_entry).kind (n + i) (get_or es i no_entry).left (get_or es i no_entry).right ≡ true
nodes_right file n at es last no_node i h = absurd (not-suc-le-zero h)
nodes_right file n at es last (a-node {next = next} {e = e} x xs) zero h = rw add-zero (node_right file n at e next x)
nodes_right file n at es last (a-node {next = next} {last = end} {es = fs} x xs) (suc i) h =
    let s : n + suc i ≡ suc n + i = omega arith in
    rw s (nodes_right file (suc n) next fs end xs i (le_of_suc-le-suc h))

-- The entry of each node that is read is right.
pub entries_right : (file : List ℕ) (es : List Entry) (last : ℕ) → table_in file ≡ found es last
    → (k : ℕ) → k < length es → entry_right (columns_of es) k ≡ true
unfolding entry_right no_entry
entries_right file es last q k h =
    let t = table_read file es last q in
    rw (
      get_or-map (λ (e : Entry). e.kind) es k no_entry,
      get_or-map (λ (e : Entry). e.left) es k no_entry,
      get_or-map (λ (e : Entry). e.right) es k no_entry,
    )
    (subst (λ n. sides_right (get_or es k no_entry).kind n (get_or es k no_entry).left (get_or es k no_entry).right ≡ true) (zero-add k)
    (nodes_right file 0 t.start es last t.nodes k h))

-- A table that is read has 1 to 1,024 nodes.
pub count-right : (file : List ℕ) (es : List Entry) (last : ℕ) → table_in file ≡ found es last → (1 ≤ length es) × (length es ≤ 1024)
count-right file es last q =
    let t = table_read file es last q in
    count_range file (length es) t.start t.counted
