-- Columns of 1,024 entries and 1,024 groups hold any table, so that a file is refused only for a fault of its own.
--
--   zero_columns zero_groups    columns and groups of 1,024 nodes, all zeros
--   only_faults                 with these a refusal of `read_table` is 1
--   few                         and an accepted count is at most 1,024
-- Assumes nothing.
use Prim.Native.Nat.{ℕ, ◌*◌, ◌≤◌}
use mathlib.Core.Path.{◌≡◌, refl, ap, sym, ◌∙◌}
use mathlib.Core.Bool.{true, ◌&&◌}
use mathlib.Core.List.{List}
use native.Mathlib.Omega.{arith}
use lib.Dec.{leb}
use lib.ListN.{length, replicate, length-replicate}
use borrow.Author.Tests.{le-leb}
use Rattle.meaning.specs.Groups.{group_size}
use Rattle.meaning.specs.Tables.{Columns, columns, columns_reach}
use Rattle.meaning.specs.Files.{Reading, faulty, found, Entry, table_in}
use Rattle.meaning.specs.Ladder.{Answer, refused, accepted, ladder}
use Rattle.meaning.specs.TypeCalls.{read_table_call}
use Rattle.meaning.proofs.Ladders.{accepted_refused, number_of}
use Rattle.files.proofs.Right.{count-right}

abbrev pub zs : List ℕ
zs = replicate 1024 0

abbrev pub zero_columns : Columns
zero_columns = columns zs zs zs

abbrev pub zero_groups : List ℕ
zero_groups = replicate (group_size * 1024) 0

fits : (n : ℕ) → n ≤ 1024 → (columns_reach zero_columns n && leb (group_size * n) (length zero_groups)) ≡ true
fits n h =
    let k = length-replicate {A = ℕ} 1024 0 in
    let g = length-replicate {A = ℕ} (group_size * 1024) 0 in
    rw (le-leb n (length zs) (omega arith), le-leb (group_size * n) (length zero_groups) (omega arith))

-- What is read decides alone.
accepts : (file : List ℕ) (es : List Entry) (at : ℕ) → table_in file ≡ found es at → read_table_call file zero_columns zero_groups ≡ accepted (length es)
unfolding ladder
accepts file es at e = rw (e, fits (length es) (count-right file es at e).1)

refuses : (file : List ℕ) (q : ℕ) → table_in file ≡ faulty q → read_table_call file zero_columns zero_groups ≡ refused 1 q
unfolding ladder
refuses file q e = rw e

pub only_faults : (file : List ℕ) (n p : ℕ) → refused n p ≡ read_table_call file zero_columns zero_groups → n ≡ 1
only_faults file n p h = go (table_in file) refl
  where
    go : (r : Reading (List Entry)) → table_in file ≡ r → n ≡ 1
    go (faulty q) e = ap number_of (h ∙ refuses file q e)
    go (found es at) e = absurd (accepted_refused (length es) n p (sym (h ∙ accepts file es at e)))

-- The count of an answer.
abbrev count_in : Answer ℕ → ℕ
count_in (refused n p) = 0
count_in (accepted n) = n

pub few : (file : List ℕ) (n : ℕ) → accepted n ≡ read_table_call file zero_columns zero_groups → n ≤ 1024
few file n h = go (table_in file) refl
  where
    go : (r : Reading (List Entry)) → table_in file ≡ r → n ≤ 1024
    go (faulty q) e = absurd (accepted_refused n 1 q (h ∙ refuses file q e))
    go (found es at) e = omega (arith, (count-right file es at e).1, ap count_in (h ∙ accepts file es at e))
