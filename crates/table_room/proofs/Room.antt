-- The tests of the lengths of columns.
--
--   columns_reached             columns that pass the test of their lengths
--   reached_columns             columns that are long enough pass it
-- Assumes nothing.
use Prim.Native.Nat.{ℕ, ◌≤◌}
use mathlib.Core.Path.{◌≡◌}
use mathlib.Core.Bool.{true, ◌&&◌}
use lib.ListN.{length}
use borrow.Author.Tests.{leb-true, le-leb}
use Rattle.meaning.specs.Tables.{Columns, columns_reach, reaches}
use Rattle.meaning.proofs.Tests.{and_left, and_right}
use Rattle.facts_entries.specs.Reach.{Reach}

pub columns_reached : (c : Columns) (n : ℕ) → columns_reach c n ≡ true → Reach c n
columns_reached c n h =
    let front = and_left (reaches n c.kinds && reaches n c.lefts) (reaches n c.rights) h in
    record {
      kinds_reach = leb-true n (length c.kinds) (and_left (reaches n c.kinds) (reaches n c.lefts) front);
      lefts_reach = leb-true n (length c.lefts) (and_right (reaches n c.kinds) (reaches n c.lefts) front);
      rights_reach = leb-true n (length c.rights) (and_right (reaches n c.kinds && reaches n c.lefts) (reaches n c.rights) h);
    }

-- And the other way: columns that are long enough pass the test.
pub reached_columns : (c : Columns) (n : ℕ) → n ≤ length c.kinds → n ≤ length c.lefts → n ≤ length c.rights → columns_reach c n ≡ true
reached_columns c n k l r =
    rw (le-leb n (length c.kinds) k, le-leb n (length c.lefts) l, le-leb n (length c.rights) r)
