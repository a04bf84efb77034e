-- What the search for a wrong entry asks.
--
--   Reach                       columns that reach a count
use Rattle.std.specs.Prelude.{ℕ, ◌≤◌, length}
use Rattle.meaning.specs.Tables.{Columns}

-- The columns of the entries reach the count.
pub record Reach (c : Columns) (n : ℕ) : Type 0 where
  pub kinds_reach : n ≤ length c.kinds
  pub lefts_reach : n ≤ length c.lefts
  pub rights_reach : n ≤ length c.rights
