-- What an inner function may rely on: a sound table, once a public call has checked it, and bytes, which the type `u8` promises. No public
-- call asks for any of this.
--
--   Sound          a table that `check_table` accepts
--   Bytes          numbers below 256
use Rattle.std.specs.Prelude.{ℕ, ◌≤◌, ◌<◌, ◌≡◌, true, List, length, get_or}
use Rattle.meaning.specs.Tables.{Table, entry_right, facts_right}

-- A sound table: its count, the reach of its columns and of its facts, each entry and each fact are right.
pub record Sound (t : Table) : Type 0 where
  pub some_node : 1 ≤ t.count
  pub few_nodes : t.count ≤ 1024
  pub kinds_reach : t.count ≤ length t.columns.kinds
  pub lefts_reach : t.count ≤ length t.columns.lefts
  pub rights_reach : t.count ≤ length t.columns.rights
  pub widths_reach : t.count ≤ length t.facts.widths
  pub sizes_reach : t.count ≤ length t.facts.sizes
  pub paddeds_reach : t.count ≤ length t.facts.paddeds
  pub classes_reach : t.count ≤ length t.facts.classes
  pub leasts_reach : t.count ≤ length t.facts.leasts
  pub entries : (n : ℕ) → n < t.count → entry_right t.columns n ≡ true
  pub told : (n : ℕ) → n < t.count → facts_right t.columns t.facts n ≡ true

-- Every number of the list is a byte.
pub record Bytes (s : List ℕ) : Type 0 where
  pub below : (i : ℕ) → i < length s → get_or s i 0 < 256
