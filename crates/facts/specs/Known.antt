-- What the functions of this crate ask.
--
--   FullReach                   columns and groups that reach a count
--   TableReach                  the same of a table as it is lent
--   Known                       all is right below a node
--   Ready                       what finding the facts of a node relies on
--   Fillable                    what filling in the facts relies on
--   Derived                     the facts of a node, and the slot of its key
use Rattle.std.specs.Prelude.{ℕ, ◌+◌, ◌*◌, ◌<◌, ◌≤◌, ◌≡◌, true, List, length}
use Rattle.meaning.specs.Groups.{group_size}
use Rattle.meaning.specs.Tables.{Columns, Facts, Table, facts_in, facts_reach, entry_right, facts_right}
use Rattle.facts_entries.specs.Reach.{Reach}
use Rattle.facts_classes.specs.Chains.{slot_at, Chained}
use Rattle.facts_classes.specs.declared.Chains.{Chains}
use Rattle.facts_sides.specs.FactsOf.{FactsOf}
use Rattle.facts.specs.declared.Found.{Found}

-- The columns of the entries and the groups of the facts reach a count of at most 1,024.
pub record FullReach (c : Columns) (groups : List ℕ) (n : ℕ) : Type 0 where
  pub few : n ≤ 1024
  pub entries_reach : Reach c n
  pub groups-reach : group_size * n ≤ length groups

-- The columns of a table and its facts reach its count, which is at most 1,024. Facts that lie in groups reach it exactly if the groups do.
pub record TableReach (t : Table) : Type 0 where
  pub few : t.count ≤ 1024
  pub entries_reach : Reach t.columns t.count
  pub facts-reach : facts_reach t.facts t.count ≡ true

-- The entries and the facts of the nodes below n are right.
pub record Known (c : Columns) (f : Facts) (n : ℕ) : Type 0 where
  pub entries : (k : ℕ) → k < n → entry_right c k ≡ true
  pub facts-right : (k : ℕ) → k < n → facts_right c f k ≡ true

-- All is right below n, and so is the entry of n.
pub record Ready (c : Columns) (groups : List ℕ) (r : Chains) (n : ℕ) : Type 0 where
  pub reach : FullReach c groups (n + 1)
  pub known : Known c (facts_in groups) n
  pub entry : entry_right c n ≡ true
  pub chained : Chained c r n

-- A table whose entries are right, and groups that reach its count.
pub record Fillable (c : Columns) (groups : List ℕ) (n : ℕ) : Type 0 where
  pub reach : FullReach c groups n
  pub entries : (k : ℕ) → k < n → entry_right c k ≡ true

-- The facts of node n by its tree, and the slot of its key.
pub record Derived (c : Columns) (n : ℕ) (r : Found) : Type 0 where
  pub facts_are : FactsOf c n r.facts
  pub slot_is : r.slot ≡ slot_at c n
