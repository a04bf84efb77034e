-- What the search for a class asks.
--
--   Classing                    what finding the class of a node relies on
use Rattle.std.specs.Prelude.{ℕ, ◌*◌, ◌<◌, ◌≤◌, ◌≡◌, true, List, length, get_or}
use Rattle.meaning.specs.Groups.{group_size}
use Rattle.meaning.specs.Tables.{Columns, facts_in, kind, left, right, class_of, entry_right}
use Rattle.tables.specs.Kinds.{kind_no}
use Rattle.facts_entries.specs.Reach.{Reach}
use Rattle.facts_classes.specs.Chains.{slot, slot_at, Last, InSlot}
use Rattle.facts_classes.specs.declared.Chains.{Chains}
use Rattle.facts_classes.specs.declared.Key.{Key}

-- A node n, no unit, with its key: what is known below n. Of the chains it asks the one of the key's slot, and that links lead on.
pub record Classing (c : Columns) (groups : List ℕ) (r : Chains) (key : Key) (n : ℕ) : Type 0 where
  pub right_to : (j : ℕ) → j ≤ n → entry_right c j ≡ true
  pub few_nodes : n ≤ 1024
  pub reach : Reach c n
  pub groups-reach : group_size * n ≤ length groups
  pub classes_right : (j : ℕ) → j < n → get_or (facts_in groups).classes j 0 ≡ class_of c j
  pub goes_on : (m : ℕ) → m < n → class_of c m ≡ m → Last (InSlot c (slot_at c m)) m (get_or r.links m 0)
  pub starts : Last (InSlot c (slot (kind_no key.kind) key.left key.right)) n (get_or r.heads (slot (kind_no key.kind) key.left key.right) 0)
  pub no_unit : kind c n ≡ 0 → ⊥
  pub kind_is : kind c n ≡ kind_no key.kind
  pub left_is : class_of c (left c n) ≡ key.left
  pub right_is : class_of c (right c n) ≡ key.right
