-- The chains by which a class is found: each slot of a hash has the last node of its own class whose key falls into it, and each such node
-- has the one before it. Node 0 is a unit in any right table and is never looked for, so 0 ends a chain.
--
--   slot                        the slot of a key: a kind, and the classes of the two sides
--   slot_at                      the slot of a node's key
--   Last                        the last number below a bound that has a property, or 0
--   InSlot Keyed                a node of its own class, in a slot; with a key
--   Chained                     what the chains hold when the nodes below n are done
use Rattle.std.specs.Prelude.{ℕ, ◌+◌, ◌*◌, ◌/◌, ◌%◌, ◌<◌, ◌≤◌, ◌≡◌, ◌⊎◌, length, get_or}
use Rattle.meaning.specs.Tables.{Columns, kind, left, right, class_of}
use Rattle.facts_classes.specs.declared.Chains.{Chains}

-- The slot of a key, one of 1,024: the middle bits of its product with a number without pattern.
unfoldable pub slot : ℕ → ℕ → ℕ → ℕ
slot k a b = (a * 2048 + b * 2 + k) * 2654435761 / 4194304 % 1024

-- The slot of a node's key.
abbrev pub slot_at : Columns → ℕ → ℕ
slot_at c m = slot (kind c m) (class_of c (left c m)) (class_of c (right c m))

-- m is the last number below n that has a property; or it is 0, and no number above 0 has it.
pub record Last (P : ℕ → Type 0) (n m : ℕ) : Type 0 where
  pub has : (m ≡ 0) ⊎ ((m < n) × P m)
  pub covers : (k : ℕ) → k < n → P k → k ≤ m

-- A node of its own class whose key falls into slot h.
pub record InSlot (c : Columns) (h m : ℕ) : Type 0 where
  pub own : class_of c m ≡ m
  pub falls : slot_at c m ≡ h

-- A node of its own class with a key.
pub record Keyed (c : Columns) (k a b m : ℕ) : Type 0 where
  pub own : class_of c m ≡ m
  pub same_kind : kind c m ≡ k
  pub same_left : class_of c (left c m) ≡ a
  pub same_right : class_of c (right c m) ≡ b

-- Each slot starts at its last node below n, and each node of its own class goes on to the one before it.
pub record Chained (c : Columns) (r : Chains) (n : ℕ) : Type 0 where
  pub all_heads : length r.heads ≡ 1024
  pub all_links : length r.links ≡ 1024
  pub starts : (h : ℕ) → h < 1024 → Last (InSlot c h) n (get_or r.heads h 0)
  pub goes_on : (m : ℕ) → m < n → class_of c m ≡ m → Last (InSlot c (slot_at c m)) m (get_or r.links m 0)
