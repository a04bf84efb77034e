-- Laws of a reading, of the numbers in a file, and of a node in it: what it is, by its kind and its sides.
--
--   found_faulty same_found same_fault
--                               what two readings that are equal have in common
--   what_or after_or            what is found, and the offset after it
--   number_range count_range    a number that is found passes the test of its range; a count is 1 to 1,024
--   node_kind_fault node_unit   a node whose kind is at fault, and a unit
--   node_left_fault node_right_fault node_sides
--                               a node that has sides, by what is found of them
-- Assumes nothing.
use Prim.Native.Nat.{ℕ, zero, suc, ◌≤◌}
use mathlib.Core.Path.{◌≡◌, refl, ap, ◌∙◌}
use mathlib.Core.Bool.{Bool, true, false, cond}
use mathlib.Core.List.{List}
use lib.Dec.{ltb, leb}
use borrow.Author.Tests.{leb-true}
use Rattle.meaning.specs.Tables.{count_right}
use Rattle.meaning.specs.Files.{Reading, faulty, found, number_at, number, and_then, Entry, entry_of, entry_from}
use Rattle.meaning.proofs.Tests.{and_left, and_right}

-- What is found is no fault.
pub found_faulty : {A : Type 0} (a : A) (at p : ℕ) → found a at ≡ faulty p → ⊥
found_faulty a at p e = cc

-- What is found, and the offset after it; of a fault, whatever is given.
abbrev pub what_or : {A : Type 0} → A → Reading A → A
what_or d (faulty p) = d
what_or d (found a at) = a

abbrev pub after_or : {A : Type 0} → ℕ → Reading A → ℕ
after_or d (faulty p) = d
after_or d (found a at) = at

-- What is found twice is the same, and so is the offset after it.
pub same_found : {A : Type 0} (a b : A) (i j : ℕ) → found a i ≡ found b j → (a ≡ b) × (i ≡ j)
same_found a b i j e = (ap (what_or a) e, ap (after_or i) e)

pub same_fault : {A : Type 0} (p q : ℕ) → ◌≡◌ {A = Reading A} (faulty p) (faulty q) → p ≡ q
same_fault p q e = cc

range_of : (p : ℕ → Bool) (at : ℕ) (g : Reading ℕ) (n next : ℕ)
    → found n next ≡ and_then g (λ m after. cond (p m) (found m after) (faulty at)) → (found n next ≡ g) × (p n ≡ true)
range_of p at (faulty q) n next e = cc
range_of p at (found m after) n next e = by_test (p m) refl e
  where
    by_test : (b : Bool) → p m ≡ b → found n next ≡ cond b (found m after) (faulty at) → (found n next ≡ found m after) × (p n ≡ true)
    by_test true t f = (f, ap p (same_found n m next after f).0 ∙ t)
    by_test false t f = cc

pub number_range : (p : ℕ → Bool) (file : List ℕ) (at n next : ℕ) → found n next ≡ number p file at → (found n next ≡ number_at file at) × (p n ≡ true)
number_range p file at n next e = range_of p at (number_at file at) n next e

pub count_range : (file : List ℕ) (n next : ℕ) → found n next ≡ number count_right file 0 → (1 ≤ n) × (n ≤ 1024)
count_range file n next e =
    let r = (number_range count_right file 0 n next e).1 in
    (leb-true 1 n (and_left (leb 1 n) (leb n 1024) r), leb-true n 1024 (and_right (leb 1 n) (leb n 1024) r))

-- A node of a kind that has sides.
sided : List ℕ → ℕ → ℕ → ℕ → Reading Entry
sided file n k at =
    and_then (number (λ l. ltb l n) file at)
    (λ l at₁. and_then (number (λ r. ltb r n) file at₁) (λ r at₂. found (record { kind = k; left = l; right = r }) at₂))

of_sides : (file : List ℕ) (n k at : ℕ) → (k ≡ 0 → ⊥) → entry_of file n k at ≡ sided file n k at
unfolding sided
of_sides file n zero at h = absurd (h refl)
of_sides file n (suc k) at h = refl

module _ (file : List ℕ) (n at : ℕ) where
  pub node_kind_fault : faulty at ≡ number (λ k. ltb k 3) file at → faulty at ≡ entry_from file n at
  unfolding entry_from
  node_kind_fault e = rw (← e)

  pub node_unit : (k next : ℕ) → found k next ≡ number (λ m. ltb m 3) file at → k ≡ 0
      → found (record { kind = 0; left = 0; right = 0 }) next ≡ entry_from file n at
  unfolding entry_from
  node_unit k next e z = rw (← e, z)

  module _ (k left_at : ℕ) (seen : found k left_at ≡ number (λ m. ltb m 3) file at) (has_sides : k ≡ 0 → ⊥) where
    pub node_left_fault : faulty left_at ≡ number (λ l. ltb l n) file left_at → faulty left_at ≡ entry_from file n at
    unfolding entry_from sided
    node_left_fault e = rw (← seen, of_sides file n k left_at has_sides, ← e)

    pub node_right_fault : (l right-at : ℕ) → found l right-at ≡ number (λ m. ltb m n) file left_at
        → faulty right-at ≡ number (λ r. ltb r n) file right-at → faulty right-at ≡ entry_from file n at
    unfolding entry_from sided
    node_right_fault l right-at e f = rw (← seen, of_sides file n k left_at has_sides, ← e, ← f)

    pub node_sides : (l right-at r next : ℕ) → found l right-at ≡ number (λ m. ltb m n) file left_at
        → found r next ≡ number (λ m. ltb m n) file right-at → found (record { kind = k; left = l; right = r }) next ≡ entry_from file n at
    unfolding entry_from sided
    node_sides l right-at r next e f = rw (← seen, of_sides file n k left_at has_sides, ← e, ← f)
