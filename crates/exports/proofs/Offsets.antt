-- Where the place of a faulty file lies: a number takes at most two bytes, a node at most three numbers, and a file at most 1,024 nodes.
--
--   Ends                        a reading that ends, or finds its fault, at most at an offset
--   ends_then                   one reading after another
--   number_at_ends number_ends entry_ends entries_ends table_ends   each reading of a file
--   read_near                   `read_table`
-- Assumes nothing.
use Prim.Native.Nat.{ℕ, zero, suc, ◌+◌, ◌*◌, ◌%◌, ◌≤◌}
use mathlib.Core.Path.{◌≡◌, refl}
use mathlib.Core.Bool.{Bool, true, false, cond}
use mathlib.Core.List.{List, ◌∷◌}
use native.Mathlib.Omega.{arith}
use lib.ListN.{length, get_or}
use lib.Dec.{ltb, leb}
use borrow.Author.Tests.{leb-true}
use Rattle.meaning.specs.Tables.{Columns, count_right}
use Rattle.meaning.specs.Files.{Reading, faulty, found, and_then, seven_bit_groups, number_at, number, Entry, entry_of, entry_from, entries_from, ended, table_in}
use Rattle.meaning.specs.Ladder.{Rung, ladder}
use Rattle.meaning.specs.TypeCalls.{file_rung, read_table_call}
use Rattle.meaning.proofs.Tests.{and_right}
use Rattle.exports_answers.specs.Codes.{Near}
use Rattle.exports.proofs.Places.{flat, flat_near}

-- A reading that ends at most at an offset, as its fault does, and of which what was read is as it should be.
abbrev pub Ends : {A : Type 0} → (A → Type 0) → ℕ → Reading A → Type 0
Ends P m (faulty p) = p ≤ m
Ends P m (found a at) = (at ≤ m) × P a

-- Whatever was read.
abbrev Any : {A : Type 0} → A → Type 0
Any a = Unit {0}

pub ends_then : {A B : Type 0} (P : A → Type 0) (Q : B → Type 0) (m n : ℕ) (r : Reading A) (next : A → ℕ → Reading B) → m ≤ n → Ends P m r
    → ((a : A) (at : ℕ) → at ≤ m → P a → Ends Q n (next a at)) → Ends Q n (and_then r next)
ends_then P Q m n (faulty p) next l e go = omega arith
ends_then P Q m n (found a at) next l e go = go a at e.0 e.1

-- An end lies also at most at any later offset.
further : {A : Type 0} (P : A → Type 0) (m n : ℕ) (r : Reading A) → m ≤ n → Ends P m r → Ends P n r
further P m n (faulty p) l e = omega arith
further P m n (found a at) l e = (let h = e.0 in omega arith, e.1)

-- The groups of a number from one of them on, of which at most k are left.
groups_end : (k : ℕ) (file : List ℕ) (first at : ℕ) → first ≤ at → Ends Any (at + k) (seven_bit_groups k file first at)
unfolding seven_bit_groups
groups_end zero file first at l = omega arith
groups_end (suc k) file first at l =
    there (groups_end k file first (at + 1) (omega arith)) (ltb at (length file)) (ltb (get_or file at 0) 128)
  where
    followed : (n next : ℕ) → next ≤ at + 1 + k → (b : Bool) → Ends Any (at + suc k) (cond b (found n next) (faulty first))
    followed n next h true = (omega arith, tt)
    followed n next h false = omega arith

    there : Ends Any (at + 1 + k) (seven_bit_groups k file first (at + 1)) → (a b : Bool)
        → Ends Any (at + suc k)
        (cond a
        (cond b (found (get_or file at 0) (at + 1))
        (and_then (seven_bit_groups k file first (at + 1))
        (λ rest next. cond (leb 1 rest) (found (get_or file at 0 % 128 + 128 * rest) next) (faulty first))))
        (faulty first))
    there more true true = (omega arith, tt)
    there more true false =
        ends_then Any Any (at + 1 + k) (at + suc k) (seven_bit_groups k file first (at + 1))
        (λ rest next. cond (leb 1 rest) (found (get_or file at 0 % 128 + 128 * rest) next) (faulty first))
        (omega arith) more
        (λ rest next h u. followed (get_or file at 0 % 128 + 128 * rest) next h (leb 1 rest))
    there more false b = omega arith

number_at_ends : (file : List ℕ) (at : ℕ) → Ends Any (at + 2) (number_at file at)
number_at_ends file at = groups_end 2 file at at (omega arith)

-- A number, which passes its test where it was found.
abbrev Passes : (ℕ → Bool) → ℕ → Type 0
Passes test n = test n ≡ true

number_ends : (test : ℕ → Bool) (file : List ℕ) (at : ℕ) → Ends (Passes test) (at + 2) (number test file at)
number_ends test file at =
    ends_then Any (Passes test) (at + 2) (at + 2) (number_at file at) (λ n next. cond (test n) (found n next) (faulty at)) (omega arith)
    (number_at_ends file at)
    (λ n next l u. tested n next l (test n) refl)
  where
    tested : (n next : ℕ) → next ≤ at + 2 → (b : Bool) → test n ≡ b → Ends (Passes test) (at + 2) (cond b (found n next) (faulty at))
    tested n next l true e = (l, e)
    tested n next l false e = omega arith

-- An entry from its parts.
abbrev entry : ℕ → ℕ → ℕ → Entry
entry k l r = record { kind = k; left = l; right = r }

sides_ends : (file : List ℕ) (n k at : ℕ) → Ends Any (at + 4) (entry_of file n k at)
sides_ends file n zero at = (omega arith, tt)
sides_ends file n (suc k) at =
    ends_then (Passes (λ l. ltb l n)) Any (at + 2) (at + 4) (number (λ l. ltb l n) file at) _ (omega arith)
    (number_ends (λ l. ltb l n) file at)
    (λ l at₁ le p. right l at₁ (omega arith))
  where
    right : (l at₁ : ℕ) → at₁ + 2 ≤ at + 4
        → Ends Any (at + 4) (and_then (number (λ r. ltb r n) file at₁) (λ r at₂. found (entry (suc k) l r) at₂))
    right l at₁ le =
        ends_then (Passes (λ r. ltb r n)) Any (at₁ + 2) (at + 4) (number (λ r. ltb r n) file at₁) _ le
        (number_ends (λ r. ltb r n) file at₁)
        (λ r at₂ le₂ p. (omega arith, tt))

entry_ends : (file : List ℕ) (n at : ℕ) → Ends Any (at + 6) (entry_from file n at)
unfolding entry_from
entry_ends file n at =
    ends_then (Passes (λ k. ltb k 3)) Any (at + 2) (at + 6) (number (λ k. ltb k 3) file at) (λ k next. entry_of file n k next) (omega arith)
    (number_ends (λ k. ltb k 3) file at)
    (λ k next l p. further Any (next + 4) (at + 6) (entry_of file n k next) (omega arith) (sides_ends file n k next))

entries_ends : (file : List ℕ) (k n at : ℕ) → Ends Any (at + 6 * k) (entries_from file k n at)
unfolding entries_from
entries_ends file zero n at = (omega arith, tt)
entries_ends file (suc k) n at =
    ends_then Any Any (at + 6) (at + 6 * suc k) (entry_from file n at) _ (omega arith) (entry_ends file n at)
    (λ e next l u.
    ends_then Any Any (next + 6 * k) (at + 6 * suc k) (entries_from file k (suc n) next) _ (omega arith)
    (entries_ends file k (suc n) next)
    (λ es last l₂ u₂. (omega arith, tt)))

table_ends : (file : List ℕ) → Ends Any 6146 (table_in file)
unfolding table_in
table_ends file =
    ends_then (Passes count_right) Any 2 6146 (number count_right file 0) _ (omega arith) (number_ends count_right file 0)
    (λ n at l p.
    let few = leb-true n 1024 (and_right (leb 1 n) (leb n 1024) p) in
    ends_then Any Any (at + 6 * n) 6146 (entries_from file n 0 at) (ended file) (omega arith) (entries_ends file n 0 at)
    (λ es last l₂ u. over es last (ltb last (length file)) (omega arith)))
  where
    over : (es : List Entry) (last : ℕ) (b : Bool) → last ≤ 6146 → Ends Any 6146 (cond b (faulty last) (found es last))
    over es last true l = l
    over es last false l = (l, tt)

-- A ladder that begins with the fault of a file.
file_near : (r : Reading (List Entry)) (rs : List Rung) (n : ℕ) → Ends Any 6146 r → flat rs ≡ true → Near (ladder (file_rung r ∷ rs) n)
unfolding ladder
file_near (faulty p) rs n e h = record { near = omega arith }
file_near (found es at) rs n e h = flat_near rs n h

pub read_near : (file : List ℕ) (c : Columns) (g : List ℕ) → Near (read_table_call file c g)
read_near file c g = file_near (table_in file) _ _ (table_ends file) refl
