-- What a file with no fault is made of: its nodes as they were read, one after the other.
--
--   EntryRead node_read          a node that is found: a unit, or a kind with two sides
--   NodesRead nodes_read        nodes that are found, in their order
--   TableRead table_read        a whole file: the count, the nodes, and nothing after them
-- Assumes nothing.
use Prim.Native.Nat.{ℕ, zero, suc, ◌≤◌}
use mathlib.Core.Path.{◌≡◌, refl, ap, sym, ◌∙◌, subst, subst₂}
use mathlib.Core.Bool.{Bool, true, false, cond}
use mathlib.Core.List.{List, [], ◌∷◌}
use lib.ListN.{length}
use lib.Dec.{ltb}
use borrow.Author.Tests.{ltb-false}
use Rattle.meaning.specs.Tables.{count_right}
use Rattle.meaning.specs.Files.{Reading, faulty, found, number, and_then, ended, Entry, entry_of, entry_from, entries_from, table_in}
use Rattle.files.proofs.Nodes.{same_found}
use Rattle.files.proofs.Entries.{entries_length}

-- A node of a file with its offset and the one after it: a unit, or a kind with two sides.
pub data EntryRead (file : List ℕ) (n at : ℕ) : Entry → ℕ → Type 0 where
  a_unit : {next : ℕ} → found 0 next ≡ number (λ k. ltb k 3) file at → EntryRead file n at (record { kind = 0; left = 0; right = 0 }) next
  with_sides : {k l r left_at right-at next : ℕ} → found (suc k) left_at ≡ number (λ m. ltb m 3) file at
      → found l right-at ≡ number (λ m. ltb m n) file left_at → found r next ≡ number (λ m. ltb m n) file right-at
      → EntryRead file n at (record { kind = suc k; left = l; right = r }) next

-- Nodes of a file, of which the first has a number and an offset, and the offset after them.
pub data NodesRead (file : List ℕ) : ℕ → ℕ → List Entry → ℕ → Type 0 where
  no_node : {n at : ℕ} → NodesRead file n at [] at
  a-node : {n at next last : ℕ} {e : Entry} {es : List Entry} → EntryRead file n at e next → NodesRead file (suc n) next es last
      → NodesRead file n at (e ∷ es) last

-- A whole file.
pub record TableRead (file : List ℕ) (es : List Entry) (last : ℕ) : Type 0 where
  pub start : ℕ
  pub counted : found (length es) start ≡ number count_right file 0
  pub nodes : NodesRead file 0 start es last
  pub nothing_after : length file ≤ last

-- A step that is found had something to go on from.
record Before {A B : Type 0} (r : Reading A) (f : A → ℕ → Reading B) (b : B) (next : ℕ) : Type 0 where
  what : A
  at : ℕ
  first : found what at ≡ r
  then : found b next ≡ f what at

before : {A B : Type 0} (r : Reading A) (f : A → ℕ → Reading B) (b : B) (next : ℕ) → found b next ≡ and_then r f → Before r f b next
before (faulty p) f b next e = cc
before (found a at) f b next e = record { what = a; at = at; first = refl; then = e }

of_kind : (file : List ℕ) (n at k after : ℕ) (e : Entry) (next : ℕ) → found k after ≡ number (λ m. ltb m 3) file at
    → found e next ≡ entry_of file n k after → EntryRead file n at e next
of_kind file n at zero after e next seen q =
    let s = same_found (record { kind = 0; left = 0; right = 0 }) e after next (sym q) in
    subst₂ (EntryRead file n at) s.0 s.1 (a_unit seen)
of_kind file n at (suc k) after e next seen q =
    let l = before (number (λ m. ltb m n) file after)
    (λ l at₁. and_then (number (λ r. ltb r n) file at₁) (λ r at₂. found (record { kind = suc k; left = l; right = r }) at₂)) e next q in
    let r = before (number (λ m. ltb m n) file l.at) (λ r at₂. found (record { kind = suc k; left = l.what; right = r }) at₂) e next l.then in
    let s = same_found (record { kind = suc k; left = l.what; right = r.what }) e r.at next (sym r.then) in
    subst₂ (EntryRead file n at) s.0 s.1 (with_sides seen l.first r.first)

pub node_read : (file : List ℕ) (n at : ℕ) (e : Entry) (next : ℕ) → found e next ≡ entry_from file n at → EntryRead file n at e next
unfolding entry_from
node_read file n at e next q =
    let k = before (number (λ m. ltb m 3) file at) (λ k after. entry_of file n k after) e next q in
    of_kind file n at k.what k.at e next k.first k.then

pub nodes_read : (file : List ℕ) (k n at : ℕ) (es : List Entry) (last : ℕ) → found es last ≡ entries_from file k n at → NodesRead file n at es last
unfolding entries_from
nodes_read file zero n at es last q =
    let s = same_found [] es at last (sym q) in
    subst₂ (NodesRead file n at) s.0 s.1 no_node
nodes_read file (suc k) n at es last q =
    let e = before (entry_from file n at) (λ e next. and_then (entries_from file k (suc n) next) (λ fs end. found (e ∷ fs) end)) es last q in
    let fs = before (entries_from file k (suc n) e.at) (λ fs end. found (e.what ∷ fs) end) es last e.then in
    let s = same_found (e.what ∷ fs.what) es fs.at last (sym fs.then) in
    subst₂ (NodesRead file n at) s.0 s.1
    (a-node (node_read file n at e.what e.at e.first) (nodes_read file k (suc n) e.at fs.what fs.at fs.first))

-- Nothing follows what a whole file is found to be.
at_end : (file : List ℕ) (fs es : List Entry) (end last : ℕ) → found es last ≡ ended file fs end → (found es last ≡ found fs end) × (length file ≤ end)
at_end file fs es end last q = by_test (ltb end (length file)) refl q
  where
    by_test : (b : Bool) → ltb end (length file) ≡ b → found es last ≡ cond b (faulty end) (found fs end)
        → (found es last ≡ found fs end) × (length file ≤ end)
    by_test true t e = cc
    by_test false t e = (e, ltb-false end (length file) t)

pub table_read : (file : List ℕ) (es : List Entry) (last : ℕ) → table_in file ≡ found es last → TableRead file es last
unfolding table_in
table_read file es last q =
    let c = before (number count_right file 0) (λ n at. and_then (entries_from file n 0 at) (ended file)) es last (sym q) in
    let fs = before (entries_from file c.what 0 c.at) (ended file) es last c.then in
    let d = at_end file fs.what es fs.at last fs.then in
    let s = same_found fs.what es fs.at last (sym d.0) in
    let long : length es ≡ c.what =
    ap length (sym s.0) ∙ entries_length file c.what 0 c.at fs.what fs.at (sym fs.first) in
    record {
      start = c.at;
      counted = ap (λ n. found n c.at) long ∙ c.first;
      nodes = subst₂ (NodesRead file 0 c.at) s.0 s.1 (nodes_read file c.what 0 c.at fs.what fs.at fs.first);
      nothing_after = subst (λ n. length file ≤ n) s.1 d.1;
    }
