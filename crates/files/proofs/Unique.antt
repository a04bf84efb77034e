-- The file form is unambiguous: a table has one file, which is written out here.
--
--   number_bytes entry_bytes entries_bytes file_bytes
--                               the bytes of a number, a node, nodes and a whole table
--   number-bytes node_bytes nodes_bytes
--                               what is found in a file stands there in those bytes
--   file-bytes                  a file with no fault is the one of its table
--   file_unique                 two files of one table are the same
-- Assumes nothing.
use Prim.Native.Nat.{ℕ, zero, suc, ◌+◌, ◌*◌, ◌/◌, ◌%◌, ◌≤◌, ◌<◌}
use mathlib.Core.Path.{◌≡◌, refl, ap, sym, ◌∙◌}
use mathlib.Core.Bool.{Bool, cond}
use mathlib.Core.List.{List, [], ◌∷◌, ◌++◌, append_assoc, append-nil}
use mathlib.Core.Logic.{⊎_elim}
use native.Mathlib.Numerals.{add-one}
use native.Mathlib.Omega.{arith}
use lib.Dec.{ltb, leb}
use lib.ListN.{length, drop, get_or, drop_of_length-le}
use lib.Seq.{drop-cons}
use borrow.Author.Tests.{ltb-true, ltb-false, leb-true, leb-false, lt-ltb, le-ltb}
use Rattle.meaning.specs.Tables.{count_right}
use Rattle.meaning.specs.Files.{found, number_at, number, Entry, table_in}
use Rattle.meaning.specs.Checked.{Bytes}
use Rattle.meaning.proofs.Choices.{either}
use Rattle.files_numbers.proofs.Numbers.{number_at_gone, number_at_one, number_at_cut, number_at_short, number_at_third, number_at_two}
use Rattle.files.proofs.Nodes.{same_found, number_range}
use Rattle.files.proofs.Read.{EntryRead, a_unit, with_sides, NodesRead, no_node, a-node, table_read}

-- A number in groups of seven bits, the low group first, the top bit set on all but the last.
pub number_bytes : ℕ → List ℕ
number_bytes n = cond (ltb n 128) (n ∷ []) ((128 + n % 128) ∷ (n / 128) ∷ [])

-- The sides of a kind: none for a unit.
pub sides_bytes : ℕ → ℕ → ℕ → List ℕ
sides_bytes zero l r = []
sides_bytes (suc k) l r = number_bytes l ++ number_bytes r

-- A node: its kind and its sides.
pub entry_bytes : Entry → List ℕ
entry_bytes e = number_bytes e.kind ++ sides_bytes e.kind e.left e.right

pub entries_bytes : List Entry → List ℕ
entries_bytes [] = []
entries_bytes (e ∷ es) = entry_bytes e ++ entries_bytes es

-- A table: the count of its nodes, and each of them.
pub file_bytes : List Entry → List ℕ
file_bytes es = number_bytes (length es) ++ entries_bytes es

-- One group and two, in bytes.
one_group : (file : List ℕ) (at n next : ℕ) → at < length file → get_or file at 0 < 128 → n ≡ get_or file at 0 → next ≡ at + 1
    → drop at file ≡ number_bytes n ++ drop next file
unfolding number_bytes
one_group file at n next h b p q =
    let t : n < 128 = omega arith in
    let e : next ≡ suc at = omega arith in
    drop-cons file at 0 h
    ∙ (λ i. sym p i ∷ drop (sym e i) file)
    ∙ sym (ap (λ c. cond c (n ∷ []) ((128 + n % 128) ∷ (n / 128) ∷ []) ++ drop next file) (lt-ltb n 128 t))

two_groups : (file : List ℕ) (at n next : ℕ) → at + 1 < length file → 128 ≤ get_or file at 0 → get_or file at 0 < 256
    → 1 ≤ get_or file (at + 1) 0 → get_or file (at + 1) 0 < 128 → n ≡ get_or file at 0 % 128 + 128 * get_or file (at + 1) 0 → next ≡ at + 2
    → drop at file ≡ number_bytes n ++ drop next file
unfolding number_bytes
two_groups file at n next h low byte high small p q =
    let t : 128 ≤ n = omega arith in
    let l : get_or file at 0 ≡ 128 + n % 128 = omega arith in
    let m : get_or file (at + 1) 0 ≡ n / 128 = omega arith in
    let i : at < length file = omega arith in
    let j : suc at < length file = omega arith in
    let e : next ≡ suc (suc at) = omega arith in
    drop-cons file at 0 i
    ∙ ap (λ r. get_or file at 0 ∷ r) (drop-cons file (suc at) 0 j)
    ∙ ap (λ k. get_or file at 0 ∷ get_or file k 0 ∷ drop (suc (suc at)) file) (sym (add-one at))
    ∙ (λ x. l x ∷ m x ∷ drop (sym e x) file)
    ∙ sym (ap (λ c. cond c (n ∷ []) ((128 + n % 128) ∷ (n / 128) ∷ []) ++ drop next file) (le-ltb n 128 t))

pub number-bytes : (file : List ℕ) → Bytes file → (at n next : ℕ) → found n next ≡ number_at file at → drop at file ≡ number_bytes n ++ drop next file
number-bytes file bytes at n next q =
    ⊎_elim
    (λ t. let h : at < length file = ltb-true at (length file) t in ⊎_elim
    (λ u. let b : get_or file at 0 < 128 = ltb-true (get_or file at 0) 128 u in
    let s = same_found n (get_or file at 0) next (at + 1) (q ∙ sym (number_at_one file at h b)) in
    one_group file at n next h b s.0 s.1)
    (λ u. second h (ltb-false (get_or file at 0) 128 u))
    (either (ltb (get_or file at 0) 128)))
    (λ t. cc (number_at_gone file at (ltb-false at (length file) t)))
    (either (ltb at (length file)))
  where
    third : at < length file → 128 ≤ get_or file at 0 → at + 1 < length file → 1 ≤ get_or file (at + 1) 0 → drop at file ≡ number_bytes n ++ drop next file
    third h low i high =
        ⊎_elim
        (λ t. let b : get_or file (at + 1) 0 < 128 = ltb-true (get_or file (at + 1) 0) 128 t in
        let s = same_found n (get_or file at 0 % 128 + 128 * get_or file (at + 1) 0) next (at + 2) (q ∙ sym (number_at_two file at h low i high b)) in
        two_groups file at n next i low (bytes.below at h) high b s.0 s.1)
        (λ t. cc (number_at_third file at h low i high (ltb-false (get_or file (at + 1) 0) 128 t)))
        (either (ltb (get_or file (at + 1) 0) 128))

    second : at < length file → 128 ≤ get_or file at 0 → drop at file ≡ number_bytes n ++ drop next file
    second h low =
        ⊎_elim
        (λ t. let i : at + 1 < length file = ltb-true (at + 1) (length file) t in ⊎_elim
        (λ u. third h low i (leb-true 1 (get_or file (at + 1) 0) u))
        (λ u. cc (number_at_short file at h low i (leb-false 1 (get_or file (at + 1) 0) u)))
        (either (leb 1 (get_or file (at + 1) 0))))
        (λ t. cc (number_at_cut file at h low (ltb-false (at + 1) (length file) t)))
        (either (ltb (at + 1) (length file)))

module _ (file : List ℕ) (bytes : Bytes file) where
  -- A number in its range.
  in_bytes : (p : ℕ → Bool) (at n next : ℕ) → found n next ≡ number p file at → drop at file ≡ number_bytes n ++ drop next file
  in_bytes p at n next q = number-bytes file bytes at n next (number_range p file at n next q).0

  pub node_bytes : (n at : ℕ) (e : Entry) (next : ℕ) → EntryRead file n at e next → drop at file ≡ entry_bytes e ++ drop next file
  unfolding entry_bytes sides_bytes
  node_bytes n at e next (a_unit {next = x} k) = in_bytes (λ m. ltb m 3) at 0 x k ∙ ap (λ s. s ++ drop x file) (sym (append-nil (number_bytes 0)))
  node_bytes n at e next (with_sides {k = k} {l = l} {r = r} {left_at = la} {right-at = ra} {next = x} kq lq rq) =
      in_bytes (λ m. ltb m 3) at (suc k) la kq
      ∙ ap (λ s. number_bytes (suc k) ++ s)
      (in_bytes (λ m. ltb m n) la l ra lq ∙ ap (λ s. number_bytes l ++ s) (in_bytes (λ m. ltb m n) ra r x rq)
      ∙ sym (append_assoc (number_bytes l) (number_bytes r) (drop x file)))
      ∙ sym (append_assoc (number_bytes (suc k)) (number_bytes l ++ number_bytes r) (drop x file))

  pub nodes_bytes : (n at : ℕ) (es : List Entry) (last : ℕ) → NodesRead file n at es last → drop at file ≡ entries_bytes es ++ drop last file
  unfolding entries_bytes
  nodes_bytes n at es last no_node = refl
  nodes_bytes n at es last (a-node {next = next} {last = end} {e = e} {es = fs} x xs) =
      node_bytes n at e next x ∙ ap (λ s. entry_bytes e ++ s) (nodes_bytes (suc n) next fs end xs)
      ∙ sym (append_assoc (entry_bytes e) (entries_bytes fs) (drop end file))

  pub file-bytes : (es : List Entry) (last : ℕ) → table_in file ≡ found es last → file ≡ file_bytes es
  unfolding file_bytes
  file-bytes es last q =
      let t = table_read file es last q in
      in_bytes count_right 0 (length es) t.start t.counted
      ∙ ap (λ s. number_bytes (length es) ++ s)
      (nodes_bytes 0 t.start es last t.nodes ∙ ap (λ s. entries_bytes es ++ s) (drop_of_length-le file t.nothing_after) ∙ append-nil (entries_bytes es))

-- One file for a table.
pub file_unique : (f g : List ℕ) → Bytes f → Bytes g → (es : List Entry) (a b : ℕ) → table_in f ≡ found es a → table_in g ≡ found es b → f ≡ g
file_unique f g bf bg es a b p q = file-bytes f bf es a p ∙ sym (file-bytes g bg es b q)
