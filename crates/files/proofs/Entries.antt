-- Laws of the nodes of a file, read one after the other.
--
--   entries_length              as many nodes are found as were asked for
--   ReadUpTo                    the first n nodes are found, and the next stands where a reader is
--   read_none read_more more_nodes read_length
--                               none is read yet; one more is; they are n
--   read_fault                  the first node at fault is the fault of them all
-- Assumes nothing.
use Prim.Native.Nat.{ℕ, zero, suc, ◌+◌, ◌-◌, ◌<◌}
use Rattle.std.proofs.Common.{Ok, Err}
use mathlib.Core.Path.{◌≡◌, refl, ap, sym, ◌∙◌}
use mathlib.Core.List.{List, [], ◌∷◌, ◌++◌}
use native.Mathlib.Nat.{zero-add, add-zero, suc-add}
use native.Mathlib.Omega.{arith}
use lib.ListN.{length}
use Rattle.meaning.specs.Files.{Reading, faulty, found, and_then, Entry, entry_from, entries_from}
use Rattle.meaning.specs.TypeCalls.{entries_in}
use Rattle.files_numbers.specs.declared.Fault.{Fault}
use Rattle.files_numbers.specs.Places.{Place, behind}
use Rattle.files_numbers.specs.Readings.{answer_of}
use Rattle.files_numbers.proofs.Told.{not_found, was_found, same_file}
use Rattle.files.proofs.Nodes.{same_found}

-- More nodes after those that were found.
further : List Entry → Reading (List Entry) → Reading (List Entry)
further es r = and_then r (λ fs last. found (es ++ fs) last)

further_cons : (e : Entry) (es : List Entry) (r : Reading (List Entry))
    → and_then (further es r) (λ fs last. found (e ∷ fs) last) ≡ further (e ∷ es) r
unfolding further
further_cons e es (faulty p) = refl
further_cons e es (found fs last) = refl

further_none : (r : Reading (List Entry)) → r ≡ further [] r
unfolding further
further_none (faulty p) = refl
further_none (found fs last) = refl

-- What is found after so many nodes, and those before it.
after : List ℕ → ℕ → ℕ → ℕ → ℕ → Reading (List Entry)
after file a b n at = and_then (entries_from file a n at) (λ es next. further es (entries_from file b (n + a) next))

after_cons : (file : List ℕ) (a b n at : ℕ) (e : Entry)
    → and_then (after file a b (suc n) at) (λ es last. found (e ∷ es) last)
    ≡ and_then (and_then (entries_from file a (suc n) at) (λ es last. found (e ∷ es) last)) (λ es last. further es (entries_from file b (n + suc a) last))
unfolding after
after_cons file a b n at e = by_cases (entries_from file a (suc n) at)
  where
    shift : suc n + a ≡ n + suc a
    shift = omega arith

    by_cases : (r : Reading (List Entry))
        → and_then (and_then r (λ es next. further es (entries_from file b (suc n + a) next))) (λ es last. found (e ∷ es) last)
        ≡ and_then (and_then r (λ es last. found (e ∷ es) last)) (λ es last. further es (entries_from file b (n + suc a) last))
    by_cases (faulty p) = refl
    by_cases (found es next) =
        further_cons e es (entries_from file b (suc n + a) next) ∙ ap (λ k. further (e ∷ es) (entries_from file b k next)) shift

-- a + b nodes are a nodes, and then b.
split : (file : List ℕ) (a b n at : ℕ) → entries_from file (a + b) n at ≡ after file a b n at
unfolding entries_from after
split file zero b n at = rw (zero-add, add-zero) (further_none (entries_from file b n at))
split file (suc a) b n at = rw (suc-add a b) (by_cases (entry_from file n at) (λ next. split file a b (suc n) next))
  where
    by_cases : (r : Reading Entry) → ((next : ℕ) → entries_from file (a + b) (suc n) next ≡ after file a b (suc n) next)
        → and_then r (λ e next. and_then (entries_from file (a + b) (suc n) next) (λ es last. found (e ∷ es) last))
        ≡ and_then (and_then r (λ e next. and_then (entries_from file a (suc n) next) (λ es last. found (e ∷ es) last)))
        (λ es next. further es (entries_from file b (n + suc a) next))
    by_cases (faulty p) ih = refl
    by_cases (found e next) ih = ap (λ r. and_then r (λ es last. found (e ∷ es) last)) (ih next) ∙ after_cons file a b n next e

length_of : (r : Reading (List Entry)) (e : Entry) (k : ℕ) (es : List Entry) (last : ℕ)
    → ((fs : List Entry) (end : ℕ) → r ≡ found fs end → length fs ≡ k)
    → and_then r (λ fs end. found (e ∷ fs) end) ≡ found es last → length es ≡ suc k
length_of (faulty p) e k es last h q = cc
length_of (found fs end) e k es last h q = ap length (sym (same_found (e ∷ fs) es end last q).0) ∙ ap suc (h fs end refl)

pub entries_length : (file : List ℕ) (k n at : ℕ) (es : List Entry) (last : ℕ) → entries_from file k n at ≡ found es last → length es ≡ k
unfolding entries_from
entries_length file zero n at es last q = ap length (sym (same_found [] es at last q).0)
entries_length file (suc k) n at es last q = by_cases (entry_from file n at) (λ next fs end. entries_length file k (suc n) next fs end) q
  where
    by_cases : (r : Reading Entry) → ((next : ℕ) (fs : List Entry) (end : ℕ) → entries_from file k (suc n) next ≡ found fs end → length fs ≡ k)
        → and_then r (λ e next. and_then (entries_from file k (suc n) next) (λ fs end. found (e ∷ fs) end)) ≡ found es last → length es ≡ suc k
    by_cases (faulty p) ih f = cc
    by_cases (found e next) ih f = length_of (entries_from file k (suc n) next) e k es last (ih next) f

-- The nodes that are found when n were asked for.
abbrev pub first_nodes : Place → ℕ → List Entry
first_nodes start n = entries_in (entries_from start.file n 0 start.at)

-- The first n nodes are found, and the next stands where a reader is.
pub record ReadUpTo (start : Place) (n : ℕ) (now : Place) : Type 0 where
  pub so_far : entries_from start.file n 0 start.at ≡ found (first_nodes start n) now.at
  pub in_file : now.file ≡ start.file

pub read_none : (start : Place) → ReadUpTo start 0 start
unfolding entries_from
read_none start = record { so_far = refl; in_file = refl }

module _ (start : Place) (n : ℕ) (now : Place) (read : ReadUpTo start n now) where
  pub read_length : length (first_nodes start n) ≡ n
  read_length = entries_length start.file n 0 start.at (first_nodes start n) now.at read.so_far

  -- What the nodes after the first n are found to be decides the rest.
  rest : (b : ℕ) → entries_from start.file (n + b) 0 start.at ≡ further (first_nodes start n) (entries_from now.file b n now.at)
  unfolding after
  rest b =
      split start.file n b 0 start.at
      ∙ ap (λ x. and_then x (λ es next. further es (entries_from start.file b (0 + n) next))) read.so_far
      ∙ ap (λ k. further (first_nodes start n) (entries_from start.file b k now.at)) (zero-add n)
      ∙ ap (λ f. further (first_nodes start n) (entries_from f b n now.at)) (sym read.in_file)

  -- One node more.
  module _ (e : Entry) (next : Place) (told : Ok e ≡ answer_of (entry_from now.file n now.at)) (left_off : next ≡ behind now (entry_from now.file n now.at)) where
    one_more : entries_from start.file (n + 1) 0 start.at ≡ found (first_nodes start n ++ (e ∷ [])) next.at
    unfolding entries_from further
    one_more = rest 1 ∙ rw (← was_found (entry_from now.file n now.at) e now next told left_off)

    pub more_nodes : first_nodes start (n + 1) ≡ first_nodes start n ++ (e ∷ [])
    more_nodes = ap entries_in one_more

    pub read_more : ReadUpTo start (n + 1) next
    read_more =
        record {
          so_far = one_more ∙ ap (λ es. found es next.at) (sym more_nodes);
          in_file = same_file (entry_from now.file n now.at) now next left_off ∙ read.in_file;
        }

  pub read_fault : (count : ℕ) (f : Fault) → n < count → Err f ≡ answer_of (entry_from now.file n now.at)
      → entries_from start.file count 0 start.at ≡ faulty f.place
  unfolding entries_from further
  read_fault count f h told =
      let e : count ≡ n + suc (count - suc n) = omega arith in
      ap (λ k. entries_from start.file k 0 start.at) e ∙ rest (suc (count - suc n)) ∙ rw (← not_found (entry_from now.file n now.at) f told)
