-- Laws of numbers in bytes and of groups.
--
--   low_more low_none           one byte and those after it; no byte
--   length_low_bytes            the k low bytes are k
--   low_low_bytes               what was laid is read again
--   length_from get_d_from      a function's values from a number on
--   length_fact fact_at         a fact of every whole group; the fact of a node
--   groups-reach                groups reach a count exactly if there is a group for each node
-- Assumes nothing.
use Prim.Native.Nat.{ℕ, zero, suc, ◌+◌, ◌*◌, ◌/◌, ◌^◌, ◌≤◌, ◌<◌}
use mathlib.Core.Path.{◌≡◌, refl, sym, ap, ◌∙◌}
use mathlib.Core.Bool.{Bool, true, false, ◌&&◌}
use mathlib.Core.List.{List, ◌++◌, map}
use native.Mathlib.Omega.{arith}
use native.Mathlib.Numerals.{add-one, unary_clauses}
use native.Mathlib.Nat.{zero-add}
use lib.Dec.{leb}
use lib.ListN.{length, drop, get_or}
use lib.Seq.{drop-cons}
use borrow.Author.Tests.{leb-true, le-leb}
use Rattle.meaning.specs.Choice.{from}
use Rattle.meaning.specs.Groups.{low, low_bytes, group_size, fact_in}
use Rattle.meaning.specs.Tables.{facts_in, facts_reach, groups_reach}

pub low_more : (k at next : ℕ) (s : List ℕ) → at < length s → next ≡ at + 1 → low (suc k) (drop at s) ≡ get_or s at 0 + 256 * low k (drop next s)
unfolding low
low_more k at next s h e =
    ap (low (suc k)) (drop-cons s at 0 h) ∙ ap (λ (i : ℕ). get_or s at 0 + 256 * low k (drop i s)) (sym (e ∙ add-one at))

pub low_none : (s : List ℕ) → low 0 s ≡ 0
unfolding low
low_none s = refl

pub length_low_bytes : (k x : ℕ) → length (low_bytes k x) ≡ k
unfolding low_bytes
length_low_bytes zero x = refl
length_low_bytes (suc k) x = ap suc (length_low_bytes k (x / 256))

pub low_low_bytes : (k x : ℕ) (s : List ℕ) → x < 256 ^ k → low k (low_bytes k x ++ s) ≡ x
unfolding low low_bytes
low_low_bytes zero x s h = let e : 256 ^ 0 ≡ 1 = refl in omega arith
low_low_bytes (suc k) x s h =
    let r = low_low_bytes k (x / 256) s (part x k h) in omega arith
  where
    part : (x k : ℕ) → x < 256 ^ suc k → x / 256 < 256 ^ k
    part x k h = let e : 256 ^ suc k ≡ 256 * 256 ^ k = simp unary_clauses (omega arith) in omega arith

pub length_from : (f : ℕ → ℕ) (n k : ℕ) → length (map f (from n k)) ≡ k
unfolding from
length_from f n zero = refl
length_from f n (suc k) = ap suc (length_from f (suc n) k)

pub length_fact : (at k : ℕ) (g : List ℕ) → length (fact_in at k g) ≡ length g / group_size
unfolding fact_in
length_fact at k g = length_from (λ n. low k (drop (group_size * n + at) g)) 0 (length g / group_size)

pub get_d_from : (f : ℕ → ℕ) (n k j : ℕ) → j < k → get_or (map f (from n k)) j 0 ≡ f (n + j)
unfolding from
get_d_from f n zero j h = absurd (never h)
  where
    never : j < 0 → ⊥
    never l = omega arith
get_d_from f n (suc k) zero h = ap f (let e : n ≡ n + 0 = omega arith in e)
get_d_from f n (suc k) (suc j) h = get_d_from f (suc n) k j (omega arith) ∙ ap f (let e : suc n + j ≡ n + suc j = omega arith in e)

pub fact_at : (at k n : ℕ) (g : List ℕ) → group_size * (n + 1) ≤ length g → get_or (fact_in at k g) n 0 ≡ low k (drop (group_size * n + at) g)
unfolding fact_in
fact_at at k n g h =
    get_d_from (λ j. low k (drop (group_size * j + at) g)) 0 (length g / group_size) n (omega arith)
    ∙ ap (λ (j : ℕ). low k (drop (group_size * j + at) g)) (zero-add n)

-- Two tests that pass together are the same.
agree : (x y : Bool) → (x ≡ true → y ≡ true) → (y ≡ true → x ≡ true) → x ≡ y
agree true y f g = sym (f refl)
agree false true f g = g refl
agree false false f g = refl

-- As many whole groups as nodes.
whole : (n l : ℕ) → leb n (l / group_size) ≡ leb (group_size * n) l
whole n l =
    agree (leb n (l / group_size)) (leb (group_size * n) l)
    (λ e. let h = leb-true n (l / group_size) e in le-leb (group_size * n) l (omega arith))
    (λ e. let h = leb-true (group_size * n) l e in le-leb n (l / group_size) (omega arith))

five_times : (b : Bool) → (b && b && b && b && b) ≡ b
five_times true = refl
five_times false = refl

pub groups-reach : (n : ℕ) (g : List ℕ) → facts_reach (facts_in g) n ≡ groups_reach g n
groups-reach n g =
    let b : Bool = leb n (length g / group_size) in
    let e : facts_reach (facts_in g) n ≡ (b && b && b && b && b) = rw (length_fact 0 8 g, length_fact 8 8 g, length_fact 16 1 g, length_fact 17 2 g, length_fact 19 8 g) in
    e ∙ five_times b ∙ whole n (length g)
