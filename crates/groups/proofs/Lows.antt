-- Numbers in bytes, as the library reads and writes them.
--
--   fact_one fact_two fact_eight       a fact of one byte, of two and of eight
--   bytes_two bytes_eight              the bytes of a number
--   low_eight low_two low_one          a number as a sum of its bytes
--   low_head low_next                  the first of the bytes that are left, and the others
-- Assumes nothing.
use native.Mathlib.Numerals.{add-one}
use lib.Seq.{drop-cons}
use Rattle.std.proofs.Common.{ℕ, zero, suc, ◌≡◌, ◌+◌, ◌-◌, ◌*◌, ◌/◌, ◌%◌, ◌^◌, ◌≤◌, ◌<◌, List, [], ◌∷◌, length, take, drop, get_or, refl, sym, ap, ap₂, ◌∙◌, arith, w16, w64}
use Rattle.std.proofs.Math.Nat.{div-div-eq-div-mul}
use Rattle.std.proofs.Math.Numerals.{unary_clauses}
use Rattle.std.specs.Int.{byte_worth, sum_through, bytes_low_first, to_le_bytes, from_le_bytes}
use Rattle.meaning.specs.Groups.{low, low_bytes, group_size, fact_in}
use Rattle.meaning.proofs.Groups.{low_more, low_none, fact_at}

-- One byte more, at the high end.
low_last : (k : ℕ) (t : List ℕ) → low (suc k) t ≡ low k t + get_or t k 0 * 256 ^ k
unfolding low
low_last zero [] = refl
low_last zero (b ∷ t) = omega arith
low_last (suc k) [] = omega arith
low_last (suc k) (b ∷ t) =
    let e = low_last k t in
    let p : get_or t k 0 * 256 ^ suc k ≡ 256 * (get_or t k 0 * 256 ^ k) = simp unary_clauses (omega arith) in
    omega arith

-- The sum of what the bytes are worth.
sum_low : (k : ℕ) (t : List ℕ) → sum_through (λ i. byte_worth i (get_or t i 0)) k ≡ low (suc k) t
unfolding low
sum_low zero [] = refl
sum_low zero (b ∷ t) = omega arith
sum_low (suc k) t = ap (λ n. n + get_or t (suc k) 0 * 256 ^ suc k) (sum_low k t) ∙ sym (low_last (suc k) t)

-- The bytes after the first k do not matter.
low_take : (k : ℕ) (s : List ℕ) → low k (take k s) ≡ low k s
unfolding low
low_take zero s = refl
low_take (suc k) [] = refl
low_take (suc k) (b ∷ s) = ap (λ n. b + 256 * n) (low_take k s)

read : (k : ℕ) (s : List ℕ) → sum_through (λ i. byte_worth i (get_or (take (suc k) s) i 0)) k ≡ low (suc k) s
read k s = sum_low k (take (suc k) s) ∙ low_take (suc k) s

-- A fact of two bytes and one of eight, where its bytes begin.
module _ (at n i : ℕ) (g : List ℕ) (h : group_size * (n + 1) ≤ length g) (e : i ≡ group_size * n + at) where
  pub fact_two : from_le_bytes w16 (take 2 (drop i g)) ≡ get_or (fact_in at 2 g) n 0
  fact_two = read 1 (drop i g) ∙ ap (λ j. low 2 (drop j g)) e ∙ sym (fact_at at 2 n g h)

  pub fact_eight : from_le_bytes w64 (take 8 (drop i g)) ≡ get_or (fact_in at 8 g) n 0
  fact_eight = read 7 (drop i g) ∙ ap (λ j. low 8 (drop j g)) e ∙ sym (fact_at at 8 n g h)

  pub fact_one : i + 1 ≤ length g → get_or g i 0 ≡ get_or (fact_in at 1 g) n 0
  fact_one l =
      let f = fact_at at 1 n g h in
      let a = low_more 0 i (i + 1) g (omega arith) refl in
      let z = low_none (drop (i + 1) g) in
      let m : low 1 (drop i g) ≡ low 1 (drop (group_size * n + at) g) = ap (λ j. low 1 (drop j g)) e in
      omega arith

-- What is left after one byte more.
next_left : (n i : ℕ) → n / 256 ^ i / 256 ≡ n / 256 ^ suc i
next_left n i = div-div-eq-div-mul n (256 ^ i) 256 ∙ ap (λ m. n / m) (let e : 256 ^ i * 256 ≡ 256 ^ suc i = simp unary_clauses (omega arith) in e)

-- The bytes of what is left after the first i.
bytes_from : (i k n : ℕ) → bytes_low_first i k n ≡ low_bytes k (n / 256 ^ i)
unfolding low_bytes
bytes_from i zero n = refl
bytes_from zero (suc k) n =
    let e : n ≡ n / 1 = omega arith in
    ap₂ (λ m r. m % 256 ∷ r) e (bytes_from 1 k n ∙ ap (low_bytes k) (sym (next_left n 0)))
bytes_from (suc i) (suc k) n =
    ap (λ r. n / 256 ^ suc i % 256 ∷ r) (bytes_from (suc (suc i)) k n ∙ ap (low_bytes k) (sym (next_left n (suc i))))

pub bytes_two : (n : ℕ) → to_le_bytes w16 n ≡ low_bytes 2 n
bytes_two n = bytes_from 0 2 n ∙ ap (low_bytes 2) (let e : n / 256 ^ 0 ≡ n = omega arith in e)

pub bytes_eight : (n : ℕ) → to_le_bytes w64 n ≡ low_bytes 8 n
bytes_eight n = bytes_from 0 8 n ∙ ap (low_bytes 8) (let e : n / 256 ^ 0 ≡ n = omega arith in e)

-- The numbers of eight bytes, of two and of one, byte by byte.
pub low_eight : (at : ℕ) (s : List ℕ) → at + 8 ≤ length s
    → low 8 (drop at s)
    ≡ get_or s at 0 + 256 * (get_or s (at + 1) 0 + 256 * (get_or s (at + 2) 0 + 256 * get_or s (at + 3) 0))
    + 4294967296 * (get_or s (at + 4) 0 + 256 * (get_or s (at + 5) 0 + 256 * (get_or s (at + 6) 0 + 256 * get_or s (at + 7) 0)))
low_eight at s h =
    let a = low_more 7 at (at + 1) s (omega arith) (omega arith) in
    let b = low_more 6 (at + 1) (at + 2) s (omega arith) (omega arith) in
    let c = low_more 5 (at + 2) (at + 3) s (omega arith) (omega arith) in
    let d = low_more 4 (at + 3) (at + 4) s (omega arith) (omega arith) in
    let e = low_more 3 (at + 4) (at + 5) s (omega arith) (omega arith) in
    let f = low_more 2 (at + 5) (at + 6) s (omega arith) (omega arith) in
    let g = low_more 1 (at + 6) (at + 7) s (omega arith) (omega arith) in
    let i = low_more 0 (at + 7) (at + 8) s (omega arith) (omega arith) in
    let j = low_none (drop (at + 8) s) in
    omega arith

pub low_two : (at : ℕ) (s : List ℕ) → at + 2 ≤ length s → low 2 (drop at s) ≡ get_or s at 0 + 256 * get_or s (at + 1) 0
low_two at s h =
    let a = low_more 1 at (at + 1) s (omega arith) (omega arith) in
    let b = low_more 0 (at + 1) (at + 2) s (omega arith) (omega arith) in
    let j = low_none (drop (at + 2) s) in
    omega arith

pub low_one : (at : ℕ) (s : List ℕ) → at + 1 ≤ length s → low 1 (drop at s) ≡ get_or s at 0
low_one at s h =
    let a = low_more 0 at (at + 1) s (omega arith) (omega arith) in
    let j = low_none (drop (at + 1) s) in
    omega arith

-- Where the bytes from i on are those of a number: the first of them, and the others.
module _ (k i left : ℕ) (s : List ℕ) (h : i < k) (l : length s ≡ k) (e : drop i s ≡ low_bytes (k - i) left) where
  low_cons : get_or s i 0 ∷ drop (suc i) s ≡ left % 256 ∷ low_bytes (k - suc i) (left / 256)
  unfolding low_bytes
  low_cons =
      sym (drop-cons s i 0 (omega arith)) ∙ e ∙ ap (λ (n : ℕ). low_bytes n left) (let d : k - i ≡ suc (k - suc i) = omega arith in d)

  pub low_head : get_or s i 0 ≡ left % 256
  low_head = let c = low_cons in cc

  pub low_next : drop (i + 1) s ≡ low_bytes (k - (i + 1)) (left / 256)
  low_next =
      let c = low_cons in
      let d : drop (suc i) s ≡ low_bytes (k - suc i) (left / 256) = cc in
      rw add-one d
