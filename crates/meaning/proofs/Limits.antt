-- The limits of 3 and 4 on both sides, and types that lie there.
--
--   limits_pass                 a call whose named types all have at most 524,288 bits and a size of at most 2,097,152 passes both
--   wide_refused large_refused  where one has more bits, it is refused with 3; where none has, but one a greater size, with 4
--   size_odd                    every size is odd, so that the last within the limit of 4 is 2,097,151 and the first past it 2,097,153
--   nineteen_fits twenty_wide   word type 19 has the most bits, and the greatest size, that pass; word type 20 has too many bits
--   nineteen_passes twenty_refused      so a call that names word type 19 alone passes both; one that names word type 20 answers 3
--   bit_more unit_more          one bit past the limit of 3; at that limit, and one unit past the limit of 4
--   empties bits_empties size_empties   2 to the n units, joined by products: no bits, and 2^(n + 1) − 1 nodes
--   empties_fit empties_large   both sides of the limit of 4, without a bit
-- Assumes nothing.
use Prim.Native.Nat.{ℕ, zero, suc, ◌+◌, ◌*◌, ◌%◌, ◌^◌, ◌≤◌, ◌<◌}
use mathlib.Core.Path.{◌≡◌, refl, ap, ap₂, ◌∙◌}
use mathlib.Core.Bool.{Bool}
use mathlib.Core.List.{List, [], ◌∷◌, ◌++◌}
use native.Mathlib.Nat.{two-pow-succ}
use native.Mathlib.Omega.{arith}
use lib.Dec.{ltb}
use lib.Pow.{pow_mono}
use borrow.Author.Tests.{lt-ltb, le-ltb}
use Rattle.meaning.specs.Choice.{any}
use Rattle.meaning.specs.Types.{Ty, unit, sum, prod, bits, size}
use Rattle.meaning.specs.Tables.{Table}
use Rattle.meaning.specs.Words.{word}
use Rattle.meaning.specs.Ladder.{refused, Rung, rung, ladder, type_at, widest, largest, small, named}
use Rattle.meaning.specs.Checked.{Sound}
use Rattle.meaning.proofs.Choices.{In, only, any_none, any_some}
use Rattle.meaning.proofs.Ladders.{ladder_holds, ladder_fails, present_pass}
use Rattle.meaning.proofs.Words.{bits_word, size_word}

-- A call that names nodes of a sound table as record types, whatever rungs follow and whatever it answers.
module _ (t : Table) (s : Sound t) (ns : List ℕ) (h : (n : ℕ) → In n ns → n < t.count) {A : Type 0} (rs : List Rung) (a : A) where
  -- The tests of 3 and 4.
  abbrev wide : ℕ → Bool
  wide n = ltb widest (bits (type_at t n))

  abbrev large : ℕ → Bool
  large n = ltb largest (size (type_at t n))

  -- 1 and 2 do not apply.
  here : ladder (named t ns ++ rs) a ≡ ladder (small t ns ++ rs) a
  here = present_pass t s ns h (small t ns ++ rs) a

  -- Nor does 3.
  narrow : ((n : ℕ) → In n ns → bits (type_at t n) ≤ 524288) → ladder (named t ns ++ rs) a ≡ ladder (rung (any large ns) 4 0 ∷ rs) a
  narrow w =
      here
      ∙ ladder_fails (any wide ns) 3 0 (rung (any large ns) 4 0 ∷ rs) a (any_none wide ns (λ n i. le-ltb 524288 (bits (type_at t n)) (w n i)))

  pub limits_pass : ((n : ℕ) → In n ns → bits (type_at t n) ≤ 524288) → ((n : ℕ) → In n ns → size (type_at t n) ≤ 2097152)
      → ladder (named t ns ++ rs) a ≡ ladder rs a
  limits_pass w z =
      narrow w ∙ ladder_fails (any large ns) 4 0 rs a (any_none large ns (λ n i. le-ltb 2097152 (size (type_at t n)) (z n i)))

  pub wide_refused : (n : ℕ) → In n ns → 524288 < bits (type_at t n) → ladder (named t ns ++ rs) a ≡ refused 3 0
  wide_refused n i w =
      here
      ∙ ladder_holds (any wide ns) 3 0 (rung (any large ns) 4 0 ∷ rs) a (any_some wide ns n i (lt-ltb 524288 (bits (type_at t n)) w))

  pub large_refused : ((n : ℕ) → In n ns → bits (type_at t n) ≤ 524288) → (n : ℕ) → In n ns → 2097152 < size (type_at t n)
      → ladder (named t ns ++ rs) a ≡ refused 4 0
  large_refused w n i z =
      narrow w ∙ ladder_holds (any large ns) 4 0 rs a (any_some large ns n i (lt-ltb 2097152 (size (type_at t n)) z))

pub size_odd : (t : Ty) → size t % 2 ≡ 1
unfolding size
size_odd unit = refl
size_odd (sum a b) = let p = size_odd a in let q = size_odd b in omega arith
size_odd (prod a b) = let p = size_odd a in let q = size_odd b in omega arith

pub nineteen_fits : (bits (word 19) ≡ 524288) × (size (word 19) ≡ 2097151)
nineteen_fits = (bits_word 19, let h = size_word 19 (omega arith) in omega arith)

pub twenty_wide : 524288 < bits (word 20)
twenty_wide = let h = bits_word 20 in omega arith

-- Unit, squared n times.
unfoldable pub empties : ℕ → Ty
empties zero = unit
empties (suc n) = prod (empties n) (empties n)

pub bits_empties : (n : ℕ) → bits (empties n) ≡ 0
unfolding bits empties
bits_empties zero = refl
bits_empties (suc n) = ap₂ ◌+◌ (bits_empties n) (bits_empties n)

pub size_empties : (n : ℕ) → n ≤ 62 → size (empties n) + 1 ≡ 2 * 2 ^ n
unfolding size empties
size_empties zero l = refl
size_empties (suc n) l =
    let h = size_empties n (omega arith) in
    let d = two-pow-succ n in
    let m : 2 ^ suc n ≤ 2 ^ 62 = pow_mono l in
    omega arith

-- A unit beside a type: the same bits, and two nodes more.
beside : (b : Ty) (w : ℕ) → bits b ≡ w → size b ≡ 2097151 → (bits (prod unit b) ≡ w) × (size (prod unit b) ≡ 2097153)
unfolding bits size
beside b w e z = (omega arith, omega arith)

pub bit_more : bits (sum unit (word 19)) ≡ 524289
unfolding bits
bit_more = let e = nineteen_fits.0 in omega arith

pub unit_more : (bits (prod unit (word 19)) ≡ 524288) × (size (prod unit (word 19)) ≡ 2097153)
unit_more = beside (word 19) 524288 nineteen_fits.0 nineteen_fits.1

pub empties_fit : (bits (empties 20) ≡ 0) × (size (empties 20) ≡ 2097151)
empties_fit = (bits_empties 20, let h = size_empties 20 (omega arith) in omega arith)

pub empties_large : (bits (prod unit (empties 20)) ≡ 0) × (size (prod unit (empties 20)) ≡ 2097153)
empties_large = beside (empties 20) 0 empties_fit.0 empties_fit.1

-- A call that names one of these, whatever rungs follow and whatever it answers.
module _ (t : Table) (s : Sound t) {A : Type 0} (rs : List Rung) (a : A) where
  pub nineteen_passes : (n : ℕ) → n < t.count → type_at t n ≡ word 19 → ladder (named t (n ∷ []) ++ rs) a ≡ ladder rs a
  nineteen_passes n h e =
      let b = ap bits e ∙ nineteen_fits.0 in
      let z = ap size e ∙ nineteen_fits.1 in
      limits_pass t s (n ∷ []) (only (λ (m : ℕ). m < t.count) n h) rs a (only (λ (m : ℕ). bits (type_at t m) ≤ 524288) n (omega arith))
      (only (λ (m : ℕ). size (type_at t m) ≤ 2097152) n (omega arith))

  pub twenty_refused : (ns : List ℕ) → ((m : ℕ) → In m ns → m < t.count) → (n : ℕ) → In n ns → type_at t n ≡ word 20
      → ladder (named t ns ++ rs) a ≡ refused 3 0
  twenty_refused ns h n i e = let b = ap bits e in let w = twenty_wide in wide_refused t s ns h rs a n i (omega arith)
