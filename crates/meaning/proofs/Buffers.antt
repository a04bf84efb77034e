-- Buffer types, the hash state's type, and the questions for them.
--
--   bits_segment                a segment is a tag and its bytes
--   bits_buffer                 the width of buffer n, in closed form
--   buffer_five bits_ctx8       buffer 5 has 510 bits; the hash state, with the count and the midstate, 830
--   buffer_told other_told      `is_buffer8` of a node of a sound table, for every n up to 12: yes of buffer n; no of any other type
--   ctx8_told no_ctx8_told      `is_ctx8` of one: yes of the hash state's type; no of any other
-- Assumes nothing.
use Prim.Native.Nat.{ℕ, zero, suc, ◌+◌, ◌*◌, ◌^◌, ◌<◌}
use mathlib.Core.Path.{◌≡◌, refl, ap, ◌∙◌}
use mathlib.Core.Bool.{Bool, true, false, not}
use mathlib.Core.List.{[], ◌∷◌}
use native.Mathlib.Nat.{two-pow-succ}
use native.Mathlib.Omega.{arith}
use lib.Dec.{ltb}
use lib.Pow.{pow-add}
use borrow.Author.Tests.{lt-ltb}
use Rattle.meaning.specs.Types.{Ty, same, bits}
use Rattle.meaning.specs.Tables.{Table}
use Rattle.meaning.specs.Words.{segment, buffer, ctx8}
use Rattle.meaning.specs.Ladder.{accepted, ladder, type_at, ranged}
use Rattle.meaning.specs.TypeCalls.{is_buffer8_call, is_ctx8_call}
use Rattle.meaning.specs.Checked.{Sound}
use Rattle.meaning.proofs.Choices.{In, only}
use Rattle.meaning.proofs.Types.{same_eq, eq_same}
use Rattle.meaning.proofs.Ladders.{ladder_fails, present_pass}
use Rattle.meaning.proofs.Words.{bits_word}

pub bits_segment : (n : ℕ) → bits (segment n) ≡ 1 + 8 * 2 ^ n
unfolding bits
bits_segment n = let w = bits_word (3 + n) in let p = pow-add 2 3 n in omega arith

pub bits_buffer : (n : ℕ) → bits (buffer n) + 7 ≡ 16 * 2 ^ n + n
unfolding bits buffer
bits_buffer zero = let s = bits_segment 0 in omega arith
bits_buffer (suc n) =
    let s = bits_segment (suc n) in
    let b = bits_buffer n in
    let p = two-pow-succ n in
    omega arith

pub buffer_five : bits (buffer 5) ≡ 510
buffer_five = let b = bits_buffer 5 in omega arith

pub bits_ctx8 : bits ctx8 ≡ 830
unfolding bits ctx8
bits_ctx8 = let b = buffer_five in let c = bits_word 6 in let m = bits_word 8 in omega arith

-- Types that differ are told to.
differ : (x y : Ty) → (x ≡ y → ⊥) → same x y ≡ false
differ x y f = by_test (same x y) refl
  where
    by_test : (b : Bool) → same x y ≡ b → b ≡ false
    by_test true e = absurd (f (same_eq x y e))
    by_test false e = refl

-- A node of a sound table.
module _ (t : Table) (s : Sound t) (a : ℕ) (h : a < t.count) where
  -- The one node that is named.
  one : (m : ℕ) → In m (a ∷ []) → m < t.count
  one = only (λ (m : ℕ). m < t.count) a h

  -- Asked for buffer n, up to the last n.
  module _ (n : ℕ) (l : n < 13) where
    told : is_buffer8_call t a n ≡ accepted (same (type_at t a) (buffer n))
    unfolding ladder
    told =
        let v = same (type_at t a) (buffer n) in
        present_pass t s (a ∷ []) one (ranged (ltb n 13)) v ∙ ladder_fails (not (ltb n 13)) 6 0 [] v (ap not (lt-ltb n 13 l))

    pub buffer_told : type_at t a ≡ buffer n → is_buffer8_call t a n ≡ accepted true
    buffer_told e = told ∙ ap accepted (eq_same (type_at t a) (buffer n) e)

    pub other_told : (type_at t a ≡ buffer n → ⊥) → is_buffer8_call t a n ≡ accepted false
    other_told f = told ∙ ap accepted (differ (type_at t a) (buffer n) f)

  state_told : is_ctx8_call t a ≡ accepted (same (type_at t a) ctx8)
  unfolding ladder
  state_told = present_pass t s (a ∷ []) one [] (same (type_at t a) ctx8)

  pub ctx8_told : type_at t a ≡ ctx8 → is_ctx8_call t a ≡ accepted true
  ctx8_told e = state_told ∙ ap accepted (eq_same (type_at t a) ctx8 e)

  pub no_ctx8_told : (type_at t a ≡ ctx8 → ⊥) → is_ctx8_call t a ≡ accepted false
  no_ctx8_told f = state_told ∙ ap accepted (differ (type_at t a) ctx8 f)
