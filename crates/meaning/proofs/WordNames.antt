-- The n that a type answers, if it is a word, and the question for it.
--
--   as_word_le as_word_else     the answer is at most 32, and where it is no n of the list, it is 32
--   as_word_word as_word_is_word  below 32, the type is that word
--   as_word_is                  word n answers n
--   as_word_ones as_word_zeros  a word's width has one bit set, and the zeros below it are its n
--   as_word_told no_word_told   `as_word` of a node of a sound table: n of word n, up to the last n; 7 of any other type
-- Assumes nothing.
use Prim.Native.Nat.{ℕ, ◌^◌, ◌≤◌, ◌<◌}
use mathlib.Core.Path.{◌≡◌, refl, ap, sym, ◌∙◌, subst}
use mathlib.Core.Bool.{Bool, true, false, not}
use mathlib.Core.List.{[], ◌∷◌}
use native.Mathlib.Nat.{le_of_lt}
use native.Mathlib.Omega.{arith}
use lib.Count.{ones, count_trailing_zeros}
use lib.Dec.{ltb}
use borrow.Author.Tests.{lt-ltb, le-ltb}
use Rattle.meaning.specs.Types.{Ty, width}
use Rattle.meaning.specs.Tables.{Table}
use Rattle.meaning.specs.Words.{word, is_word, as_word}
use Rattle.meaning.specs.Ladder.{refused, accepted, ladder, type_at, shaped}
use Rattle.meaning.specs.TypeCalls.{as_word_call}
use Rattle.meaning.specs.Checked.{Sound}
use Rattle.meaning.proofs.Choices.{least_le, least_passes, least_unique, only}
use Rattle.meaning.proofs.Ladders.{ladder_holds, ladder_fails, present_pass}
use Rattle.meaning.proofs.Powers.{ones_pow, trailing_pow}
use Rattle.meaning.proofs.Words.{word_is_word, is_word_word, width_word, word_injective}

pub as_word_le : (t : Ty) → as_word t ≤ 32
unfolding as_word
as_word_le t = least_le (λ n. is_word n t) 32

pub as_word_word : (t : Ty) → as_word t < 32 → t ≡ word (as_word t)
unfolding as_word
as_word_word t h = is_word_word (as_word t) t (least_passes (λ n. is_word n t) 32 h)

-- A word type is no other word type.
other_word : (k n : ℕ) (t : Ty) → k < n → is_word n t ≡ true → (b : Bool) → is_word k t ≡ b → b ≡ false
other_word k n t h e true f = absurd (differ (word_injective k n (sym (is_word_word k t f) ∙ is_word_word n t e)))
  where
    differ : k ≡ n → ⊥
    differ d = omega arith
other_word k n t h e false f = refl

pub as_word_is : (n : ℕ) (t : Ty) → n < 32 → is_word n t ≡ true → as_word t ≡ n
unfolding as_word
as_word_is n t h e =
    least_unique (λ k. is_word k t) 32 n (le_of_lt h) (λ k l. other_word k n t l e (is_word k t) refl) (λ l. e)

pub as_word_is_word : (t : Ty) → as_word t < 32 → is_word (as_word t) t ≡ true
as_word_is_word t h = subst (λ (z : Ty). is_word (as_word t) z ≡ true) (sym (as_word_word t h)) (word_is_word (as_word t))

pub as_word_else : (t : Ty) → (as_word t < 32 → ⊥) → as_word t ≡ 32
as_word_else t f = let l = as_word_le t in omega arith

as_word_width : (t : Ty) → as_word t < 32 → width t ≡ 2 ^ as_word t
as_word_width t h = ap width (as_word_word t h) ∙ width_word (as_word t) h

pub as_word_ones : (t : Ty) → as_word t < 32 → ones (width t) ≡ 1
as_word_ones t h = ap ones (as_word_width t h) ∙ ones_pow (as_word t)

pub as_word_zeros : (t : Ty) → as_word t < 32 → count_trailing_zeros 64 (width t) ≡ as_word t
as_word_zeros t h = ap (count_trailing_zeros 64) (as_word_width t h) ∙ trailing_pow 64 (as_word t) (omega arith)

-- A node of a sound table.
module _ (t : Table) (s : Sound t) (a : ℕ) (h : a < t.count) where
  -- The n that its type answers, and whether it is one of the list.
  abbrev n_of : ℕ
  n_of = as_word (type_at t a)

  asked_shape : as_word_call t a ≡ ladder (shaped (ltb n_of 32)) n_of
  asked_shape = present_pass t s (a ∷ []) (only (λ (m : ℕ). m < t.count) a h) (shaped (ltb n_of 32)) n_of

  pub as_word_told : (n : ℕ) → n < 32 → type_at t a ≡ word n → as_word_call t a ≡ accepted n
  unfolding ladder
  as_word_told n l e =
      let w : n_of ≡ n = as_word_is n (type_at t a) l (subst (λ (z : Ty). is_word n z ≡ true) (sym e) (word_is_word n)) in
      asked_shape
      ∙ ladder_fails (not (ltb n_of 32)) 7 0 [] n_of (ap not (lt-ltb n_of 32 (omega (arith, w, l))))
      ∙ ap accepted w

  pub no_word_told : ((n : ℕ) → n < 32 → type_at t a ≡ word n → ⊥) → as_word_call t a ≡ refused 7 0
  no_word_told f =
      let e = as_word_else (type_at t a) (λ l. f n_of l (as_word_word (type_at t a) l)) in
      asked_shape ∙ ladder_holds (not (ltb n_of 32)) 7 0 [] n_of (ap not (le-ltb n_of 32 (omega (arith, e))))
