-- A word that is chosen where a test passes: the call answers as if the test were asked first and the shape after it.
--
--   picked                      the same answer and the same output
-- Assumes nothing.
use Prim.Native.Nat.{ℕ}
use mathlib.Core.Path.{◌≡◌, refl, ap}
use mathlib.Core.Bool.{Bool, true, false}
use mathlib.Core.List.{List, [], ◌∷◌, ◌++◌}
use Rattle.std.specs.Bool.{then_some}
use Rattle.meaning.specs.Tables.{Table}
use Rattle.meaning.specs.Bits.{written}
use Rattle.meaning.specs.Words.{is_word}
use Rattle.meaning.specs.Ladder.{Answer, Rung, rung, ladder, kept, named, type_at, shaped, room_for, makes, made}
use Rattle.meaning.specs.WordCalls.{from_range}
use Rattle.words_bytes.specs.Chosen.{chosen_rungs}

-- What is asked after a rung that refuses doesn't matter.
cut : {A : Type 0} (gs xs ys zs : List Rung) (a : A) → ladder ((gs ++ (rung true 6 0 ∷ xs)) ++ zs) a ≡ ladder ((gs ++ (rung true 6 0 ∷ ys)) ++ zs) a
unfolding ladder
cut [] xs ys zs a = refl
cut (rung true n p ∷ gs) xs ys zs a = refl
cut (rung false n p ∷ gs) xs ys zs a = cut gs xs ys zs a

module _ (t : Table) (n res : ℕ) (v : List Bool) (out : List ℕ) where
  same : (b : Bool) → makes (chosen_rungs t (then_some b n) res) v out ≡ makes (from_range t res b (is_word n (type_at t res))) v out
  same true = refl
  same false = cut (named t (res ∷ [])) (shaped false) (shaped (is_word n (type_at t res))) (room_for v out) _

  pub picked : (b : Bool)
      → (makes (chosen_rungs t (then_some b n) res) v out ≡ makes (from_range t res b (is_word n (type_at t res))) v out)
      × (made (chosen_rungs t (then_some b n) res) v out ≡ made (from_range t res b (is_word n (type_at t res))) v out)
  picked b = (same b, ap (λ (a : Answer ℕ). kept a out (written v out)) (same b))
