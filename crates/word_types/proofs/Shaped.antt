-- How the questions about words and buffers answer, past the table and the node.
--
--   no_word_width word_width_told no_buffer_width buffer_width_told     the widths
--   no_word word_told no_buffer buffer_told ctx8_told                   the types
-- Assumes nothing.
use Prim.Native.Nat.{ℕ, ◌<◌, ◌≤◌}
use mathlib.Core.Path.{◌≡◌, sym, ◌∙◌}
use mathlib.Core.Bool.{Bool}
use mathlib.Core.List.{[], ◌∷◌}
use native.Mathlib.Omega.{arith}
use lib.Dec.{ltb}
use lib.ListN.{get_or}
use borrow.Author.Tests.{lt-ltb, le-ltb}
use Rattle.std.specs.Prelude.{Option, None, Some, MatchOption}
use Rattle.std.specs.Option.{ok_or}
use Rattle.meaning.specs.Types.{same, bits}
use Rattle.meaning.specs.Tables.{Table}
use Rattle.meaning.specs.Words.{word_widths, as_word, buffer, ctx8}
use Rattle.meaning.specs.Ladder.{refused, accepted, type_at, ranged, shaped}
use Rattle.meaning.specs.TypeCalls.{as_word_call, word_width_call, buffer_width_call, is_buffer8_call, is_ctx8_call}
use Rattle.answers.specs.declared.Refusal.{Refusal}
use Rattle.answers.specs.Verdicts.{count_of}
use Rattle.checked_present.proofs.Asking.{judged, asks_pass, answered, own_holds, own_passes}

module _ (n : ℕ) where
  pub no_word_width : 32 ≤ n → refused 6 0 ≡ word_width_call n
  no_word_width h = own_holds (ltb n 32) 6 (get_or word_widths n 0) (le-ltb n 32 h)

  pub word_width_told : n < 32 → (r : ℕ) → r ≡ get_or word_widths n 0 → accepted r ≡ word_width_call n
  word_width_told h r e = own_passes (ltb n 32) 6 (get_or word_widths n 0) (lt-ltb n 32 h) r e

  pub no_buffer_width : 13 ≤ n → refused 6 0 ≡ buffer_width_call n
  no_buffer_width h = own_holds (ltb n 13) 6 (bits (buffer n)) (le-ltb n 13 h)

  pub buffer_width_told : n < 13 → (r : ℕ) → r ≡ bits (buffer n) → accepted r ≡ buffer_width_call n
  buffer_width_told h r e = own_passes (ltb n 13) 6 (bits (buffer n)) (lt-ltb n 13 h) r e

module _ (t : Table) (n : ℕ) (h : accepted (tt {0}) ≡ judged t (n ∷ [])) where
  pub no_word : (r : ℕ) → r ≡ as_word (type_at t n) → 32 ≤ r → refused 7 0 ≡ as_word_call t n
  no_word r e l =
      let g : 32 ≤ as_word (type_at t n) = omega arith in
      own_holds (ltb (as_word (type_at t n)) 32) 7 (as_word (type_at t n)) (le-ltb (as_word (type_at t n)) 32 g)
      ∙ asks_pass t (n ∷ []) (shaped (ltb (as_word (type_at t n)) 32)) (as_word (type_at t n)) h

  -- A type's n, if it is a word of the list.
  pub word_told : (r : Option ℕ) → MatchOption r (as_word (type_at t n) ≡ 32) (λ m. (m < 32) × (as_word (type_at t n) ≡ m))
      → count_of (ok_or r Refusal.WrongShape) ≡ as_word_call t n
  word_told None e =
      let w = as_word (type_at t n) in
      let g : 32 ≤ w = omega (arith, e) in
      own_holds (ltb w 32) 7 w (le-ltb w 32 g) ∙ asks_pass t (n ∷ []) (shaped (ltb w 32)) w h
  word_told (Some m) e =
      let w = as_word (type_at t n) in
      let g : w < 32 = omega (arith, e.0, e.1) in
      own_passes (ltb w 32) 7 w (lt-ltb w 32 g) m (sym e.1) ∙ asks_pass t (n ∷ []) (shaped (ltb w 32)) w h

  module _ (k : ℕ) where
    pub no_buffer : 13 ≤ k → refused 6 0 ≡ is_buffer8_call t n k
    no_buffer l =
        own_holds (ltb k 13) 6 (same (type_at t n) (buffer k)) (le-ltb k 13 l)
        ∙ asks_pass t (n ∷ []) (ranged (ltb k 13)) (same (type_at t n) (buffer k)) h

    pub buffer_told : k < 13 → (r : Bool) → r ≡ same (type_at t n) (buffer k) → accepted r ≡ is_buffer8_call t n k
    buffer_told l r e =
        own_passes (ltb k 13) 6 (same (type_at t n) (buffer k)) (lt-ltb k 13 l) r e
        ∙ asks_pass t (n ∷ []) (ranged (ltb k 13)) (same (type_at t n) (buffer k)) h

  pub ctx8_told : (r : Bool) → r ≡ same (type_at t n) ctx8 → accepted r ≡ is_ctx8_call t n
  ctx8_told r e = answered t (n ∷ []) (same (type_at t n) ctx8) r h e
