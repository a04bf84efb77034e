-- The struct that is made of slices stands for them: `ctx8` answers for it as for the slices.
--
--   no_stand stands             a struct out of range; one that holds the slices
--   at_front                    a list at the front of a longer one
--   stops keeps                 a ladder past a rung that holds, and an output after it
--   handed_call handed_out      the answer, and the output
-- Assumes nothing.
use Prim.Native.Nat.{ℕ, ◌≤◌}
use mathlib.Core.Path.{◌≡◌, refl, ap, ap₂, sym, ◌∙◌}
use mathlib.Core.Bool.{Bool, true, false, true≢false}
use mathlib.Core.List.{List, [], ◌∷◌, ◌++◌}
use lib.ListN.{length, take}
use lib.Seq.{take-length, take-append_seam}
use lib.Dec.{leb}
use borrow.Author.Tests.{eq-eqb}
use Rattle.meaning.specs.Types.{same}
use Rattle.meaning.specs.Tables.{Table}
use Rattle.meaning.specs.Bits.{to_bits, bits_of, written}
use Rattle.meaning.specs.Words.{buffer_bits, ctx8, ctx8_bits}
use Rattle.meaning.specs.Ladder.{Rung, rung, ladder, kept, type_at, named, ranged, shaped, room_for, makes, made}
use Rattle.meaning.specs.WordCalls.{ctx8_call, ctx8_out}
use Rattle.words_states.specs.declared.HashState.{HashState}
use Rattle.words_states.specs.State.{state_of}
use Rattle.exports.specs.Handed.{in_range, handed_state, ctx8_handed, ctx8_handed_out, Stands}

pub no_stand : (m : List ℕ) (k : ℕ) (b : List ℕ) (s : HashState) → s.used ≡ 64 → in_range m b ≡ false → Stands m k b s
no_stand m k b s e out =
    record { ranges = ap (λ n. leb n 63) e ∙ sym out; means = λ h. absurd (true≢false (sym h ∙ out)) }

pub stands : (m : List ℕ) (k : ℕ) (b : List ℕ) (s : HashState) → length m ≡ 32 → length b ≤ 63 → s.midstate ≡ m → s.count ≡ k
    → take (length b) s.buffer ≡ b → s.used ≡ length b → Stands m k b s
unfolding ctx8_bits
stands m k b s m32 b63 first counted held used =
    record {
      ranges = ap (λ n. leb n 63) used ∙ fits;
      means = λ h.
          ap₂ (λ (x : List ℕ) (v : List Bool). buffer_bits 5 x ++ v)
          (ap (λ n. take n s.buffer) used ∙ held ∙ sym (take-length b))
          (ap₂ (λ (n : ℕ) (x : List ℕ). to_bits 64 n ++ bits_of x) counted first);
    }
  where
    fits : leb (length b) 63 ≡ in_range m b
    fits = simp (eq-eqb (length m) 32 m32)

stops : (rs ss us vs : List Rung) (a b : ℕ) → ladder ((rs ++ (rung true 6 0 ∷ ss)) ++ us) a ≡ ladder ((rs ++ (rung true 6 0 ∷ ss)) ++ vs) b
unfolding ladder
stops [] ss us vs a b = refl
stops (rung true n p ∷ rs) ss us vs a b = refl
stops (rung false n p ∷ rs) ss us vs a b = stops rs ss us vs a b

keeps : (rs ss us : List Rung) (a : ℕ) (out after : List ℕ) → kept (ladder ((rs ++ (rung true 6 0 ∷ ss)) ++ us) a) out after ≡ out
unfolding ladder
keeps [] ss us a out after = refl
keeps (rung true n p ∷ rs) ss us a out after = refl
keeps (rung false n p ∷ rs) ss us a out after = keeps rs ss us a out after

-- A list at the front of a longer one.
pub at_front : (b x rest : List ℕ) → x ≡ b → take (length b) (x ++ rest) ≡ b
at_front b x rest e = ap (λ y. take (length b) (y ++ rest)) e ∙ take-append_seam b rest

-- A call whose bits matter only in range.
module _ (rs ss : List Rung) (v w : List Bool) (out : List ℕ) where
  same_call : (fine : Bool) → (fine ≡ true → v ≡ w) → makes (rs ++ (ranged fine ++ ss)) v out ≡ makes (rs ++ (ranged fine ++ ss)) w out
  same_call true e = ap (λ x. makes (rs ++ (ranged true ++ ss)) x out) (e refl)
  same_call false e = stops rs ss (room_for v out) (room_for w out) (length v) (length w)

  same_out : (fine : Bool) → (fine ≡ true → v ≡ w) → made (rs ++ (ranged fine ++ ss)) v out ≡ made (rs ++ (ranged fine ++ ss)) w out
  same_out true e = ap (λ x. made (rs ++ (ranged true ++ ss)) x out) (e refl)
  same_out false e =
      keeps rs ss (room_for v out) (length v) out (written v out) ∙ sym (keeps rs ss (room_for w out) (length w) out (written w out))

module _ (t : Table) (m : List ℕ) (k : ℕ) (b : List ℕ) (s : HashState) (result : ℕ) (out : List ℕ) (h : Stands m k b s) where
  pub handed_call : ctx8_call t (state_of s) result out ≡ ctx8_handed t m k b result out
  handed_call =
      let rs = named t (result ∷ []) in
      let ss = shaped (same (type_at t result) ctx8) in
      ap (λ x. makes (rs ++ (ranged x ++ ss)) (ctx8_bits (state_of s)) out) h.ranges
      ∙ same_call rs ss (ctx8_bits (state_of s)) (ctx8_bits (handed_state m k b)) out (in_range m b) h.means

  pub handed_out : ctx8_out t (state_of s) result out ≡ ctx8_handed_out t m k b result out
  handed_out =
      let rs = named t (result ∷ []) in
      let ss = shaped (same (type_at t result) ctx8) in
      ap (λ x. made (rs ++ (ranged x ++ ss)) (ctx8_bits (state_of s)) out) h.ranges
      ∙ same_out rs ss (ctx8_bits (state_of s)) (ctx8_bits (handed_state m k b)) out (in_range m b) h.means
