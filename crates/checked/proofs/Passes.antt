-- The converse of `Passed`: what is within the limits passes the first rungs of a call.
--
--   asked_passes named_passes handed_passes stream_passes     1 and 2; 1 to 4; 1 to 5 of records; 1 to 5 of a stream
--   held_passes                 1 to 5 of one record
--   stream-fits                 5 does not apply to a stream within its bytes with a position within the stream
--   handed_accepts              a call without other rungs is accepted then, with whatever it answers
-- Assumes nothing.
use Prim.Native.Nat.{ℕ, ◌+◌, ◌*◌, ◌≤◌}
use mathlib.Core.Path.{◌≡◌, sym, ap, ◌∙◌, subst}
use mathlib.Core.Bool.{false, ◌||◌}
use mathlib.Core.List.{List, [], ◌∷◌, ◌++◌, map, append-nil}
use mathlib.Core.Logic.{inl, inr}
use lib.Dec.{ltb}
use lib.ListN.{length}
use borrow.Author.Tests.{le-ltb}
use Rattle.meaning.specs.Choice.{any}
use Rattle.meaning.specs.Types.{bits}
use Rattle.meaning.specs.Tables.{Table}
use Rattle.meaning.specs.Ladder.{accepted, Rung, ladder, sound, present, named, within, stream_fits, Record, Stream, type_of}
use Rattle.meaning.specs.TypeCalls.{asks}
use Rattle.meaning.specs.RecordCalls.{handed}
use Rattle.meaning.specs.CodecCalls.{read_rungs}
use Rattle.meaning.specs.Checked.{Sound}
use Rattle.meaning.proofs.Choices.{In, any_none}
use Rattle.meaning.proofs.Ladders.{ladder_pass, ladder_any, ladder_fails, present_pass}
use Rattle.meaning.proofs.Limits.{limits_pass}
use Rattle.meaning.proofs.Tests.{or_none}
use Rattle.checked.specs.Passed.{All, Present, Named, Held, Streamed}

-- What every member has, each member has.
each : {A : Type 0} (P : A → Type 0) (ys : List A) → All P ys → (x : A) → In x ys → P x
each P [] h x i = absurd i
each P (y ∷ ys) h x (inl e) = subst P (sym e) h.0
each P (y ∷ ys) h x (inr i) = each P ys h.1 x i

-- A ladder that hands on to nothing accepts.
alone : (rs : List Rung) → ladder (rs ++ []) (tt {0}) ≡ ladder [] (tt {0}) → ladder rs (tt {0}) ≡ accepted (tt {0})
unfolding ladder
alone rs e = ap (λ (x : List Rung). ladder x (tt {0})) (sym (append-nil rs)) ∙ e

module _ (t : Table) (s : Sound t) where
  pub asked_passes : (ns : List ℕ) → All (Present t) ns → asks t ns [] (tt {0}) ≡ accepted (tt {0})
  asked_passes ns a =
      alone (sound t ++ present t ns) (present_pass t s ns (λ n i. (each (Present t) ns a n i).here) [] (tt {0}))

  pub named_passes : (ns : List ℕ) → All (Named t) ns → ladder (named t ns) (tt {0}) ≡ accepted (tt {0})
  named_passes ns a =
      let of = each (Named t) ns a in
      alone (named t ns)
      (limits_pass t s ns (λ n i. (of n i).here) [] (tt {0}) (λ n i. (of n i).narrow) (λ n i. (of n i).few))

  -- The nodes that a call names: those of its records, and more.
  names : (rs : List Record) (ns : List ℕ) → All (Held t) rs → All (Named t) ns → All (Named t) (map (λ r. r.node) rs ++ ns)
  names [] ns h a = a
  names (r ∷ rs) ns h a = (h.0.named, names rs ns h.1 a)

  pub handed_passes : (rs : List Record) (ns : List ℕ) → All (Held t) rs → All (Named t) ns → ladder (handed t rs ns) (tt {0}) ≡ accepted (tt {0})
  unfolding ladder
  handed_passes rs ns h a =
      ladder_pass (named t (map (λ r. r.node) rs ++ ns)) (within t rs) (tt {0}) (tt {0}) (tt {0})
      (named_passes (map (λ r. r.node) rs ++ ns) (names rs ns h a))
      ∙ ladder_fails (any (λ r. ltb (8 * length r.bytes) (r.offset + bits (type_of t r))) rs) 5 0 [] (tt {0})
      (any_none (λ r. ltb (8 * length r.bytes) (r.offset + bits (type_of t r))) rs
      (λ r i. le-ltb (8 * length r.bytes) (r.offset + bits (type_of t r)) (each (Held t) rs h r i).ends))

  pub handed_accepts : {A : Type 0} (rs : List Record) (ns : List ℕ) (v : A) → All (Held t) rs → All (Named t) ns
      → ladder (handed t rs ns) v ≡ accepted v
  handed_accepts rs ns v h a = ladder_any (handed t rs ns) (tt {0}) (tt {0}) v (handed_passes rs ns h a)

pub held_passes : (t : Table) (r : Record) → Held t r → ladder (handed t (r ∷ []) []) (tt {0}) ≡ accepted (tt {0})
held_passes t r h = handed_passes t h.named.sound (r ∷ []) [] (h, tt) tt

pub stream-fits : (s : Stream) → s.until ≤ 8 * length s.bytes → s.position ≤ s.until
    → (ltb (8 * length s.bytes) s.until || ltb s.until s.position) ≡ false
stream-fits s h k =
    or_none (ltb (8 * length s.bytes) s.until) (ltb s.until s.position) (le-ltb (8 * length s.bytes) s.until h)
    (le-ltb s.until s.position k)

pub stream_passes : (t : Table) (s : Stream) (n : ℕ) → Streamed t s n → ladder (read_rungs t s n) (tt {0}) ≡ accepted (tt {0})
unfolding ladder
stream_passes t s n h =
    ladder_pass (named t (n ∷ [])) (stream_fits s) (tt {0}) (tt {0}) (tt {0}) (named_passes t h.named.sound (n ∷ []) (h.named, tt))
    ∙ ladder_fails (ltb (8 * length s.bytes) s.until || ltb s.until s.position) 5 0 [] (tt {0}) (stream-fits s h.ends h.begins)
