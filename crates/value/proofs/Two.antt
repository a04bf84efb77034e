-- Two records together, and the first five rungs.
--
--   two_pass two_held       the rungs pass exactly if they do for each of the two
--   swapped                 in either order
-- Assumes nothing.
use Prim.Native.Nat.{◌+◌, ◌*◌}
use mathlib.Core.Path.{◌≡◌, refl}
use mathlib.Core.Bool.{Bool, true, false, ◌||◌}
use mathlib.Core.List.{List, [], ◌∷◌, ◌++◌}
use lib.Dec.{ltb, leb}
use lib.ListN.{length}
use Rattle.meaning.specs.Types.{bits, size}
use Rattle.meaning.specs.Tables.{Table}
use Rattle.meaning.specs.Ladder.{accepted, Rung, rung, ladder, Record, type_of, sound}
use Rattle.meaning.specs.RecordCalls.{handed}
use Rattle.meaning.proofs.Ladders.{ladder_parts}
use Rattle.checked.specs.Passed.{Held}
use Rattle.checked.proofs.Passed.{handed_passed}
use Rattle.checked.proofs.Passes.{handed_accepts}

-- The same test of two, in either order.
swap : (x y : Bool) → (x || (y || false)) ≡ (y || (x || false))
swap true true = refl
swap true false = refl
swap false true = refl
swap false false = refl

module _ {A : Type 0} (t : Table) (a b : Record) (v : A) where
  pub two_pass : Held t a → Held t b → ladder (handed t (a ∷ b ∷ []) []) v ≡ accepted v
  two_pass f g = handed_accepts t f.named.sound (a ∷ b ∷ []) [] v (f, (g, tt)) tt

  pub two_held : (x : A) → ladder (handed t (a ∷ b ∷ []) []) v ≡ accepted x → Held t a × Held t b × (v ≡ x)
  unfolding ladder
  two_held x h =
      let q = ladder_parts (handed t (a ∷ b ∷ []) []) [] (tt {0}) v x h in
      let p = handed_passed t (a ∷ b ∷ []) [] q.0 in
      let e : accepted v ≡ accepted x = q.1 in
      (p.0.0, p.0.1.0, cc)

  -- The rungs of two records, by their tests.
  abbrev five : Bool → Bool → Bool → Bool → List Rung
  five m w l p = sound t ++ (rung m 2 0 ∷ rung w 3 0 ∷ rung l 4 0 ∷ rung p 5 0 ∷ [])

  pub swapped : ladder (handed t (a ∷ b ∷ []) []) v ≡ ladder (handed t (b ∷ a ∷ []) []) v
  swapped =
      λ i. ladder
      (five (swap (leb t.count a.node) (leb t.count b.node) i)
      (swap (ltb 524288 (bits (type_of t a))) (ltb 524288 (bits (type_of t b))) i)
      (swap (ltb 2097152 (size (type_of t a))) (ltb 2097152 (size (type_of t b))) i)
      (swap (ltb (8 * length a.bytes) (a.offset + bits (type_of t a))) (ltb (8 * length b.bytes) (b.offset + bits (type_of t b))) i))
      v
