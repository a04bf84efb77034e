-- What is known once the first rungs of a call have let it pass.
--
--   asked_passed                1 and 2, of a question about nodes
--   named_passed                1 to 4, of named record types
--   handed_passed               1 to 5, of records and more named types
--   stream_passed               1 to 5, of a stream
-- Assumes nothing.
use Prim.Native.Nat.{ℕ, ◌+◌, ◌*◌}
use mathlib.Core.Path.{◌≡◌}
use mathlib.Core.Bool.{Bool, false, ◌||◌}
use mathlib.Core.List.{List, [], ◌∷◌, ◌++◌, map}
use lib.Dec.{ltb, leb}
use lib.ListN.{length}
use borrow.Author.Tests.{leb-false, ltb-false}
use Rattle.meaning.specs.Choice.{any}
use Rattle.meaning.specs.Types.{bits, size}
use Rattle.meaning.specs.Tables.{Table, ty_at}
use Rattle.meaning.specs.Ladder.{accepted, rung, ladder, sound, present, small, named, within, stream_fits, Record, Stream, type_of}
use Rattle.meaning.specs.TypeCalls.{asks}
use Rattle.meaning.specs.RecordCalls.{handed}
use Rattle.meaning.specs.CodecCalls.{read_rungs}
use Rattle.meaning.specs.Checked.{Sound}
use Rattle.meaning.proofs.Ladders.{ladder_parts, ladder_clear, accepted_sound}
use Rattle.meaning.proofs.Tests.{or_false_left, or_false_right}
use Rattle.checked.specs.Passed.{All, Present, Named, Held, Streamed}

-- A test that no member passes.
all_fail : {A : Type 0} (p : A → Bool) (xs : List A) → any p xs ≡ false → All (λ x. p x ≡ false) xs
all_fail p [] h = tt
all_fail p (x ∷ xs) h = (or_false_left (p x) (any p xs) h, all_fail p xs (or_false_right (p x) (any p xs) h))

presents : (t : Table) → Sound t → (ns : List ℕ) → All (λ n. leb t.count n ≡ false) ns → All (Present t) ns
presents t s [] i = tt
presents t s (n ∷ ns) i = (record { sound = s; here = leb-false t.count n i.0 }, presents t s ns i.1)

pub asked_passed : (t : Table) (ns : List ℕ) → asks t ns [] (tt {0}) ≡ accepted (tt {0}) → Sound t × All (Present t) ns
asked_passed t ns h =
    let parts = ladder_parts (sound t) (present t ns) (tt {0}) (tt {0}) (tt {0}) h in
    let s = accepted_sound t parts.0 in
    let two = ladder_clear (any (λ n. leb t.count n) ns) 2 0 [] (tt {0}) (tt {0}) parts.1 in
    (s, presents t s ns (all_fail (λ n. leb t.count n) ns two.0))

nameds : (t : Table) → Sound t → (ns : List ℕ) → All (λ n. leb t.count n ≡ false) ns → All (λ n. ltb 524288 (bits (ty_at t.columns n)) ≡ false) ns
    → All (λ n. ltb 2097152 (size (ty_at t.columns n)) ≡ false) ns → All (Named t) ns
nameds t s [] i w z = tt
nameds t s (n ∷ ns) i w z = (
  record {
    sound = s;
    here = leb-false t.count n i.0;
    narrow = ltb-false 524288 (bits (ty_at t.columns n)) w.0;
    few = ltb-false 2097152 (size (ty_at t.columns n)) z.0;
  },
  nameds t s ns i.1 w.1 z.1,
)

pub named_passed : (t : Table) (ns : List ℕ) → ladder (named t ns) (tt {0}) ≡ accepted (tt {0}) → Sound t × All (Named t) ns
named_passed t ns h =
    let parts = ladder_parts (sound t) (present t ns ++ small t ns) (tt {0}) (tt {0}) (tt {0}) h in
    let s = accepted_sound t parts.0 in
    let two = ladder_clear (any (λ n. leb t.count n) ns) 2 0 (small t ns) (tt {0}) (tt {0}) parts.1 in
    let three =
    ladder_clear (any (λ n. ltb 524288 (bits (ty_at t.columns n))) ns) 3 0
    (rung (any (λ n. ltb 2097152 (size (ty_at t.columns n))) ns) 4 0 ∷ []) (tt {0}) (tt {0}) two.1 in
    let four = ladder_clear (any (λ n. ltb 2097152 (size (ty_at t.columns n))) ns) 4 0 [] (tt {0}) (tt {0}) three.1 in (
      s,
      nameds t s ns (all_fail (λ n. leb t.count n) ns two.0)
          (all_fail (λ n. ltb 524288 (bits (ty_at t.columns n))) ns three.0)
          (all_fail (λ n. ltb 2097152 (size (ty_at t.columns n))) ns four.0),
    )

-- The records, and the other nodes that are named with them.
held_and : (t : Table) (rs : List Record) (ns : List ℕ) → All (Named t) (map (λ r. r.node) rs ++ ns)
    → All (λ r. ltb (8 * length r.bytes) (r.offset + bits (type_of t r)) ≡ false) rs → All (Held t) rs × All (Named t) ns
held_and t [] ns a i = (tt, a)
held_and t (r ∷ rs) ns a i =
    let rest = held_and t rs ns a.1 i.1 in
    ((record { named = a.0; ends = ltb-false (8 * length r.bytes) (r.offset + bits (type_of t r)) i.0 }, rest.0), rest.1)

pub handed_passed : (t : Table) (rs : List Record) (ns : List ℕ) → ladder (handed t rs ns) (tt {0}) ≡ accepted (tt {0})
    → All (Held t) rs × All (Named t) ns
handed_passed t rs ns h =
    let parts = ladder_parts (named t (map (λ r. r.node) rs ++ ns)) (within t rs) (tt {0}) (tt {0}) (tt {0}) h in
    let five =
    ladder_clear (any (λ r. ltb (8 * length r.bytes) (r.offset + bits (type_of t r))) rs) 5 0 [] (tt {0}) (tt {0}) parts.1 in
    held_and t rs ns (named_passed t (map (λ r. r.node) rs ++ ns) parts.0).1
    (all_fail (λ r. ltb (8 * length r.bytes) (r.offset + bits (type_of t r))) rs five.0)

pub stream_passed : (t : Table) (s : Stream) (n : ℕ) → ladder (read_rungs t s n) (tt {0}) ≡ accepted (tt {0}) → Streamed t s n
stream_passed t s n h =
    let parts = ladder_parts (named t (n ∷ [])) (stream_fits s) (tt {0}) (tt {0}) (tt {0}) h in
    let a = ltb (8 * length s.bytes) s.until in
    let b = ltb s.until s.position in
    let five = ladder_clear (a || b) 5 0 [] (tt {0}) (tt {0}) parts.1 in
    record {
      named = (named_passed t (n ∷ []) parts.0).1.0;
      ends = ltb-false (8 * length s.bytes) s.until (or_false_left a b five.0);
      begins = ltb-false s.until s.position (or_false_right a b five.0);
    }
