-- The least compact length is just the least: document 02, K1. No record has fewer compact bits (`compact_fewest` of meaning) and some record has
-- no more. `codec/proofs/LeastLaws` says it of the public calls.
--
--   least_compact               a compact length is never below the least length, whatever stopped
--   least_compact_width         below the end of the numbers it lies between the least length and the width
--   OfCompactLength shortest    a record with so many compact bits; each type has one with the fewest
--   shortest_least              and where the least length did not stop, one with just so many
-- Assumes nothing.
use Prim.Native.Nat.{ℕ, ◌≤◌, ◌<◌}
use mathlib.Core.Path.{◌≡◌, refl, ap, ◌∙◌}
use mathlib.Core.Bool.{Bool}
use mathlib.Core.List.{List, [], ◌++◌}
use mathlib.Core.Logic.{⊎_elim}
use native.Mathlib.Omega.{arith}
use lib.Dec.{leb}
use lib.ListN.{length, length-append}
use borrow.Author.Tests.{leb-true, leb-false}
use Rattle.meaning.specs.Types.{Ty, unit, sum, prod, bits, width, top, fewest, least_length}
use Rattle.meaning.specs.Records.{in_left, in_right, compact}
use Rattle.meaning.proofs.Choices.{either}
use Rattle.meaning.proofs.Types.{width_bits}
use Rattle.meaning.proofs.Leasts.{least_fewest, compact_fewest}
use Rattle.meaning.proofs.Records.{compact_most, length_in_left, length_in_right, length_pair}
use Rattle.laws.proofs.RecordParts.{compact_in_left, compact_in_right, compact_pair}

pub least_compact : (t : Ty) (v : List Bool) → least_length t ≤ length (compact t v)
least_compact t v = omega (arith, least_fewest t, compact_fewest t v)

pub least_compact_width : (t : Ty) (v : List Bool) → width t < top → (least_length t ≤ length (compact t v)) × (length (compact t v) ≤ width t)
least_compact_width t v h = (least_compact t v, omega (arith, width_bits t, compact_most t v))

-- A record of the type with just so many compact bits.
abbrev pub OfCompactLength : Ty → ℕ → Type 0
OfCompactLength t n = (v : List Bool) × (length v ≡ bits t) × (length (compact t v) ≡ n)

pub shortest : (t : Ty) → OfCompactLength t (fewest t)
unfolding fewest compact bits
shortest unit = ([], refl, refl)
shortest (sum a b) =
    let x = shortest a in
    let y = shortest b in
    ⊎_elim
    (λ e.
    let l = leb-true (fewest a) (fewest b) e in
    (in_left a b x.0, length_in_left a b x.0 x.1, ap length (compact_in_left a b x.0) ∙ omega (arith, x.2)))
    (λ e.
    let l = leb-false (fewest a) (fewest b) e in
    (in_right a b y.0, length_in_right a b y.0 y.1, ap length (compact_in_right a b y.0) ∙ omega (arith, y.2)))
    (either (leb (fewest a) (fewest b)))
shortest (prod a b) =
    let x = shortest a in
    let y = shortest b in (
      x.0 ++ y.0,
      length_pair a b x.0 y.0 x.1 y.1,
      ap length (compact_pair a b x.0 y.0 x.1) ∙ simp length-append (omega (arith, x.2, y.2)),
    )

pub shortest_least : (t : Ty) → least_length t < top → OfCompactLength t (least_length t)
shortest_least t h = let s = shortest t in (s.0, s.1, s.2 ∙ omega (arith, least_fewest t))
