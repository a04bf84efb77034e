-- Pruners that are not the cut, each by a record that it cuts otherwise: document 01, "What the statements have to settle".
--
--   Pruner IsCut                    a pruner, and one that is the cut on every record
--   excluded                        one that once answers other bits is not the cut
--   to_unit to_unit_excluded        one that returns unit's bits for every target
--   unchanged unchanged_excluded    one that returns its input for every target
--   top_only top_only_excluded      one that works at the top sum and only copies below
--   clearing clearing_excluded      one that clears padding when the target equals the type
-- That no call by such a pruner is `prune` stands in CutCallExcluded.
-- Assumes nothing.
use mathlib.Core.Path.{◌≡◌, refl, ap, sym, ◌∙◌}
use mathlib.Core.Bool.{Bool, true, false, cond, false≢true}
use mathlib.Core.List.{List, [], ◌∷◌}
use mathlib.Core.Option.{Option, some, map}
use lib.ListN.{length}
use Rattle.meaning.specs.Types.{Ty, unit, sum, prod, same, bits}
use Rattle.meaning.specs.Records.{plain, same_bits}
use Rattle.meaning.specs.Words.{two}
use Rattle.meaning.specs.Cuts.{cut_to_sum, cut}
use Rattle.meaning.proofs.Records.{bits_same}

-- A pruner answers for a target, a type and a record.
abbrev pub Pruner : Type 0
Pruner = Ty → Ty → List Bool → Option (List Bool)

-- It is the cut, on every record of every type to every target.
abbrev pub IsCut : Pruner → Type 0
IsCut p = (a t : Ty) (v : List Bool) → length v ≡ bits t → p a t v ≡ cut a t v

other_bits : (x y : List Bool) → same_bits x y ≡ false → ◌≡◌ {A = Option (List Bool)} (some x) (some y) → ⊥
other_bits x y d e = let q : x ≡ y = cc in false≢true (sym d ∙ ap (λ l. same_bits l y) q ∙ bits_same y)

-- Target a, type t, record v; x is its answer and y the cut's.
pub excluded : (p : Pruner) (a t : Ty) (v x y : List Bool) → length v ≡ bits t → p a t v ≡ some x → cut a t v ≡ some y →
    same_bits x y ≡ false → ¬ IsCut p
excluded p a t v x y w e f d h = other_bits x y d (sym e ∙ h a t v w ∙ f)

-- Unit's bits for every target.
abbrev pub to_unit : Pruner
to_unit a t v = some []

-- The bit 1, a record of unit + unit, cut to its own type.
pub to_unit_excluded : ¬ IsCut to_unit
unfolding cut same bits same_bits
to_unit_excluded = excluded to_unit two two (true ∷ []) [] (true ∷ []) refl refl refl refl

-- The input for every target.
abbrev pub unchanged : Pruner
unchanged a t v = some v

-- The left 1 of two + unit becomes a left of unit + two: as wide, and its bit is gone.
pub unchanged_excluded : ¬ IsCut unchanged
unfolding cut same bits same_bits
unchanged_excluded =
    excluded unchanged (sum unit two) (sum two unit) (false ∷ true ∷ []) (false ∷ true ∷ []) (false ∷ false ∷ []) refl refl refl refl

-- Every rule of the cut but one: under a top sum the payload is copied.
abbrev pub top_only : Pruner
top_only unit t v = cut unit t v
top_only (sum a b) t v = cond (same (sum a b) t) (some v) (cut_to_sum a b (λ c p. some p) (λ d p. some p) t v)
top_only (prod a b) t v = cut (prod a b) t v

-- The same change one level down, under a left that stays.
pub top_only_excluded : ¬ IsCut top_only
unfolding cut same bits same_bits
top_only_excluded =
    excluded top_only (sum (sum unit two) unit) (sum (sum two unit) unit) (false ∷ false ∷ true ∷ []) (false ∷ false ∷ true ∷ [])
    (false ∷ false ∷ false ∷ [])
    refl
    refl
    refl
    refl

-- The cut, and then zero padding.
abbrev pub clearing : Pruner
clearing a t v = map (plain a) (cut a t v)

-- The left unit of unit + two with the padding 1, cut to its own type.
pub clearing_excluded : ¬ IsCut clearing
unfolding cut same bits plain same_bits
clearing_excluded =
    excluded clearing (sum unit two) (sum unit two) (false ∷ true ∷ []) (false ∷ false ∷ []) (false ∷ true ∷ []) refl refl refl refl
