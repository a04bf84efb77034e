-- The call `prune`.
--
--   is_cut cut_bits cut_of       whether a record can be cut, the bits of the cut, and both of a record and a target
--   prune_rungs prune_call prune_out  its rungs, its answer and its output
use Rattle.std.specs.Prelude.{ℕ, Bool, true, false, List, [], ◌∷◌}
use Rattle.std.proofs.Math.Option.{Option, none, some}
use Rattle.meaning.specs.Tables.{Table}
use Rattle.meaning.specs.Cuts.{cut}
use Rattle.meaning.specs.Ladder.{Answer, Rung, Record, type_at, type_of, record_bits, makes, made}
use Rattle.meaning.specs.RecordCalls.{results}

-- A cut that has the right shape.
abbrev pub is_cut : Option (List Bool) → Bool
is_cut none = false
is_cut (some v) = true

-- The bits of a cut that has the right shape.
abbrev pub cut_bits : Option (List Bool) → List Bool
cut_bits none = []
cut_bits (some v) = v

-- What cutting a record to a target gives.
abbrev pub cut_of : Table → Record → ℕ → Option (List Bool)
cut_of t r target = cut (type_at t target) (type_of t r) (record_bits t r)

-- `prune`: 1 to 5 of record and target, and 7 for a wrong shape.
abbrev pub prune_rungs : Table → Record → ℕ → List Rung
prune_rungs t r target = results t (r ∷ []) target (is_cut (cut_of t r target))

-- `prune`: the answer.
abbrev pub prune_call : Table → Record → ℕ → List ℕ → Answer ℕ
prune_call t r target out = makes (prune_rungs t r target) (cut_bits (cut_of t r target)) out

-- `prune`: the output.
abbrev pub prune_out : Table → Record → ℕ → List ℕ → List ℕ
prune_out t r target out = made (prune_rungs t r target) (cut_bits (cut_of t r target)) out
