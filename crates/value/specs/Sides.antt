-- `left` and `right` said once, over the tag: the rungs, the answer and the output.
--
--   side_rungs side_call side_out
use Rattle.std.specs.Prelude.{ℕ, Bool, List, [], ◌∷◌, ◌++◌}
use Rattle.meaning.specs.Tables.{Table}
use Rattle.meaning.specs.Ladder.{Answer, Rung, Record, shaped, makes, made}
use Rattle.meaning.specs.RecordCalls.{handed}
use Rattle.value_fitting.specs.Fits.{wrap_fits}
use Rattle.value_making.specs.Wraps.{wrap_bits}

abbrev pub side_rungs : Bool → Table → Record → ℕ → List Rung
side_rungs g t p result = handed t (p ∷ []) (result ∷ []) ++ shaped (wrap_fits g t p.node result)

abbrev pub side_call : Bool → Table → Record → ℕ → List ℕ → Answer ℕ
side_call g t p result out = makes (side_rungs g t p result) (wrap_bits g t p result) out

abbrev pub side_out : Bool → Table → Record → ℕ → List ℕ → List ℕ
side_out g t p result out = made (side_rungs g t p result) (wrap_bits g t p result) out
