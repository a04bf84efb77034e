-- `words::buffers::ctx8` meets its contract: the first rungs, and what they let pass. Assumes nothing.
use mathlib.Core.Path.{sym}
use mathlib.Core.List.{[], ◌∷◌, ◌++◌}
use lib.Dec.{leb}
use Rattle.answers.proofs.Exits.{handed_on}
use Rattle.meaning.specs.Types.{same}
use Rattle.meaning.specs.Words.{ctx8, ctx8_bits}
use Rattle.meaning.specs.Ladder.{named, type_at, ranged, shaped}
use Rattle.checked.proofs.Handed.{checked_named}
use Rattle.checked.proofs.Made.{first_stopped}
use Rattle.words_states.specs.State.{state_of}
use Rattle.words.proofs.buffers.ctx8.Goals as goal

pub returns-in_err-checked : goal.returns-in_err-checked
returns-in_err-checked c =
    let a = c.args in
    let t = a.table.now in
    let both =
    first_stopped (named t (a.res ∷ [])) (ranged (leb a.state.used 63) ++ shaped (same (type_at t a.res) ctx8)) (ctx8_bits (state_of a.state)) a.out.now
    _ _ (sym c.in_err-checked.ensures.answer) in
    record { result_value = handed_on (λ n. n) _ _ c.from_residual.ensures.1 _ both.0; out_after = both.1 }

pub make_state-requires : goal.make_state-requires
make_state-requires c =
    (checked_named c.args.table.now _ c.in_ok-checked.ensures.same (c.args.res ∷ []) c.in_ok-checked.ensures.answer).0
