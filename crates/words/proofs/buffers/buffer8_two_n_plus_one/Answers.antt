-- `words::buffers::buffer8_two_n_plus_one` meets its contract: the first rungs, and what they let pass. Assumes nothing.
use Prim.Native.Nat.{◌+◌, ◌^◌}
use mathlib.Core.Path.{sym}
use mathlib.Core.List.{[], ◌∷◌, ◌++◌}
use mathlib.Core.Bool.{◌&&◌}
use lib.Dec.{ltb}
use lib.ListN.{length}
use Rattle.answers.proofs.Exits.{handed_on}
use Rattle.meaning.specs.Types.{same}
use Rattle.meaning.specs.Words.{buffer, buffer_bits}
use Rattle.meaning.specs.Ladder.{named, type_at, ranged, shaped}
use Rattle.checked.proofs.Handed.{checked_named}
use Rattle.checked.proofs.Made.{first_stopped}
use Rattle.words.proofs.buffers.buffer8_two_n_plus_one.Goals as goal

pub returns-in_err-checked : goal.returns-in_err-checked
returns-in_err-checked c =
    let a = c.args in
    let t = a.table.now in
    let both =
    first_stopped (named t (a.res ∷ []))
    (ranged (ltb a.n 13 && ltb (length a.«data».now) (2 ^ (a.n + 1))) ++ shaped (same (type_at t a.res) (buffer a.n)))
    (buffer_bits a.n a.«data».now) a.out.now _ _ (sym c.in_err-checked.ensures.answer) in
    record { result_value = handed_on (λ n. n) _ _ c.from_residual.ensures.1 _ both.0; out_after = both.1 }

pub make_buffer-requires : goal.make_buffer-requires
make_buffer-requires c =
    (checked_named c.args.table.now _ c.in_ok-checked.ensures.same (c.args.res ∷ []) c.in_ok-checked.ensures.answer).0
