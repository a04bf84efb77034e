-- `types::pad_left` meets its contract: the widths are among the facts. Assumes nothing.
use Prim.Native.Nat.{◌-◌, max}
use mathlib.Core.List.{[], ◌∷◌}
use Rattle.meaning.specs.Types.{width}
use Rattle.meaning.specs.Ladder.{type_at}
use Rattle.answers.proofs.Exits.{handed_on}
use Rattle.checked.proofs.Handed.{checked_present}
use Rattle.checked_present.proofs.Asking.{asks_stop}
use Rattle.types.proofs.Types.{padding_told}
use Rattle.types.proofs.pad_left.Goals as goal

pub returns-in_err-checked : goal.returns-in_err-checked
returns-in_err-checked c =
    let a = c.args in
    let t = a.table.now in
    handed_on (λ n. n) _ _ c.from_residual.ensures.1 _
    (asks_stop t (a.a ∷ a.b ∷ []) [] (max (width (type_at t a.a)) (width (type_at t a.b)) - width (type_at t a.a)) _ _ c.in_err-checked.ensures.answer)

pub width-requires : goal.width-requires
width-requires c =
    let a = c.args in
    (checked_present a.table.now _ c.in_ok-checked.ensures.same (a.a ∷ a.b ∷ []) c.in_ok-checked.ensures.answer).0.here

pub width-requires-2 : goal.width-requires-2
width-requires-2 c =
    let a = c.args in
    (checked_present a.table.now _ c.in_ok-checked.ensures.same (a.a ∷ a.b ∷ []) c.in_ok-checked.ensures.answer).1.0.here

pub returns : goal.returns
returns c =
    padding_told c.args.table.now _ c.in_ok-checked.ensures.same c.args.a c.args.b c.in_ok-checked.ensures.answer c.width.ensures c.width-2.ensures _
    c.padding.ensures
