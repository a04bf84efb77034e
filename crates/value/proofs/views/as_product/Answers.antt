-- `value::views::as_product` meets its contract: rungs 1 to 5 by `checked_rungs`, the others by the inner function. Assumes nothing.
use mathlib.Core.List.{[], ◌∷◌}
use Rattle.meaning.specs.Tables.{Table}
use Rattle.meaning.specs.Ladder.{record_of}
use Rattle.meaning.specs.RecordCalls.{handed}
use Rattle.answers.specs.Verdicts.{spots}
use Rattle.answers.proofs.Exits.{handed_on}
use Rattle.checked.proofs.Handed.{checked_held, refused_first}
use Rattle.value_views.specs.Views.{parts_spots, parts_rungs}
use Rattle.value.proofs.Answered.{viewed}
use Rattle.value.proofs.views.as_product.Goals as goal

pub returns-in_err-checked : goal.returns-in_err-checked
returns-in_err-checked c =
    let t = c.args.table.now in
    let r = record_of c.args.bytes.now c.args.offset c.args.node in
    handed_on spots _ _ c.from_residual.ensures.1 _
    (refused_first (handed t (r ∷ []) []) (parts_rungs t r) (parts_spots t r) _ _ c.in_err-checked.ensures.answer)

pub parts-requires : goal.parts-requires
parts-requires c =
    let r = record_of c.args.bytes.now c.args.offset c.args.node in
    (checked_held c.args.table.now _ c.in_ok-checked.ensures.same (r ∷ []) [] c.in_ok-checked.ensures.answer).0.0

pub returns : goal.returns
returns c =
    let t = c.args.table.now in
    let r = record_of c.args.bytes.now c.args.offset c.args.node in
    viewed t _ c.in_ok-checked.ensures.same (handed t (r ∷ []) []) c.in_ok-checked.ensures.answer (λ (x : Table). parts_rungs x r)
    (λ (x : Table). parts_spots x r)
    _
    c.parts.ensures
