-- `value::comparing::equal` meets its contract: rungs 1 to 5 by `checked_rungs`, then the inner function. Assumes nothing.
use mathlib.Core.Path.{ap}
use mathlib.Core.List.{[], ◌∷◌}
use Rattle.meaning.specs.Tables.{Table}
use Rattle.meaning.specs.Ladder.{accepted, ladder, record_of}
use Rattle.meaning.specs.RecordCalls.{handed}
use Rattle.answers.proofs.Exits.{handed_on}
use Rattle.checked.proofs.Handed.{checked_held, refused_first}
use Rattle.value_comparing.specs.Comparing.{alike_at}
use Rattle.value.proofs.Answered.{viewed}
use Rattle.value.proofs.comparing.equal.Goals as goal

pub returns-in_err-checked : goal.returns-in_err-checked
returns-in_err-checked c =
    let t = c.args.table.now in
    let r = record_of c.args.a_bytes.now c.args.a_offset c.args.a_node in
    let s = record_of c.args.b_bytes.now c.args.b_offset c.args.b_node in
    handed_on (λ b. b) _ _ c.from_residual.ensures.1 _
    (refused_first (handed t (r ∷ s ∷ []) []) [] (alike_at t r s) _ _ c.in_err-checked.ensures.answer)

pub alike-requires : goal.alike-requires
alike-requires c =
    let r = record_of c.args.a_bytes.now c.args.a_offset c.args.a_node in
    let s = record_of c.args.b_bytes.now c.args.b_offset c.args.b_node in
    let both = (checked_held c.args.table.now _ c.in_ok-checked.ensures.same (r ∷ s ∷ []) [] c.in_ok-checked.ensures.answer).0 in
    record { held = both.0; held_2 = both.1.0 }

pub returns : goal.returns
unfolding ladder
returns c =
    let t = c.args.table.now in
    let r = record_of c.args.a_bytes.now c.args.a_offset c.args.a_node in
    let s = record_of c.args.b_bytes.now c.args.b_offset c.args.b_node in
    viewed t _ c.in_ok-checked.ensures.same (handed t (r ∷ s ∷ []) []) c.in_ok-checked.ensures.answer (λ (x : Table). [])
    (λ (x : Table). alike_at x r s)
    _
    (ap accepted c.alike.ensures)
