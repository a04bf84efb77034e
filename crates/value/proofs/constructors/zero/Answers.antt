-- `value::constructors::zero` meets its contract: rungs 1 to 5 by `checked_rungs`, 9 by the inner function. Assumes nothing.
use mathlib.Core.List.{[], ◌∷◌}
use Rattle.meaning.specs.Tables.{Table}
use Rattle.meaning.specs.RecordCalls.{handed, zero_bits}
use Rattle.checked.proofs.Handed.{checked_held}
use Rattle.value.proofs.Answered.{refused_made, then_made}
use Rattle.value.proofs.constructors.zero.Goals as goal

pub returns-in_err-checked : goal.returns-in_err-checked
returns-in_err-checked c =
    let t = c.args.table.now in
    let both = refused_made (handed t [] (c.args.res ∷ [])) [] (zero_bits t c.args.res) c.args.out.now c.from_residual.result _ c.from_residual.ensures.1
    c.in_err-checked.ensures.answer in
    record { result_value = both.0; out_after = both.1 }

pub blank-requires : goal.blank-requires
blank-requires c =
    (checked_held c.args.table.now _ c.in_ok-checked.ensures.same [] (c.args.res ∷ []) c.in_ok-checked.ensures.answer).1.0

pub returns : goal.returns
returns c =
    let t = c.args.table.now in
    let both = then_made t _ c.in_ok-checked.ensures.same (handed t [] (c.args.res ∷ [])) c.in_ok-checked.ensures.answer (λ (x : Table). [])
    (λ (x : Table). zero_bits x c.args.res)
    c.args.out.now
    _
    _
    c.blank.ensures.result_value
    c.blank.ensures.out_after in
    record { result_value = both.0; out_after = both.1 }
