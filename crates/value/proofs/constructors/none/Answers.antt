-- `value::constructors::none` meets its contract: rungs 1 to 5 by `checked_rungs`, 7 by the shape of an option, 9 by the inner function. Assumes nothing.
use mathlib.Core.List.{[], ◌∷◌}
use Rattle.meaning.specs.Tables.{Table}
use Rattle.meaning.specs.Ladder.{shaped}
use Rattle.meaning.specs.RecordCalls.{handed, none_bits}
use Rattle.checked.proofs.Handed.{checked_held}
use Rattle.value_fitting.specs.Fits.{option_fits}
use Rattle.value.proofs.Answered.{refused_made, then_made, no_option, option_made}
use Rattle.value.proofs.constructors.none.Goals as goal

pub returns-in_err-checked : goal.returns-in_err-checked
returns-in_err-checked c =
    let t = c.args.table.now in
    let both = refused_made (handed t [] (c.args.res ∷ [])) (shaped (option_fits t c.args.res)) (none_bits t c.args.res) c.args.out.now
    c.from_residual.result
    _
    c.from_residual.ensures.1
    c.in_err-checked.ensures.answer in
    record { result_value = both.0; out_after = both.1 }

pub optional-requires : goal.optional-requires
optional-requires c =
    (checked_held c.args.table.now _ c.in_ok-checked.ensures.same [] (c.args.res ∷ []) c.in_ok-checked.ensures.answer).1.0

pub returns-then-not-optional : goal.returns-then-not-optional
returns-then-not-optional c =
    let t = c.args.table.now in
    let own = no_option c.in_ok-checked.checked c.args.res c.args.out.now c.optional.result c.optional.ensures c.if-not-optional.true in
    let both = then_made t _ c.in_ok-checked.ensures.same (handed t [] (c.args.res ∷ [])) c.in_ok-checked.ensures.answer
    (λ (x : Table). shaped (option_fits x c.args.res))
    (λ (x : Table). none_bits x c.args.res)
    c.args.out.now
    _
    _
    own.0
    own.1 in
    record { result_value = both.0; out_after = both.1 }

pub blank-requires : goal.blank-requires
blank-requires c =
    (checked_held c.args.table.now _ c.in_ok-checked.ensures.same [] (c.args.res ∷ []) c.in_ok-checked.ensures.answer).1.0

pub returns : goal.returns
returns c =
    let t = c.args.table.now in
    let own = option_made c.in_ok-checked.checked c.args.res c.args.out.now c.optional.result c.optional.ensures c.if-not-optional.false _ _
    c.blank.ensures.result_value
    c.blank.ensures.out_after in
    let both = then_made t _ c.in_ok-checked.ensures.same (handed t [] (c.args.res ∷ [])) c.in_ok-checked.ensures.answer
    (λ (x : Table). shaped (option_fits x c.args.res))
    (λ (x : Table). none_bits x c.args.res)
    c.args.out.now
    _
    _
    own.0
    own.1 in
    record { result_value = both.0; out_after = both.1 }
