-- `value::constructors::some` meets its contract: rungs 1 to 5 by `checked_rungs`, 7 by the shape of an option, the others by the inner function. Assumes nothing.
use mathlib.Core.Bool.{true, ◌&&◌}
use mathlib.Core.List.{[], ◌∷◌}
use Rattle.meaning.specs.Types.{same, right_side}
use Rattle.meaning.specs.Tables.{Table}
use Rattle.meaning.specs.Ladder.{record_of, type_at, shaped}
use Rattle.meaning.specs.RecordCalls.{handed}
use Rattle.checked.proofs.Handed.{checked_held}
use Rattle.value_fitting.specs.Fits.{option_fits}
use Rattle.value_making.specs.Wraps.{wrap_bits}
use Rattle.value.proofs.Answered.{refused_made, then_made, no_payload, payload_made}
use Rattle.value.proofs.constructors.some.Goals as goal

pub returns-in_err-checked : goal.returns-in_err-checked
returns-in_err-checked c =
    let a = c.args in
    let t = a.table.now in
    let p = record_of a.bytes.now a.offset a.node in
    let both = refused_made (handed t (p ∷ []) (a.res ∷ []))
    (shaped (option_fits t a.res && same (right_side (type_at t a.res)) (type_at t a.node)))
    (wrap_bits true t p a.res)
    a.out.now
    c.from_residual.result
    _
    c.from_residual.ensures.1
    c.in_err-checked.ensures.answer in
    record { result_value = both.0; out_after = both.1 }

pub optional-requires : goal.optional-requires
optional-requires c =
    let p = record_of c.args.bytes.now c.args.offset c.args.node in
    (checked_held c.args.table.now _ c.in_ok-checked.ensures.same (p ∷ []) (c.args.res ∷ []) c.in_ok-checked.ensures.answer).1.0

pub returns-then-not-optional : goal.returns-then-not-optional
returns-then-not-optional c =
    let a = c.args in
    let t = a.table.now in
    let p = record_of a.bytes.now a.offset a.node in
    let own = no_payload c.in_ok-checked.checked a.res a.out.now c.optional.result c.optional.ensures p c.if-not-optional.true in
    let both = then_made t _ c.in_ok-checked.ensures.same (handed t (p ∷ []) (a.res ∷ [])) c.in_ok-checked.ensures.answer
    (λ (x : Table). shaped (option_fits x a.res && same (right_side (type_at x a.res)) (type_at x a.node)))
    (λ (x : Table). wrap_bits true x p a.res)
    a.out.now
    _
    _
    own.0
    own.1 in
    record { result_value = both.0; out_after = both.1 }

pub wrap-requires : goal.wrap-requires
wrap-requires c =
    let p = record_of c.args.bytes.now c.args.offset c.args.node in
    let held = checked_held c.args.table.now _ c.in_ok-checked.ensures.same (p ∷ []) (c.args.res ∷ []) c.in_ok-checked.ensures.answer in
    record { held = held.0.0; named = held.1.0 }

pub returns : goal.returns
returns c =
    let a = c.args in
    let t = a.table.now in
    let p = record_of a.bytes.now a.offset a.node in
    let own = payload_made c.in_ok-checked.checked a.res a.out.now c.optional.result c.optional.ensures p c.if-not-optional.false _ _
    c.wrap.ensures.result_value
    c.wrap.ensures.out_after in
    let both = then_made t _ c.in_ok-checked.ensures.same (handed t (p ∷ []) (a.res ∷ [])) c.in_ok-checked.ensures.answer
    (λ (x : Table). shaped (option_fits x a.res && same (right_side (type_at x a.res)) (type_at x a.node)))
    (λ (x : Table). wrap_bits true x p a.res)
    a.out.now
    _
    _
    own.0
    own.1 in
    record { result_value = both.0; out_after = both.1 }
