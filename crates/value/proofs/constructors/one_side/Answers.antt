-- `value::constructors::one_side` meets its contract: rungs 1 to 5 by `checked_rungs`, the others by the inner function. Assumes nothing.
use mathlib.Core.List.{[], ◌∷◌}
use Rattle.meaning.specs.Tables.{Table}
use Rattle.meaning.specs.Ladder.{record_of, shaped}
use Rattle.meaning.specs.RecordCalls.{handed}
use Rattle.checked.proofs.Handed.{checked_held}
use Rattle.value_fitting.specs.Fits.{wrap_fits}
use Rattle.value_making.specs.Wraps.{wrap_bits}
use Rattle.value.proofs.Answered.{refused_made, then_made}
use Rattle.value.proofs.constructors.one_side.Goals as goal

pub returns-in_err-checked : goal.returns-in_err-checked
returns-in_err-checked c =
    let a = c.args in
    let t = a.table.now in
    let p = record_of a.bytes.now a.offset a.node in
    let both = refused_made (handed t (p ∷ []) (a.res ∷ [])) (shaped (wrap_fits a.right t a.node a.res)) (wrap_bits a.right t p a.res) a.out.now
    c.from_residual.result
    _
    c.from_residual.ensures.1
    c.in_err-checked.ensures.answer in
    record { result_value = both.0; out_after = both.1 }

pub wrap-requires : goal.wrap-requires
wrap-requires c =
    let p = record_of c.args.bytes.now c.args.offset c.args.node in
    let held = checked_held c.args.table.now _ c.in_ok-checked.ensures.same (p ∷ []) (c.args.res ∷ []) c.in_ok-checked.ensures.answer in
    record { held = held.0.0; named = held.1.0 }

pub returns : goal.returns
returns c =
    let a = c.args in
    let t = a.table.now in
    let p = record_of a.bytes.now a.offset a.node in
    let both = then_made t _ c.in_ok-checked.ensures.same (handed t (p ∷ []) (a.res ∷ [])) c.in_ok-checked.ensures.answer
    (λ (x : Table). shaped (wrap_fits a.right x a.node a.res))
    (λ (x : Table). wrap_bits a.right x p a.res)
    a.out.now
    _
    _
    c.wrap.ensures.result_value
    c.wrap.ensures.out_after in
    record { result_value = both.0; out_after = both.1 }
