-- `value::constructors::product` meets its contract: rungs 1 to 5 by `checked_rungs`, the others by the inner function. Assumes nothing.
use mathlib.Core.List.{[], ◌∷◌}
use Rattle.meaning.specs.Tables.{Table}
use Rattle.meaning.specs.Ladder.{record_of, shaped}
use Rattle.meaning.specs.RecordCalls.{handed, product_bits}
use Rattle.checked.proofs.Handed.{checked_held}
use Rattle.value_fitting.specs.Fits.{join_fits}
use Rattle.value.proofs.Answered.{refused_made, then_made}
use Rattle.value.proofs.constructors.product.Goals as goal

pub returns-in_err-checked : goal.returns-in_err-checked
returns-in_err-checked c =
    let a = c.args in
    let t = a.table.now in
    let p = record_of a.a_bytes.now a.a_offset a.a_node in
    let q = record_of a.b_bytes.now a.b_offset a.b_node in
    let both = refused_made (handed t (p ∷ q ∷ []) (a.res ∷ [])) (shaped (join_fits t a.a_node a.b_node a.res)) (product_bits t p q) a.out.now
    c.from_residual.result
    _
    c.from_residual.ensures.1
    c.in_err-checked.ensures.answer in
    record { result_value = both.0; out_after = both.1 }

pub join-requires : goal.join-requires
join-requires c =
    let p = record_of c.args.a_bytes.now c.args.a_offset c.args.a_node in
    let q = record_of c.args.b_bytes.now c.args.b_offset c.args.b_node in
    let held = checked_held c.args.table.now _ c.in_ok-checked.ensures.same (p ∷ q ∷ []) (c.args.res ∷ []) c.in_ok-checked.ensures.answer in
    record { held = held.0.0; held_2 = held.0.1.0; named = held.1.0 }

pub returns : goal.returns
returns c =
    let a = c.args in
    let t = a.table.now in
    let p = record_of a.a_bytes.now a.a_offset a.a_node in
    let q = record_of a.b_bytes.now a.b_offset a.b_node in
    let both = then_made t _ c.in_ok-checked.ensures.same (handed t (p ∷ q ∷ []) (a.res ∷ [])) c.in_ok-checked.ensures.answer
    (λ (x : Table). shaped (join_fits x a.a_node a.b_node a.res))
    (λ (x : Table). product_bits x p q)
    a.out.now
    _
    _
    c.join.ensures.result_value
    c.join.ensures.out_after in
    record { result_value = both.0; out_after = both.1 }
