-- `value::constructors::unit` meets its contract: rungs 1 to 5 by `checked_rungs`, 7 by the kind; there is nothing to write. Assumes nothing.
use mathlib.Core.Path.{sym, ap}
use mathlib.Core.List.{[], ◌∷◌}
use denote.Enum.Bare.{differs_true, differs_false}
use Rattle.meaning.specs.Types.{is_unit}
use Rattle.meaning.specs.Tables.{Table}
use Rattle.meaning.specs.Ladder.{type_at, shaped}
use Rattle.meaning.specs.RecordCalls.{handed}
use Rattle.tables.specs.declared.Kind.{Kind}
use Rattle.tables.specs.contracts.Kind.{the_type}
use Rattle.checked.proofs.Handed.{checked_held}
use Rattle.checked.proofs.Nodes.{no_unit, unit_tree}
use Rattle.value.proofs.Answered.{refused_made, then_made, not_unit, unit_made}
use Rattle.value.proofs.constructors.unit.Goals as goal

pub returns-in_err-checked : goal.returns-in_err-checked
returns-in_err-checked c =
    let t = c.args.table.now in
    let both = refused_made (handed t [] (c.args.res ∷ [])) (shaped (is_unit (type_at t c.args.res))) [] c.args.out.now c.from_residual.result _
    c.from_residual.ensures.1
    c.in_err-checked.ensures.answer in
    record { result_value = both.0; out_after = both.1 }

pub node-requires : goal.node-requires
node-requires c =
    (checked_held c.args.table.now _ c.in_ok-checked.ensures.same [] (c.args.res ∷ []) c.in_ok-checked.ensures.answer).1.0.here

pub returns-then-ne : goal.returns-then-ne
returns-then-ne c =
    let t = c.args.table.now in
    let other = differs_true the_type c.node.result.kind Kind.Unit (sym c.if-ne.ensures) in
    let own = not_unit c.in_ok-checked.checked c.args.res c.args.out.now (no_unit c.in_ok-checked.checked c.args.res c.node.result c.node.ensures other) in
    let both = then_made t _ c.in_ok-checked.ensures.same (handed t [] (c.args.res ∷ [])) c.in_ok-checked.ensures.answer
    (λ (x : Table). shaped (is_unit (type_at x c.args.res)))
    (λ (x : Table). [])
    c.args.out.now
    _
    _
    own.0
    own.1 in
    record { result_value = both.0; out_after = both.1 }

pub returns : goal.returns
returns c =
    let t = c.args.table.now in
    let same = differs_false the_type tt c.node.result.kind Kind.Unit (sym c.if-ne.ensures) in
    let own = unit_made c.in_ok-checked.checked c.args.res c.args.out.now (ap is_unit (unit_tree c.in_ok-checked.checked c.args.res c.node.result c.node.ensures same)) in
    let both = then_made t _ c.in_ok-checked.ensures.same (handed t [] (c.args.res ∷ [])) c.in_ok-checked.ensures.answer
    (λ (x : Table). shaped (is_unit (type_at x c.args.res)))
    (λ (x : Table). [])
    c.args.out.now
    _
    _
    own.0
    own.1 in
    record { result_value = both.0; out_after = both.1 }
