-- `types::is_unit` meets its contract: a unit is a node of its kind. Assumes nothing.
use mathlib.Core.Path.{ap, sym, ◌∙◌}
use mathlib.Core.List.{[]}
use Rattle.meaning.specs.Types.{is_unit}
use Rattle.meaning.specs.Ladder.{accepted, type_at}
use Rattle.tables.specs.declared.Kind.{Kind}
use Rattle.answers.proofs.Exits.{handed_on}
use Rattle.checked.proofs.Told.{told_stop}
use Rattle.types_reading.proofs.Read.{kinds_alike}
use Rattle.types.proofs.Types.{unit_told}
use Rattle.types.proofs.is_unit.Goals as goal

pub returns-in_err-facts : goal.returns-in_err-facts
returns-in_err-facts c =
    let a = c.args in
    handed_on (λ b. b) _ _ c.from_residual.ensures.1 _
    (told_stop a.table.now a.node [] (is_unit (type_at a.table.now a.node)) _ _ c.in_err-facts.ensures)

pub returns : goal.returns
returns c =
    ap accepted (c.eq.ensures ∙ sym (kinds_alike c.in_ok-facts.facts.kind Kind.Unit)) ∙ unit_told c.args.table.now c.args.node c.in_ok-facts.ensures
