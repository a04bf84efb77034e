-- `shapes::is_two` meets its contract: a sum whose sides are both units. Assumes nothing.
use mathlib.Core.Path.{sym, ap₂, ◌∙◌}
use mathlib.Core.Bool.{◌&&◌}
use Rattle.meaning.specs.Types.{unit}
use Rattle.meaning.proofs.Tests.{and_no_left}
use Rattle.shapes.proofs.Shapes.{kept_kind, other_kind, read_unit, read_sum, read_no_sum}
use Rattle.shapes.proofs.is_two.Goals as goal

pub returns-then-ne : goal.returns-then-ne
returns-then-ne c =
    sym (read_no_sum c.args.table.now c.node-sum.ensures unit unit (other_kind _ c.if-ne.ensures))

pub returns-then-eq : goal.returns-then-eq
returns-then-eq c =
    let t = c.args.table.now in
    sym
    (read_sum t c.node-sum.ensures unit unit (kept_kind _ c.if-ne.ensures)
    ∙ ap₂ ◌&&◌ (read_unit t c.node-left.ensures ∙ sym c.if-eq.ensures) (read_unit t c.node-right.ensures ∙ sym c.eq-then-eq.ensures))

pub returns-else-eq : goal.returns-else-eq
returns-else-eq c =
    let t = c.args.table.now in
    c.if-eq.false
    ∙ sym
    (read_sum t c.node-sum.ensures unit unit (kept_kind _ c.if-ne.ensures)
    ∙ and_no_left _ _ (read_unit t c.node-left.ensures ∙ sym c.if-eq.ensures))
