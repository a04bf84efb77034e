-- `shapes::is_segment` meets its contract: a sum of unit and the word. Assumes nothing.
use Prim.Native.Nat.{◌+◌}
use mathlib.Core.Path.{sym, ap₂, ◌∙◌}
use mathlib.Core.Bool.{◌&&◌}
use Rattle.meaning.specs.Types.{unit}
use Rattle.meaning.specs.Tables.{ty_at}
use Rattle.meaning.specs.Words.{word}
use Rattle.meaning.proofs.Tests.{and_no_left}
use Rattle.meaning.proofs.Words.{is_word_same}
use Rattle.shapes.proofs.Shapes.{kept_kind, other_kind, read_unit, read_sum, read_no_sum}
use Rattle.shapes.proofs.is_segment.Goals as goal

pub returns-then-ne : goal.returns-then-ne
returns-then-ne c =
    sym (read_no_sum c.args.table.now c.node-sum.ensures unit (word (3 + c.args.n)) (other_kind _ c.if-ne.ensures))

pub returns-then-eq : goal.returns-then-eq
returns-then-eq c =
    let t = c.args.table.now in
    let n = 3 + c.args.n in
    sym
    (read_sum t c.node-sum.ensures unit (word n) (kept_kind _ c.if-ne.ensures)
    ∙ ap₂ ◌&&◌ (read_unit t c.node-left.ensures ∙ sym c.if-eq.ensures)
    (sym (is_word_same n (ty_at t.columns c.node-sum.result.right)) ∙ sym c.is_word.ensures))

pub returns-else-eq : goal.returns-else-eq
returns-else-eq c =
    let t = c.args.table.now in
    c.if-eq.false
    ∙ sym
    (read_sum t c.node-sum.ensures unit (word (3 + c.args.n)) (kept_kind _ c.if-ne.ensures)
    ∙ and_no_left _ _ (read_unit t c.node-left.ensures ∙ sym c.if-eq.ensures))
