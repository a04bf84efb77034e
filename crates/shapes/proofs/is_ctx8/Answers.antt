-- `shapes::is_ctx8` meets its contract: a product of the buffer and a product of the two words. Assumes nothing.
use mathlib.Core.Path.{◌≡◌, sym, ◌∙◌}
use mathlib.Core.Bool.{◌&&◌}
use Rattle.meaning.proofs.Tests.{and_no_left, and_no_right}
use Rattle.meaning.specs.Tables.{ty_at}
use Rattle.meaning.specs.Words.{is_word}
use Rattle.shapes.proofs.Shapes.{kept_kind, other_kind, passed, passed_last, read_state, read_no_state, read_no_rest}
use Rattle.shapes.proofs.is_ctx8.Goals as goal
use Rattle.shapes.proofs.is_ctx8.Goals.{then-is_word, else-is_word}

pub returns-then-ne : goal.returns-then-ne
returns-then-ne c =
    sym (read_no_state c.args.table.now c.node-state.ensures (other_kind _ c.if-ne.ensures))

pub returns-then-ne-2 : goal.returns-then-ne-2
returns-then-ne-2 c =
    sym
    (read_no_rest c.args.table.now c.node-state.ensures c.node-rest.ensures (kept_kind _ c.if-ne.ensures) (other_kind _ c.if-ne-2.ensures))

pub returns-then-is_word-2 : goal.returns-then-is_word-2
returns-then-is_word-2 c =
    let t = c.args.table.now in
    let words : c.if-is_word.value ≡ (is_word 6 (ty_at t.columns c.node-rest.result.left) && is_word 8 (ty_at t.columns c.node-rest.result.right)) =
    elim c.if-is_word.branch [
      | then-is_word w ↦ w.value-is ∙ w.is_word-then-is_word.ensures ∙ sym (passed (sym w.if-is_word.ensures))
      | else-is_word w ↦ w.value-is ∙ w.if-is_word.false ∙ sym (and_no_left _ _ (sym w.if-is_word.ensures))
    ]
    in
    c.is_buffer.ensures
    ∙ sym
    (read_state t c.node-state.ensures c.node-rest.ensures (kept_kind _ c.if-ne.ensures) (kept_kind _ c.if-ne-2.ensures)
    ∙ passed_last _ (sym words ∙ c.if-is_word-2.true))

pub returns-else-is_word-2 : goal.returns-else-is_word-2
returns-else-is_word-2 c =
    let t = c.args.table.now in
    let words : c.if-is_word.value ≡ (is_word 6 (ty_at t.columns c.node-rest.result.left) && is_word 8 (ty_at t.columns c.node-rest.result.right)) =
    elim c.if-is_word.branch [
      | then-is_word w ↦ w.value-is ∙ w.is_word-then-is_word.ensures ∙ sym (passed (sym w.if-is_word.ensures))
      | else-is_word w ↦ w.value-is ∙ w.if-is_word.false ∙ sym (and_no_left _ _ (sym w.if-is_word.ensures))
    ]
    in
    c.if-is_word-2.false
    ∙ sym
    (read_state t c.node-state.ensures c.node-rest.ensures (kept_kind _ c.if-ne.ensures) (kept_kind _ c.if-ne-2.ensures)
    ∙ and_no_right _ _ (sym words ∙ c.if-is_word-2.false))
