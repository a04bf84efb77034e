-- `shapes::is_word` meets its contract. Assumes nothing.
use Prim.Native.Nat.{ℕ, ◌+◌, ◌-◌}
use mathlib.Core.Path.{◌≡◌, sym, ap, ◌∙◌}
use native.Mathlib.Omega.{arith}
use Rattle.meaning.specs.Tables.{ty_at}
use Rattle.meaning.specs.Words.{is_word, two}
use Rattle.meaning.proofs.Trees.{tree_class}
use Rattle.meaning.proofs.Types.{same_comm}
use Rattle.checked.proofs.Nodes.{same_class}
use Rattle.shapes.proofs.Shapes.{kept_kind, other_kind, read_no_word, read_square, read_uneven}
use Rattle.shapes.proofs.is_word.Goals as goal

pub returns-then-ne : goal.returns-then-ne
returns-then-ne c =
    sym
    (c.loop.invariant.1
    ∙ read_no_word c.args.table.now c.node-square.ensures (c.args.n - c.loop.counter) (omega arith) (other_kind _ c.if-ne.ensures))

pub returns-then-left-right : goal.returns-then-left-right
returns-then-left-right c =
    let r = c.node-square in
    sym
    (c.loop.invariant.1
    ∙ read_uneven c.args.table.now r.ensures (c.args.n - c.loop.counter) (omega arith) (kept_kind _ c.if-ne.ensures)
    (λ e.
    c.if-left-right.true
    (c.node-left.ensures.class_is
    ∙ tree_class c.args.table.now.columns r.result.left r.result.right e
    ∙ sym c.node-right.ensures.class_is)))

pub loop-preserved : goal.loop-preserved
loop-preserved c =
    let t = c.args.table.now in
    let r = c.node-square in
    let less : c.args.n - c.loop.counter - 1 ≡ c.args.n - (c.loop.counter + 1) = omega arith in (
      r.ensures.left_in,
      c.loop.invariant.1
          ∙ read_square t r.ensures (c.args.n - c.loop.counter) (omega arith) (kept_kind _ c.if-ne.ensures)
          (same_class t _ _ _ _ c.node-left.ensures c.node-right.ensures c.if-left-right.false)
          ∙ ap (λ (m : ℕ). is_word m (ty_at t.columns r.result.left)) less,
    )

pub returns : goal.returns
unfolding is_word
returns c =
    let t = c.args.table.now in
    let end : c.args.n - c.loop.counter ≡ 0 = omega arith in
    c.is_two.ensures
    ∙ same_comm (ty_at t.columns c.loop.at) two
    ∙ ap (λ (m : ℕ). is_word m (ty_at t.columns c.loop.at)) (sym end)
    ∙ sym c.loop.invariant.1
