-- `shapes::is_buffer` meets its contract. Assumes nothing.
use Prim.Native.Nat.{ℕ, ◌+◌, ◌-◌}
use mathlib.Core.Path.{◌≡◌, sym, ap, ◌∙◌}
use native.Mathlib.Omega.{arith}
use Rattle.meaning.specs.Types.{same}
use Rattle.meaning.specs.Tables.{ty_at}
use Rattle.meaning.specs.Words.{buffer}
use Rattle.meaning.proofs.Tests.{and_no_left}
use Rattle.shapes.proofs.Shapes.{kept_kind, other_kind, passed, read_buffer, read_no_buffer}
use Rattle.shapes.proofs.is_buffer.Goals as goal

pub returns-then-ne : goal.returns-then-ne
returns-then-ne c =
    let l = c.loop-passed in
    sym
    (l.invariant.1
    ∙ read_no_buffer c.args.table.now c.node-pair.ensures (c.args.n - l.passed) (omega arith) (other_kind _ c.if-ne.ensures))

pub returns-then-not-is_segment : goal.returns-then-not-is_segment
returns-then-not-is_segment c =
    let l = c.loop-passed in
    sym
    (l.invariant.1
    ∙ read_buffer c.args.table.now c.node-pair.ensures (c.args.n - l.passed) (omega arith) (kept_kind _ c.if-ne.ensures)
    ∙ and_no_left _ _ (sym c.is_segment.ensures ∙ c.if-not-is_segment.true))

pub loop-passed-preserved : goal.loop-passed-preserved
loop-passed-preserved c =
    let t = c.args.table.now in
    let l = c.loop-passed in
    let r = c.node-pair in
    let less : c.args.n - l.passed - 1 ≡ c.args.n - (l.passed + 1) = omega arith in (
      r.ensures.right_in,
      l.invariant.1
          ∙ read_buffer t r.ensures (c.args.n - l.passed) (omega arith) (kept_kind _ c.if-ne.ensures)
          ∙ passed (sym c.is_segment.ensures ∙ c.if-not-is_segment.false)
          ∙ ap (λ (m : ℕ). same (ty_at t.columns r.result.right) (buffer m)) less,
    )

pub returns : goal.returns
unfolding buffer
returns c =
    let t = c.args.table.now in
    let l = c.loop-passed in
    let end : c.args.n - l.passed ≡ 0 = omega arith in
    c.is_segment-2.ensures ∙ ap (λ (m : ℕ). same (ty_at t.columns l.at) (buffer m)) (sym end) ∙ sym l.invariant.1
