-- `checked_rungs::stream` meets its contract: the node first, then the stream's length and the position. Assumes nothing.
use native.Mathlib.Nat.{add-zero}
use Prim.Native.Nat.{ℕ, ◌+◌, ◌*◌}
use mathlib.Core.Path.{◌≡◌, sym, ◌∙◌, ap}
use lib.Dec.{ltb}
use lib.ListN.{length}
use borrow.Author.Tests.{lt-ltb, le-ltb}
use Rattle.meaning.specs.Ladder.{stream_of}
use Rattle.meaning.proofs.Tests.{or_inl, or_inr, or_none}
use Rattle.answers.proofs.Exits.{handed_on}
use Rattle.checked_rungs.proofs.Asked.{stream_stop, stream_past, stream_pass}
use Rattle.checked_rungs.proofs.stream.Goals as goal

pub returns-in_err-checked-clause-answer : goal.returns-in_err-checked-clause-answer
returns-in_err-checked-clause-answer c =
    let a = c.args in
    handed_on (λ x. tt {0}) _ _ c.from_residual.ensures.1 _
    (stream_stop a.table.now (stream_of a.bytes.now a.until a.position) a.node _ _ c.in_err-checked.ensures.answer)

pub returns-then-past-clause-answer : goal.returns-then-past-clause-answer
returns-then-past-clause-answer c =
    let a = c.args in
    let long = ltb (8 * length a.bytes.now) a.until in
    stream_past a.table.now (stream_of a.bytes.now a.until a.position) a.node (sym c.in_ok-checked.ensures.answer)
    (or_inl long (ltb a.until a.position)
    (sym (ap (ltb (8 * length a.bytes.now)) (add-zero a.until)) ∙ sym c.past.ensures ∙ c.if-past.true))

pub returns-then-until-position-clause-answer : goal.returns-then-until-position-clause-answer
returns-then-until-position-clause-answer c =
    let a = c.args in
    let long = ltb (8 * length a.bytes.now) a.until in
    stream_past a.table.now (stream_of a.bytes.now a.until a.position) a.node (sym c.in_ok-checked.ensures.answer)
    (or_inr long (ltb a.until a.position) (lt-ltb a.until a.position c.if-until-position.true))

pub returns-clause-answer : goal.returns-clause-answer
returns-clause-answer c =
    let a = c.args in
    let long = ltb (8 * length a.bytes.now) a.until in
    stream_pass a.table.now (stream_of a.bytes.now a.until a.position) a.node (sym c.in_ok-checked.ensures.answer)
    (or_none long (ltb a.until a.position)
    (sym (ap (ltb (8 * length a.bytes.now)) (add-zero a.until)) ∙ sym c.past.ensures ∙ c.if-past.false)
    (le-ltb a.until a.position c.if-until-position.false))
