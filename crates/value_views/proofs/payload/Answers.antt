-- `value_views::payload` meets its contract: the place, the kind and the tag are tested one after the other, and the payload lies at the
-- end. Assumes nothing.
use mathlib.Core.Path.{sym, ap, ◌∙◌}
use native.Mathlib.Omega.{arith}
use denote.Enum.Bare.{differs_true, differs_false}
use Rattle.meaning.specs.Ladder.{record_of}
use Rattle.tables.specs.declared.Kind.{Kind}
use Rattle.tables.specs.contracts.Kind.{the_type}
use Rattle.answers.specs.Verdicts.{refusal_of, spot}
use Rattle.answers.proofs.Exits.{handed_on}
use Rattle.nodes.specs.declared.Side.{Side}
use Rattle.value_views.proofs.Viewed.{payload_far, read_far, payload_no_sum, tag_inside, payload_other, payload_within, payload_read}
use Rattle.value_views.proofs.payload.Goals as goal

pub returns-in_err-end : goal.returns-in_err-end
returns-in_err-end c =
    let a = c.args in
    let r = record_of a.bytes.now a.offset a.node in
    handed_on spot _ _ c.from_residual.ensures.1 _
    (ap refusal_of c.in_err-end.ensures.0
    ∙ payload_far a.right a.table.now r (read_far a.table.now r c.requires c.node-n.result c.node-n.ensures c.in_err-end.ensures.1))

pub returns-then-ne : goal.returns-then-ne
returns-then-ne c =
    let a = c.args in
    let r = record_of a.bytes.now a.offset a.node in
    payload_no_sum a.table.now r c.requires c.node-n.result c.node-n.ensures c.in_ok-end.end c.in_ok-end.ensures
    (differs_true the_type c.node-n.result.kind Kind.Sum (sym c.if-ne.ensures))
    a.right

pub bit_at-tag-requires : goal.bit_at-tag-requires
bit_at-tag-requires c =
    let a = c.args in
    let r = record_of a.bytes.now a.offset a.node in
    tag_inside a.table.now r c.requires c.node-n.result c.node-n.ensures c.in_ok-end.end c.in_ok-end.ensures
    (differs_false the_type tt c.node-n.result.kind Kind.Sum (sym c.if-ne.ensures))

pub returns-then-tag-right : goal.returns-then-tag-right
returns-then-tag-right c =
    let a = c.args in
    let r = record_of a.bytes.now a.offset a.node in
    payload_other a.table.now r c.requires c.node-n.result c.node-n.ensures c.in_ok-end.end c.in_ok-end.ensures
    (differs_false the_type tt c.node-n.result.kind Kind.Sum (sym c.if-ne.ensures))
    a.right
    c.bit_at-tag.result
    c.bit_at-tag.ensures
    c.if-tag-right.true

pub overflow_sub-result : goal.overflow_sub-result
overflow_sub-result c =
    let a = c.args in
    let r = record_of a.bytes.now a.offset a.node in
    omega (
      arith,
      ap (λ (s : Side). s.width) c.side-side.ensures,
      payload_within a.table.now r c.requires c.node-n.result c.node-n.ensures c.in_ok-end.end c.in_ok-end.ensures
          (differs_false the_type tt c.node-n.result.kind Kind.Sum (sym c.if-ne.ensures))
          a.right,
    )

pub returns : goal.returns
returns c =
    let a = c.args in
    let r = record_of a.bytes.now a.offset a.node in
    payload_read a.table.now r c.requires c.node-n.result c.node-n.ensures c.in_ok-end.end c.in_ok-end.ensures
    (differs_false the_type tt c.node-n.result.kind Kind.Sum (sym c.if-ne.ensures))
    a.right
    c.bit_at-tag.result
    c.bit_at-tag.ensures
    c.if-tag-right.false
    c.side-side.result
    c.side-side.ensures
