-- `value_views::parts` meets its contract: the place and the kind are tested one after the other. Assumes nothing.
use mathlib.Core.Path.{sym, ap, ◌∙◌}
use native.Mathlib.Omega.{arith}
use denote.Enum.Bare.{differs_true, differs_false}
use Rattle.meaning.specs.Ladder.{record_of}
use Rattle.tables.specs.declared.Kind.{Kind}
use Rattle.tables.specs.contracts.Kind.{the_type}
use Rattle.answers.specs.Verdicts.{refusal_of, spots}
use Rattle.answers.proofs.Exits.{handed_on}
use Rattle.value_views.proofs.Viewed.{parts_far, read_far, parts_no_product, second_addressed, parts_read}
use Rattle.value_views.proofs.parts.Goals as goal

pub returns-in_err-end_of : goal.returns-in_err-end_of
returns-in_err-end_of c =
    let a = c.args in
    let r = record_of a.bytes.now a.offset a.node in
    handed_on spots _ _ c.from_residual.ensures.1 _
    (ap refusal_of c.in_err-end_of.ensures.0
    ∙ parts_far a.table.now r (read_far a.table.now r c.requires c.node-n.result c.node-n.ensures c.in_err-end_of.ensures.1))

pub returns-then-ne : goal.returns-then-ne
returns-then-ne c =
    let a = c.args in
    let r = record_of a.bytes.now a.offset a.node in
    parts_no_product a.table.now r c.requires c.node-n.result c.node-n.ensures c.in_ok-end_of.field-0 c.in_ok-end_of.ensures
    (differs_true the_type c.node-n.result.kind Kind.Product (sym c.if-ne.ensures))

pub overflow_add-second : goal.overflow_add-second
overflow_add-second c =
    let a = c.args in
    let r = record_of a.bytes.now a.offset a.node in
    omega (
      arith,
      second_addressed a.table.now r c.requires c.node-n.result c.node-n.ensures c.in_ok-end_of.field-0 c.in_ok-end_of.ensures
          (differs_false the_type tt c.node-n.result.kind Kind.Product (sym c.if-ne.ensures)),
    )

pub returns : goal.returns
returns c =
    let a = c.args in
    let r = record_of a.bytes.now a.offset a.node in
    parts_read a.table.now r c.requires c.node-n.result c.node-n.ensures c.in_ok-end_of.field-0 c.in_ok-end_of.ensures
    (differs_false the_type tt c.node-n.result.kind Kind.Product (sym c.if-ne.ensures))
