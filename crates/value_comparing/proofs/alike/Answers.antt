-- `value_comparing::alike` meets its contract: equal classes are equal types, and the bits are compared where they lie. Assumes nothing.
use mathlib.Core.Path.{◌∙◌}
use Rattle.meaning.specs.Ladder.{record_of}
use Rattle.value_comparing.proofs.Compared.{unlike, first_run, second_run, alike_bits}
use Rattle.value_comparing.proofs.alike.Goals as goal

pub returns-then-a-b : goal.returns-then-a-b
returns-then-a-b c =
    let r = record_of c.args.a_bytes.now c.args.a_offset c.args.a_node in
    let s = record_of c.args.b_bytes.now c.args.b_offset c.args.b_node in
    unlike c.args.table.now r s c.requires.held c.requires.held_2 _ _ c.node-a.ensures c.node-b.ensures c.if-a-b.true

pub same_bits-requires-clause-run : goal.same_bits-requires-clause-run
same_bits-requires-clause-run c =
    let r = record_of c.args.a_bytes.now c.args.a_offset c.args.a_node in
    let s = record_of c.args.b_bytes.now c.args.b_offset c.args.b_node in
    first_run c.args.table.now r s c.requires.held c.requires.held_2 _ _ c.node-a.ensures c.node-b.ensures

pub same_bits-requires-clause-run_2 : goal.same_bits-requires-clause-run_2
same_bits-requires-clause-run_2 c =
    let r = record_of c.args.a_bytes.now c.args.a_offset c.args.a_node in
    let s = record_of c.args.b_bytes.now c.args.b_offset c.args.b_node in
    second_run c.args.table.now r s c.requires.held c.requires.held_2 _ _ c.node-a.ensures c.node-b.ensures c.if-a-b.false

pub returns : goal.returns
returns c =
    let r = record_of c.args.a_bytes.now c.args.a_offset c.args.a_node in
    let s = record_of c.args.b_bytes.now c.args.b_offset c.args.b_node in
    c.same_bits.ensures
    ∙ alike_bits c.args.table.now r s c.requires.held c.requires.held_2 _ _ c.node-a.ensures c.node-b.ensures c.if-a-b.false
