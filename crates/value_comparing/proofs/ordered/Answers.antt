-- `value_comparing::ordered` meets its contract: the classes decide, and where they are equal the bits do, compared where they
-- lie. Assumes nothing.
use mathlib.Core.Path.{◌∙◌}
use Rattle.std.proofs.Common.{Equal}
use Rattle.std.specs.Cmp.{ranked}
use Rattle.meaning.specs.Ladder.{record_of}
use Rattle.value_comparing.proofs.Compared.{first_run, second_run, ordered_bits}
use Rattle.value_comparing.proofs.ordered.Goals as goal

pub order_bits-requires-clause-run : goal.order_bits-requires-clause-run
order_bits-requires-clause-run c =
    let r = record_of c.args.a_bytes.now c.args.a_offset c.args.a_node in
    let s = record_of c.args.b_bytes.now c.args.b_offset c.args.b_node in
    first_run c.args.table.now r s c.requires.held c.requires.held_2 _ _ c.node-a.ensures c.node-b.ensures

pub order_bits-requires-clause-run_2 : goal.order_bits-requires-clause-run_2
order_bits-requires-clause-run_2 c =
    let r = record_of c.args.a_bytes.now c.args.a_offset c.args.a_node in
    let s = record_of c.args.b_bytes.now c.args.b_offset c.args.b_node in
    second_run c.args.table.now r s c.requires.held c.requires.held_2 _ _ c.node-a.ensures c.node-b.ensures
    (ranked c.node-a.result.class c.node-b.result.class Equal c.in-Equal.ensures)

pub returns-in-Equal : goal.returns-in-Equal
returns-in-Equal c =
    let r = record_of c.args.a_bytes.now c.args.a_offset c.args.a_node in
    let s = record_of c.args.b_bytes.now c.args.b_offset c.args.b_node in
    c.order_bits.ensures
    ∙ ordered_bits c.args.table.now r s c.requires.held c.requires.held_2 _ _ c.node-a.ensures c.node-b.ensures
    (ranked c.node-a.result.class c.node-b.result.class Equal c.in-Equal.ensures)
