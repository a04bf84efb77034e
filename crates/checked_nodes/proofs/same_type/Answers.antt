-- `checked_nodes::same_type` meets its contract: equal classes are equal types. Assumes nothing.
use Rattle.checked.proofs.Nodes.{class_test}
use Rattle.checked_nodes.proofs.same_type.Goals as goal

pub returns : goal.returns
returns c =
    class_test c.args.table.now c.args.a c.args.b c.node.result c.node-2.result c.node.ensures c.node-2.ensures
