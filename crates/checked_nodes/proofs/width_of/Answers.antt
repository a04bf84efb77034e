-- `checked_nodes::width_of` meets its contract: below the limit the width that is read is the true one. Assumes nothing.
use mathlib.Core.Path.{◌∙◌}
use Rattle.meaning.specs.Ladder.{type_at}
use Rattle.checked.proofs.Nodes.{narrow_width}
use Rattle.checked_nodes.proofs.width_of.Goals as goal

pub returns : goal.returns
returns c =
    c.width.ensures ∙ narrow_width (type_at c.args.table.now c.args.node) c.requires.narrow
