-- `types::pad_right` meets its contract: the padding of right records is that of left ones, the other way round. Assumes nothing.
use mathlib.Core.Path.{◌∙◌}
use Rattle.types.proofs.Types.{padding_swapped}
use Rattle.types.proofs.pad_right.Goals as goal

pub returns : goal.returns
returns c =
    c.pad_left.ensures ∙ padding_swapped c.args.table.now c.args.a c.args.b
