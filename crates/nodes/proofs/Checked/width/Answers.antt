-- `nodes::Checked::width` meets its contract: a sound table's group has the width of the node. Assumes nothing.
use native.Mathlib.Omega.{arith}
use mathlib.Core.Path.{ap, ◌∙◌}
use Rattle.meaning.proofs.Sounds.{sound_width}
use Rattle.nodes.proofs.Entries.{has_group}
use Rattle.nodes.proofs.Checked.width.Goals as goal

pub width_at-requires : goal.width_at-requires
width_at-requires c =
    has_group _ _ _ _ _ c.args.n c.self.invariant c.args.n (omega (arith, ap (λ t. t.count) c.self.view_is, c.requires))

pub returns : goal.returns
returns c =
    rw (← c.self.view_is)
    (c.width_at.ensures ∙ sound_width _ c.self.invariant c.args.n (omega (arith, ap (λ t. t.count) c.self.view_is, c.requires)))
