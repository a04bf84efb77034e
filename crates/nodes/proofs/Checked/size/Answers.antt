-- `nodes::Checked::size` meets its contract: a sound table's group has the size of the node. Assumes nothing.
use native.Mathlib.Omega.{arith}
use mathlib.Core.Path.{ap, ◌∙◌}
use Rattle.meaning.proofs.Sounds.{sound_size}
use Rattle.nodes.proofs.Entries.{has_group}
use Rattle.nodes.proofs.Checked.size.Goals as goal

pub size_at-requires : goal.size_at-requires
size_at-requires c =
    has_group _ _ _ _ _ c.args.n c.self.invariant c.args.n (omega (arith, ap (λ t. t.count) c.self.view_is, c.requires))

pub returns : goal.returns
returns c =
    rw (← c.self.view_is)
    (c.size_at.ensures ∙ sound_size _ c.self.invariant c.args.n (omega (arith, ap (λ t. t.count) c.self.view_is, c.requires)))
