-- `nodes::Checked::node` meets its contract: each field is an entry of a column or a fact of a group, and a sound table says what that is. Assumes nothing.
use native.Mathlib.Omega.{arith}
use mathlib.Core.Path.{ap}
use Rattle.nodes.proofs.Entries.{kind_read, has_group, left_group, right_group, read_from}
use Rattle.nodes.proofs.Checked.node.Goals as goal

pub width_at-requires : goal.width_at-requires
width_at-requires c =
    has_group _ _ _ _ _ c.args.n c.self.invariant c.args.n (omega (arith, ap (λ t. t.count) c.self.view_is, c.requires))

pub width_at-requires-2 : goal.width_at-requires-2
width_at-requires-2 c =
    left_group _ _ _ _ _ c.args.n c.self.invariant (omega (arith, ap (λ t. t.count) c.self.view_is, c.requires))

pub width_at-requires-3 : goal.width_at-requires-3
width_at-requires-3 c =
    right_group _ _ _ _ _ c.args.n c.self.invariant (omega (arith, ap (λ t. t.count) c.self.view_is, c.requires))

pub padded_at-requires : goal.padded_at-requires
padded_at-requires c =
    has_group _ _ _ _ _ c.args.n c.self.invariant c.args.n (omega (arith, ap (λ t. t.count) c.self.view_is, c.requires))

pub class_at-requires : goal.class_at-requires
class_at-requires c =
    has_group _ _ _ _ _ c.args.n c.self.invariant c.args.n (omega (arith, ap (λ t. t.count) c.self.view_is, c.requires))

pub returns : goal.returns
returns c =
    rw (← c.self.view_is)
    (read_from _ _ _ _ _ c.args.n c.self.invariant (omega (arith, ap (λ t. t.count) c.self.view_is, c.requires)) _
    (kind_read _ c.self.invariant c.args.n (omega (arith, ap (λ t. t.count) c.self.view_is, c.requires)) _ _ _ c.try_from.ensures c.unwrap_or.ensures) _ _ _ _ _ c.width_at.ensures c.width_at-2.ensures
    c.width_at-3.ensures c.padded_at.ensures c.class_at.ensures)
