-- `checked_limits::sound::node_limit` meets its contract: what the groups of a sound table hold is what its types have. Assumes nothing.
use Prim.Native.Nat.{ℕ}
use native.Mathlib.Omega.{arith}
use mathlib.Core.Path.{ap, ap₂, ◌∙◌}
use mathlib.Core.Bool.{false}
use lib.Dec.{ltb, leb}
use lib.ListN.{get_or}
use Rattle.meaning.specs.Groups.{fact_in}
use Rattle.checked_limits.specs.Limits.{first_rung, limit_answer}
use Rattle.checked_limits.proofs.Limits.{reached, true_node}
use Rattle.checked_limits.proofs.sound.node_limit.Goals as goal

pub node_limit-requires : goal.node_limit-requires
node_limit-requires c =
    let both = reached _ _ _ _ _ c.table.invariant in
    record { count_bound = omega (arith, both.0); count_in_bounds = omega (arith, both.1) }

pub returns : goal.returns
returns c =
    let a = c.args in
    rw (← c.table.view_is)
    (c.node_limit.ensures
    ∙ ap₂ (λ (k n : ℕ). limit_answer (first_rung (leb k n) (ltb 524288 (get_or (fact_in 0 8 c.table.inside.groups.now) n 0)) (ltb 2097152 (get_or (fact_in 8 8 c.table.inside.groups.now) n 0)) false)) (omega arith) (omega arith)
    ∙ ap limit_answer (true_node _ c.table.invariant a.n))
