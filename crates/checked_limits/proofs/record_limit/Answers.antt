-- `checked_limits::record_limit` meets its contract: the node first, then the bounds. Assumes nothing.
use Prim.Native.Nat.{ℕ, ◌+◌, ◌*◌}
use native.Mathlib.Omega.{arith}
use mathlib.Core.Path.{ap, ◌∙◌}
use lib.Dec.{ltb}
use lib.ListN.{get_or}
use Rattle.meaning.specs.Groups.{fact_in}
use Rattle.checked_limits.proofs.Limits.{passed_here, passed_narrow, runs_past, inside}
use Rattle.checked_limits.proofs.record_limit.Goals as goal

pub width_at-requires : goal.width_at-requires
width_at-requires c =
    let a = c.args in
    let g = a.groups.now in
    let h = passed_here a.count a.n (get_or (fact_in 0 8 g) a.n 0) (get_or (fact_in 8 8 g) a.n 0) c.in_ok-node_limit.ensures in
    omega (arith, c.requires.count_in_bounds)

pub past-requires : goal.past-requires
past-requires c =
    let a = c.args in
    let g = a.groups.now in
    let h = passed_narrow a.count a.n (get_or (fact_in 0 8 g) a.n 0) (get_or (fact_in 8 8 g) a.n 0) c.in_ok-node_limit.ensures in
    omega (arith, c.width_at.ensures)

pub returns-then-past : goal.returns-then-past
returns-then-past c =
    let a = c.args in
    let g = a.groups.now in
    runs_past a.count a.n (get_or (fact_in 0 8 g) a.n 0) (get_or (fact_in 8 8 g) a.n 0) a.len a.offset c.in_ok-node_limit.ensures
    (c.if-past.ensures ∙ ap (λ (k : ℕ). ltb (8 * a.len) (a.offset + k)) c.width_at.ensures)

pub returns : goal.returns
returns c =
    let a = c.args in
    let g = a.groups.now in
    inside a.count a.n (get_or (fact_in 0 8 g) a.n 0) (get_or (fact_in 8 8 g) a.n 0) a.len a.offset c.in_ok-node_limit.ensures
    (c.if-past.ensures ∙ ap (λ (k : ℕ). ltb (8 * a.len) (a.offset + k)) c.width_at.ensures)
