-- `checked_limits::sound::record_limit` meets its contract: what the groups of a sound table hold is what its types have. Assumes nothing.
use Prim.Native.Nat.{ℕ, ◌+◌, ◌*◌}
use native.Mathlib.Omega.{arith}
use mathlib.Core.Path.{ap, ap₂, ◌∙◌}
use lib.Dec.{ltb, leb}
use lib.ListN.{get_or}
use Rattle.meaning.specs.Groups.{fact_in}
use Rattle.checked_limits.specs.Limits.{first_rung, limit_answer}
use Rattle.checked_limits.proofs.Limits.{reached, true_record}
use Rattle.checked_limits.proofs.sound.record_limit.Goals as goal

pub record_limit-requires : goal.record_limit-requires
record_limit-requires c =
    let both = reached _ _ _ _ _ c.table.invariant in
    record { count_bound = both.0; count_in_bounds = both.1 }

pub returns : goal.returns
returns c =
    let a = c.args in
    let w = get_or (fact_in 0 8 c.table.inside.groups.now) a.n 0 in
    let z = get_or (fact_in 8 8 c.table.inside.groups.now) a.n 0 in
    rw (← c.table.view_is)
    (c.record_limit.ensures
    ∙ ap₂ (λ (l o : ℕ). limit_answer (first_rung (leb c.table.inside.count a.n) (ltb 524288 w) (ltb 2097152 z) (ltb (8 * l) (o + w)))) (omega arith) (omega arith)
    ∙ ap limit_answer (true_record _ c.table.invariant a.len a.offset a.n))
