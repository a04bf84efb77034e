-- `types_reading::facts` meets its contract: of a node of a sound table, the group has the facts. Assumes nothing.
use native.Mathlib.Omega.{arith}
use mathlib.Core.Path.{ap}
use Rattle.meaning.proofs.GroupLaws.{sound_group}
use Rattle.types_reading.proofs.Read.{facts_read}
use Rattle.types_reading.proofs.facts.Goals as goal

pub least_at-requires : goal.least_at-requires
least_at-requires c =
    let u = c.table.inside in
    sound_group u.kinds.now u.lefts.now u.rights.now u.groups.now u.count c.args.node c.table.invariant
    (omega (arith, ap (λ t. t.count) c.table.view_is, c.requires))

pub returns : goal.returns
returns c =
    facts_read c.args.table.now (rw (← c.table.view_is) c.table.invariant) c.args.node c.requires c.node-read.result c.node-read.ensures c.size.ensures
    (rw (← c.table.view_is) c.least_at.ensures)
