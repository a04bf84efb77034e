-- The cut, and its form for C, is settled: any two results that its contract allows are equal, the answer, the lent number and the output.
-- The numbers in a proof count parameters: those before the output or the lent number, and those between the lent number and the output.
-- Assumes nothing.
use Prim.Native.Nat.{◌+◌}
use seplogic.Ra.Ura.{Ura}
use base.Logic.{SProp}
use prog.Memory.{Memory}
use prog.Routine.{Routine}
use types.Logic.{Logic}
use contract.Monad.{Fun}
use Rattle.prune.specs.contracts.prune as prune
use Rattle.exports.specs.contracts.qv_prune as qv-prune
use Rattle.pairs.proofs.Allowed.{Settled, two, three, written, made}
use Rattle.pairs.proofs.Columns.{table_params}

module _ {M : Type 1} {𝓤 : Ura M} (𝓛 : Logic 𝓤) (mem : Memory → SProp 𝓤) (run : Routine → Fun 𝓤) where
  pub prune_settled : Settled 𝓤 prune.ended (prune.clauses 𝓛 mem run)
  prune_settled κs a g h r s x y = two 𝓤 (written (1 + 4) r s x y)

  pub qv_prune_settled : Settled 𝓤 qv-prune.ended (qv-prune.clauses 𝓛 mem run)
  qv_prune_settled κs a g h r s x y = three 𝓤 (made (table_params + 4) 0 x y)
