-- Each comparison of records, and its form for C, is settled: any two results that its contract allows are equal, the answer and the lent number.
-- The number in a proof counts the parameters before what is lent. Assumes nothing.
use Prim.Native.Nat.{◌+◌}
use mathlib.Core.Path.{refl}
use seplogic.Ra.Ura.{Ura}
use base.Logic.{SProp}
use prog.Memory.{Memory}
use prog.Routine.{Routine}
use types.Logic.{Logic}
use contract.Monad.{Fun}
use Rattle.answers.specs.Verdicts.{flag_of, order_of}
use Rattle.answers.proofs.Settled.{flag_settled, order_settled}
use Rattle.value.specs.contracts.equal as equal
use Rattle.value.specs.contracts.compare as compare
use Rattle.exports.specs.contracts.qv_equal as qv-equal
use Rattle.exports.specs.contracts.qv_compare as qv-compare
use Rattle.pairs.proofs.Allowed.{Settled, one, two, answered, lent}
use Rattle.pairs.proofs.Columns.{table_params}

module _ {M : Type 1} {𝓤 : Ura M} (𝓛 : Logic 𝓤) (mem : Memory → SProp 𝓤) (run : Routine → Fun 𝓤) where
  pub equal_settled : Settled 𝓤 equal.ended (equal.clauses 𝓛 mem run)
  equal_settled κs a g h r s x y = one 𝓤 (answered flag_of flag_settled refl r s)

  pub qv_equal_settled : Settled 𝓤 qv-equal.ended (qv-equal.clauses 𝓛 mem run)
  qv_equal_settled κs a g h r s x y = two 𝓤 (lent (table_params + 6) x y)

  pub compare_settled : Settled 𝓤 compare.ended (compare.clauses 𝓛 mem run)
  compare_settled κs a g h r s x y = one 𝓤 (answered order_of order_settled refl r s)

  pub qv_compare_settled : Settled 𝓤 qv-compare.ended (qv-compare.clauses 𝓛 mem run)
  qv_compare_settled κs a g h r s x y = two 𝓤 (lent (table_params + 6) x y)
