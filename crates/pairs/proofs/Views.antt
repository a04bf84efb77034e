-- Each view of a record, and its form for C, is settled: any two results that its contract allows are equal, the answer and the lent entries.
-- The number in a proof counts the parameters before what is lent. Assumes nothing.
use Prim.Native.Nat.{◌+◌}
use mathlib.Core.Path.{refl}
use seplogic.Ra.Ura.{Ura}
use base.Logic.{SProp}
use prog.Memory.{Memory}
use prog.Routine.{Routine}
use types.Logic.{Logic}
use contract.Monad.{Fun}
use Rattle.answers.specs.Verdicts.{spot_of, spots_of}
use Rattle.answers.proofs.Settled.{spot_settled, spots_settled}
use Rattle.value.specs.contracts.as_left as as-left
use Rattle.value.specs.contracts.as_right as as-right
use Rattle.value.specs.contracts.as_product as as-product
use Rattle.exports.specs.contracts.qv_as_left as qv-as-left
use Rattle.exports.specs.contracts.qv_as_right as qv-as-right
use Rattle.exports.specs.contracts.qv_as_product as qv-as-product
use Rattle.pairs.proofs.Allowed.{Settled, one, two, answered, lent}
use Rattle.pairs.proofs.Columns.{table_params}

module _ {M : Type 1} {𝓤 : Ura M} (𝓛 : Logic 𝓤) (mem : Memory → SProp 𝓤) (run : Routine → Fun 𝓤) where
  pub as_left_settled : Settled 𝓤 as-left.ended (as-left.clauses 𝓛 mem run)
  as_left_settled κs a g h r s x y = one 𝓤 (answered spot_of spot_settled refl r s)

  pub qv_as_left_settled : Settled 𝓤 qv-as-left.ended (qv-as-left.clauses 𝓛 mem run)
  qv_as_left_settled κs a g h r s x y = two 𝓤 (lent (table_params + 3) x y)

  pub as_right_settled : Settled 𝓤 as-right.ended (as-right.clauses 𝓛 mem run)
  as_right_settled κs a g h r s x y = one 𝓤 (answered spot_of spot_settled refl r s)

  pub qv_as_right_settled : Settled 𝓤 qv-as-right.ended (qv-as-right.clauses 𝓛 mem run)
  qv_as_right_settled κs a g h r s x y = two 𝓤 (lent (table_params + 3) x y)

  pub as_product_settled : Settled 𝓤 as-product.ended (as-product.clauses 𝓛 mem run)
  as_product_settled κs a g h r s x y = one 𝓤 (answered spots_of spots_settled refl r s)

  pub qv_as_product_settled : Settled 𝓤 qv-as-product.ended (qv-as-product.clauses 𝓛 mem run)
  qv_as_product_settled κs a g h r s x y = two 𝓤 (lent (table_params + 3) x y)
