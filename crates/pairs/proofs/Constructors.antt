-- Each constructor, and its form for C, is settled: any two results that its contract allows are equal, the answer, the lent number and the output.
-- The numbers in a proof count parameters: those before the output or the lent number, and those between the lent number and the output.
-- Assumes nothing.
use Prim.Native.Nat.{◌+◌}
use seplogic.Ra.Ura.{Ura}
use base.Logic.{SProp}
use prog.Memory.{Memory}
use prog.Routine.{Routine}
use types.Logic.{Logic}
use contract.Monad.{Fun}
use Rattle.value.specs.contracts.unit as unit
use Rattle.value.specs.contracts.zero as zero
use Rattle.value.specs.contracts.left as left
use Rattle.value.specs.contracts.right as right
use Rattle.value.specs.contracts.product as product
use Rattle.value.specs.contracts.none as none
use Rattle.value.specs.contracts.some as some
use Rattle.exports.specs.contracts.qv_unit as qv-unit
use Rattle.exports.specs.contracts.qv_zero as qv-zero
use Rattle.exports.specs.contracts.qv_left as qv-left
use Rattle.exports.specs.contracts.qv_right as qv-right
use Rattle.exports.specs.contracts.qv_product as qv-product
use Rattle.exports.specs.contracts.qv_none as qv-none
use Rattle.exports.specs.contracts.qv_some as qv-some
use Rattle.pairs.proofs.Allowed.{Settled, two, three, written, made}
use Rattle.pairs.proofs.Columns.{table_params}

module _ {M : Type 1} {𝓤 : Ura M} (𝓛 : Logic 𝓤) (mem : Memory → SProp 𝓤) (run : Routine → Fun 𝓤) where
  pub unit_settled : Settled 𝓤 unit.ended (unit.clauses 𝓛 mem run)
  unit_settled κs a g h r s x y = two 𝓤 (written (1 + 1) r s x y)

  pub qv_unit_settled : Settled 𝓤 qv-unit.ended (qv-unit.clauses 𝓛 mem run)
  qv_unit_settled κs a g h r s x y = three 𝓤 (made (table_params + 1) 0 x y)

  pub zero_settled : Settled 𝓤 zero.ended (zero.clauses 𝓛 mem run)
  zero_settled κs a g h r s x y = two 𝓤 (written (1 + 1) r s x y)

  pub qv_zero_settled : Settled 𝓤 qv-zero.ended (qv-zero.clauses 𝓛 mem run)
  qv_zero_settled κs a g h r s x y = three 𝓤 (made (table_params + 1) 0 x y)

  pub left_settled : Settled 𝓤 left.ended (left.clauses 𝓛 mem run)
  left_settled κs a g h r s x y = two 𝓤 (written (1 + 4) r s x y)

  pub qv_left_settled : Settled 𝓤 qv-left.ended (qv-left.clauses 𝓛 mem run)
  qv_left_settled κs a g h r s x y = three 𝓤 (made (table_params + 4) 0 x y)

  pub right_settled : Settled 𝓤 right.ended (right.clauses 𝓛 mem run)
  right_settled κs a g h r s x y = two 𝓤 (written (1 + 4) r s x y)

  pub qv_right_settled : Settled 𝓤 qv-right.ended (qv-right.clauses 𝓛 mem run)
  qv_right_settled κs a g h r s x y = three 𝓤 (made (table_params + 4) 0 x y)

  pub product_settled : Settled 𝓤 product.ended (product.clauses 𝓛 mem run)
  product_settled κs a g h r s x y = two 𝓤 (written (1 + 7) r s x y)

  pub qv_product_settled : Settled 𝓤 qv-product.ended (qv-product.clauses 𝓛 mem run)
  qv_product_settled κs a g h r s x y = three 𝓤 (made (table_params + 7) 0 x y)

  pub none_settled : Settled 𝓤 none.ended (none.clauses 𝓛 mem run)
  none_settled κs a g h r s x y = two 𝓤 (written (1 + 1) r s x y)

  pub qv_none_settled : Settled 𝓤 qv-none.ended (qv-none.clauses 𝓛 mem run)
  qv_none_settled κs a g h r s x y = three 𝓤 (made (table_params + 1) 0 x y)

  pub some_settled : Settled 𝓤 some.ended (some.clauses 𝓛 mem run)
  some_settled κs a g h r s x y = two 𝓤 (written (1 + 4) r s x y)

  pub qv_some_settled : Settled 𝓤 qv-some.ended (qv-some.clauses 𝓛 mem run)
  qv_some_settled κs a g h r s x y = three 𝓤 (made (table_params + 4) 0 x y)
