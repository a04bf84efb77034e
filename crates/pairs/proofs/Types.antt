-- Each question about types, and its form for C, is settled: any two results that its contract allows are equal, the answer and what is lent.
-- The number in a proof counts the parameters before what is lent. Assumes nothing.
use Prim.Native.Nat.{◌+◌}
use mathlib.Core.Path.{refl}
use seplogic.Ra.Ura.{Ura}
use base.Logic.{SProp}
use prog.Memory.{Memory}
use prog.Routine.{Routine}
use types.Logic.{Logic}
use contract.Monad.{Fun}
use Rattle.answers.specs.Verdicts.{count_of, flag_of, sides_of, facts_of}
use Rattle.answers.proofs.Settled.{count_settled, flag_settled, sides_settled, facts_settled}
use Rattle.types.specs.contracts.facts_of as facts-of
use Rattle.types.specs.contracts.same_type as same-type
use Rattle.types.specs.contracts.is_unit as is-unit
use Rattle.types.specs.contracts.is_empty as is-empty
use Rattle.types.specs.contracts.as_sum as as-sum
use Rattle.types.specs.contracts.as_product as as-product
use Rattle.types.specs.contracts.pad_left as pad-left
use Rattle.types.specs.contracts.pad_right as pad-right
use Rattle.exports.specs.contracts.qv_facts_of as qv-facts-of
use Rattle.exports.specs.contracts.qv_same_type as qv-same-type
use Rattle.exports.specs.contracts.qv_is_unit as qv-is-unit
use Rattle.exports.specs.contracts.qv_is_empty as qv-is-empty
use Rattle.exports.specs.contracts.qv_type_as_sum as qv-type-as-sum
use Rattle.exports.specs.contracts.qv_type_as_product as qv-type-as-product
use Rattle.exports.specs.contracts.qv_pad_left as qv-pad-left
use Rattle.exports.specs.contracts.qv_pad_right as qv-pad-right
use Rattle.pairs.proofs.Allowed.{Settled, one, two, answered, lent}
use Rattle.pairs.proofs.Columns.{table_params}

module _ {M : Type 1} {𝓤 : Ura M} (𝓛 : Logic 𝓤) (mem : Memory → SProp 𝓤) (run : Routine → Fun 𝓤) where
  pub facts_of_settled : Settled 𝓤 facts-of.ended (facts-of.clauses 𝓛 mem run)
  facts_of_settled κs a g h r s x y = one 𝓤 (answered facts_of facts_settled refl r s)

  pub qv_facts_of_settled : Settled 𝓤 qv-facts-of.ended (qv-facts-of.clauses 𝓛 mem run)
  qv_facts_of_settled κs a g h r s x y = two 𝓤 (lent (table_params + 1) x y)

  pub same_type_settled : Settled 𝓤 same-type.ended (same-type.clauses 𝓛 mem run)
  same_type_settled κs a g h r s x y = one 𝓤 (answered flag_of flag_settled refl r s)

  pub qv_same_type_settled : Settled 𝓤 qv-same-type.ended (qv-same-type.clauses 𝓛 mem run)
  qv_same_type_settled κs a g h r s x y = two 𝓤 (lent (table_params + 2) x y)

  pub is_unit_settled : Settled 𝓤 is-unit.ended (is-unit.clauses 𝓛 mem run)
  is_unit_settled κs a g h r s x y = one 𝓤 (answered flag_of flag_settled refl r s)

  pub qv_is_unit_settled : Settled 𝓤 qv-is-unit.ended (qv-is-unit.clauses 𝓛 mem run)
  qv_is_unit_settled κs a g h r s x y = two 𝓤 (lent (table_params + 1) x y)

  pub is_empty_settled : Settled 𝓤 is-empty.ended (is-empty.clauses 𝓛 mem run)
  is_empty_settled κs a g h r s x y = one 𝓤 (answered flag_of flag_settled refl r s)

  pub qv_is_empty_settled : Settled 𝓤 qv-is-empty.ended (qv-is-empty.clauses 𝓛 mem run)
  qv_is_empty_settled κs a g h r s x y = two 𝓤 (lent (table_params + 1) x y)

  pub as_sum_settled : Settled 𝓤 as-sum.ended (as-sum.clauses 𝓛 mem run)
  as_sum_settled κs a g h r s x y = one 𝓤 (answered sides_of sides_settled refl r s)

  pub qv_type_as_sum_settled : Settled 𝓤 qv-type-as-sum.ended (qv-type-as-sum.clauses 𝓛 mem run)
  qv_type_as_sum_settled κs a g h r s x y = two 𝓤 (lent (table_params + 1) x y)

  pub as_product_settled : Settled 𝓤 as-product.ended (as-product.clauses 𝓛 mem run)
  as_product_settled κs a g h r s x y = one 𝓤 (answered sides_of sides_settled refl r s)

  pub qv_type_as_product_settled : Settled 𝓤 qv-type-as-product.ended (qv-type-as-product.clauses 𝓛 mem run)
  qv_type_as_product_settled κs a g h r s x y = two 𝓤 (lent (table_params + 1) x y)

  pub pad_left_settled : Settled 𝓤 pad-left.ended (pad-left.clauses 𝓛 mem run)
  pad_left_settled κs a g h r s x y = one 𝓤 (answered count_of count_settled refl r s)

  pub qv_pad_left_settled : Settled 𝓤 qv-pad-left.ended (qv-pad-left.clauses 𝓛 mem run)
  qv_pad_left_settled κs a g h r s x y = two 𝓤 (lent (table_params + 2) x y)

  pub pad_right_settled : Settled 𝓤 pad-right.ended (pad-right.clauses 𝓛 mem run)
  pad_right_settled κs a g h r s x y = one 𝓤 (answered count_of count_settled refl r s)

  pub qv_pad_right_settled : Settled 𝓤 qv-pad-right.ended (qv-pad-right.clauses 𝓛 mem run)
  qv_pad_right_settled κs a g h r s x y = two 𝓤 (lent (table_params + 2) x y)
