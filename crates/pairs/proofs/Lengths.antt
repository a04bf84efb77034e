-- Each length of a record, and its form for C, is settled: any two results that its contract allows are equal, the answer and the lent number.
-- The number in a proof counts the parameters before what is lent. Assumes nothing.
use Prim.Native.Nat.{◌+◌}
use mathlib.Core.Path.{refl}
use seplogic.Ra.Ura.{Ura}
use base.Logic.{SProp}
use prog.Memory.{Memory}
use prog.Routine.{Routine}
use types.Logic.{Logic}
use contract.Monad.{Fun}
use Rattle.answers.specs.Verdicts.{count_of}
use Rattle.answers.proofs.Settled.{count_settled}
use Rattle.codec.specs.contracts.compact_len as compact-len
use Rattle.value.specs.contracts.padded_len as padded-len
use Rattle.exports.specs.contracts.qv_compact_len as qv-compact-len
use Rattle.exports.specs.contracts.qv_padded_len as qv-padded-len
use Rattle.pairs.proofs.Allowed.{Settled, one, two, answered, lent}
use Rattle.pairs.proofs.Columns.{table_params}

module _ {M : Type 1} {𝓤 : Ura M} (𝓛 : Logic 𝓤) (mem : Memory → SProp 𝓤) (run : Routine → Fun 𝓤) where
  pub compact_len_settled : Settled 𝓤 compact-len.ended (compact-len.clauses 𝓛 mem run)
  compact_len_settled κs a g h r s x y = one 𝓤 (answered count_of count_settled refl r s)

  pub qv_compact_len_settled : Settled 𝓤 qv-compact-len.ended (qv-compact-len.clauses 𝓛 mem run)
  qv_compact_len_settled κs a g h r s x y = two 𝓤 (lent (table_params + 3) x y)

  pub padded_len_settled : Settled 𝓤 padded-len.ended (padded-len.clauses 𝓛 mem run)
  padded_len_settled κs a g h r s x y = one 𝓤 (answered count_of count_settled refl r s)

  pub qv_padded_len_settled : Settled 𝓤 qv-padded-len.ended (qv-padded-len.clauses 𝓛 mem run)
  qv_padded_len_settled κs a g h r s x y = two 𝓤 (lent (table_params + 3) x y)
