-- Each reader and writer, and its form for C, is settled: any two results that its contract allows are equal, the answer, the lent number and
-- the output.
-- The numbers in a proof count parameters: those before the output or the lent number, and those between the lent number and the output.
-- Assumes nothing.
use Prim.Native.Nat.{◌+◌}
use seplogic.Ra.Ura.{Ura}
use base.Logic.{SProp}
use prog.Memory.{Memory}
use prog.Routine.{Routine}
use types.Logic.{Logic}
use contract.Monad.{Fun}
use Rattle.codec.specs.contracts.from_compact_bits as from-compact-bits
use Rattle.codec.specs.contracts.from_padded_bits as from-padded-bits
use Rattle.codec.specs.contracts.to_compact_bits as to-compact-bits
use Rattle.codec.specs.contracts.to_padded_bits as to-padded-bits
use Rattle.exports.specs.contracts.qv_from_compact_bits as qv-from-compact-bits
use Rattle.exports.specs.contracts.qv_from_padded_bits as qv-from-padded-bits
use Rattle.exports.specs.contracts.qv_to_compact_bits as qv-to-compact-bits
use Rattle.exports.specs.contracts.qv_to_padded_bits as qv-to-padded-bits
use Rattle.pairs.proofs.Allowed.{Settled, two, three, written, made}
use Rattle.pairs.proofs.Columns.{table_params}

module _ {M : Type 1} {𝓤 : Ura M} (𝓛 : Logic 𝓤) (mem : Memory → SProp 𝓤) (run : Routine → Fun 𝓤) where
  pub from_compact_bits_settled : Settled 𝓤 from-compact-bits.ended (from-compact-bits.clauses 𝓛 mem run)
  from_compact_bits_settled κs a g h r s x y = two 𝓤 (written (1 + 4) r s x y)

  pub qv_from_compact_bits_settled : Settled 𝓤 qv-from-compact-bits.ended (qv-from-compact-bits.clauses 𝓛 mem run)
  qv_from_compact_bits_settled κs a g h r s x y = three 𝓤 (made (table_params + 2) 1 x y)

  pub from_padded_bits_settled : Settled 𝓤 from-padded-bits.ended (from-padded-bits.clauses 𝓛 mem run)
  from_padded_bits_settled κs a g h r s x y = two 𝓤 (written (1 + 4) r s x y)

  pub qv_from_padded_bits_settled : Settled 𝓤 qv-from-padded-bits.ended (qv-from-padded-bits.clauses 𝓛 mem run)
  qv_from_padded_bits_settled κs a g h r s x y = three 𝓤 (made (table_params + 2) 1 x y)

  pub to_compact_bits_settled : Settled 𝓤 to-compact-bits.ended (to-compact-bits.clauses 𝓛 mem run)
  to_compact_bits_settled κs a g h r s x y = two 𝓤 (written (1 + 3) r s x y)

  pub qv_to_compact_bits_settled : Settled 𝓤 qv-to-compact-bits.ended (qv-to-compact-bits.clauses 𝓛 mem run)
  qv_to_compact_bits_settled κs a g h r s x y = three 𝓤 (made (table_params + 3) 0 x y)

  pub to_padded_bits_settled : Settled 𝓤 to-padded-bits.ended (to-padded-bits.clauses 𝓛 mem run)
  to_padded_bits_settled κs a g h r s x y = two 𝓤 (written (1 + 3) r s x y)

  pub qv_to_padded_bits_settled : Settled 𝓤 qv-to-padded-bits.ended (qv-to-padded-bits.clauses 𝓛 mem run)
  qv_to_padded_bits_settled κs a g h r s x y = three 𝓤 (made (table_params + 3) 0 x y)
