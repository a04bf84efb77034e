-- Each word from a number or from bytes, and its form for C, is settled: any two results that its contract allows are equal, the answer, the
-- lent number and the output.
-- The numbers in a proof count parameters: those before the output or the lent number, and those between the lent number and the output.
-- Assumes nothing.
use Prim.Native.Nat.{◌+◌}
use seplogic.Ra.Ura.{Ura}
use base.Logic.{SProp}
use prog.Memory.{Memory}
use prog.Routine.{Routine}
use types.Logic.{Logic}
use contract.Monad.{Fun}
use Rattle.words.specs.contracts.u1 as u1
use Rattle.words.specs.contracts.u2 as u2
use Rattle.words.specs.contracts.u4 as u4
use Rattle.words.specs.contracts.u8 as u8
use Rattle.words.specs.contracts.u16 as u16
use Rattle.words.specs.contracts.u32 as u32
use Rattle.words.specs.contracts.u64 as u64
use Rattle.words.specs.contracts.u128 as u128
use Rattle.words.specs.contracts.u256 as u256
use Rattle.words.specs.contracts.u512 as u512
use Rattle.words.specs.contracts.from_byte_array as from-byte-array
use Rattle.exports.specs.contracts.qv_u1 as qv-u1
use Rattle.exports.specs.contracts.qv_u2 as qv-u2
use Rattle.exports.specs.contracts.qv_u4 as qv-u4
use Rattle.exports.specs.contracts.qv_u8 as qv-u8
use Rattle.exports.specs.contracts.qv_u16 as qv-u16
use Rattle.exports.specs.contracts.qv_u32 as qv-u32
use Rattle.exports.specs.contracts.qv_u64 as qv-u64
use Rattle.exports.specs.contracts.qv_u128 as qv-u128
use Rattle.exports.specs.contracts.qv_u256 as qv-u256
use Rattle.exports.specs.contracts.qv_u512 as qv-u512
use Rattle.exports.specs.contracts.qv_from_byte_array as qv-from-byte-array
use Rattle.pairs.proofs.Allowed.{Settled, two, three, written, made}
use Rattle.pairs.proofs.Columns.{table_params}

module _ {M : Type 1} {𝓤 : Ura M} (𝓛 : Logic 𝓤) (mem : Memory → SProp 𝓤) (run : Routine → Fun 𝓤) where
  pub u1_settled : Settled 𝓤 u1.ended (u1.clauses 𝓛 mem run)
  u1_settled κs a g h r s x y = two 𝓤 (written (1 + 2) r s x y)

  pub qv_u1_settled : Settled 𝓤 qv-u1.ended (qv-u1.clauses 𝓛 mem run)
  qv_u1_settled κs a g h r s x y = three 𝓤 (made (table_params + 2) 0 x y)

  pub u2_settled : Settled 𝓤 u2.ended (u2.clauses 𝓛 mem run)
  u2_settled κs a g h r s x y = two 𝓤 (written (1 + 2) r s x y)

  pub qv_u2_settled : Settled 𝓤 qv-u2.ended (qv-u2.clauses 𝓛 mem run)
  qv_u2_settled κs a g h r s x y = three 𝓤 (made (table_params + 2) 0 x y)

  pub u4_settled : Settled 𝓤 u4.ended (u4.clauses 𝓛 mem run)
  u4_settled κs a g h r s x y = two 𝓤 (written (1 + 2) r s x y)

  pub qv_u4_settled : Settled 𝓤 qv-u4.ended (qv-u4.clauses 𝓛 mem run)
  qv_u4_settled κs a g h r s x y = three 𝓤 (made (table_params + 2) 0 x y)

  pub u8_settled : Settled 𝓤 u8.ended (u8.clauses 𝓛 mem run)
  u8_settled κs a g h r s x y = two 𝓤 (written (1 + 2) r s x y)

  pub qv_u8_settled : Settled 𝓤 qv-u8.ended (qv-u8.clauses 𝓛 mem run)
  qv_u8_settled κs a g h r s x y = three 𝓤 (made (table_params + 2) 0 x y)

  pub u16_settled : Settled 𝓤 u16.ended (u16.clauses 𝓛 mem run)
  u16_settled κs a g h r s x y = two 𝓤 (written (1 + 2) r s x y)

  pub qv_u16_settled : Settled 𝓤 qv-u16.ended (qv-u16.clauses 𝓛 mem run)
  qv_u16_settled κs a g h r s x y = three 𝓤 (made (table_params + 2) 0 x y)

  pub u32_settled : Settled 𝓤 u32.ended (u32.clauses 𝓛 mem run)
  u32_settled κs a g h r s x y = two 𝓤 (written (1 + 2) r s x y)

  pub qv_u32_settled : Settled 𝓤 qv-u32.ended (qv-u32.clauses 𝓛 mem run)
  qv_u32_settled κs a g h r s x y = three 𝓤 (made (table_params + 2) 0 x y)

  pub u64_settled : Settled 𝓤 u64.ended (u64.clauses 𝓛 mem run)
  u64_settled κs a g h r s x y = two 𝓤 (written (1 + 2) r s x y)

  pub qv_u64_settled : Settled 𝓤 qv-u64.ended (qv-u64.clauses 𝓛 mem run)
  qv_u64_settled κs a g h r s x y = three 𝓤 (made (table_params + 2) 0 x y)

  pub u128_settled : Settled 𝓤 u128.ended (u128.clauses 𝓛 mem run)
  u128_settled κs a g h r s x y = two 𝓤 (written (1 + 2) r s x y)

  pub qv_u128_settled : Settled 𝓤 qv-u128.ended (qv-u128.clauses 𝓛 mem run)
  qv_u128_settled κs a g h r s x y = three 𝓤 (made (table_params + 2) 0 x y)

  pub u256_settled : Settled 𝓤 u256.ended (u256.clauses 𝓛 mem run)
  u256_settled κs a g h r s x y = two 𝓤 (written (1 + 2) r s x y)

  pub qv_u256_settled : Settled 𝓤 qv-u256.ended (qv-u256.clauses 𝓛 mem run)
  qv_u256_settled κs a g h r s x y = three 𝓤 (made (table_params + 2) 0 x y)

  pub u512_settled : Settled 𝓤 u512.ended (u512.clauses 𝓛 mem run)
  u512_settled κs a g h r s x y = two 𝓤 (written (1 + 2) r s x y)

  pub qv_u512_settled : Settled 𝓤 qv-u512.ended (qv-u512.clauses 𝓛 mem run)
  qv_u512_settled κs a g h r s x y = three 𝓤 (made (table_params + 2) 0 x y)

  pub from_byte_array_settled : Settled 𝓤 from-byte-array.ended (from-byte-array.clauses 𝓛 mem run)
  from_byte_array_settled κs a g h r s x y = two 𝓤 (written (1 + 2) r s x y)

  pub qv_from_byte_array_settled : Settled 𝓤 qv-from-byte-array.ended (qv-from-byte-array.clauses 𝓛 mem run)
  qv_from_byte_array_settled κs a g h r s x y = three 𝓤 (made (table_params + 2) 0 x y)
