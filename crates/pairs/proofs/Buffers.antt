-- The buffer and the hash state, and their forms for C, are settled: any two results that a contract allows are equal, the answer, the lent
-- number and the output.
-- The numbers in a proof count parameters: those before the output or the lent number, and those between the lent number and the output.
-- Assumes nothing.
use Prim.Native.Nat.{◌+◌}
use seplogic.Ra.Ura.{Ura}
use base.Logic.{SProp}
use prog.Memory.{Memory}
use prog.Routine.{Routine}
use types.Logic.{Logic}
use contract.Monad.{Fun}
use Rattle.words.specs.contracts.buffer8_two_n_plus_one as buffer8-two-n-plus-one
use Rattle.words.specs.contracts.ctx8 as ctx8
use Rattle.exports.specs.contracts.qv_buffer8_two_n_plus_one as qv-buffer8-two-n-plus-one
use Rattle.exports.specs.contracts.qv_ctx8 as qv-ctx8
use Rattle.pairs.proofs.Allowed.{Settled, two, three, written, made}
use Rattle.pairs.proofs.Columns.{table_params}

module _ {M : Type 1} {𝓤 : Ura M} (𝓛 : Logic 𝓤) (mem : Memory → SProp 𝓤) (run : Routine → Fun 𝓤) where
  pub buffer8_two_n_plus_one_settled : Settled 𝓤 buffer8-two-n-plus-one.ended (buffer8-two-n-plus-one.clauses 𝓛 mem run)
  buffer8_two_n_plus_one_settled κs a g h r s x y = two 𝓤 (written (1 + 3) r s x y)

  pub qv_buffer8_two_n_plus_one_settled : Settled 𝓤 qv-buffer8-two-n-plus-one.ended (qv-buffer8-two-n-plus-one.clauses 𝓛 mem run)
  qv_buffer8_two_n_plus_one_settled κs a g h r s x y = three 𝓤 (made (table_params + 3) 0 x y)

  pub ctx8_settled : Settled 𝓤 ctx8.ended (ctx8.clauses 𝓛 mem run)
  ctx8_settled κs a g h r s x y = two 𝓤 (written (1 + 2) r s x y)

  pub qv_ctx8_settled : Settled 𝓤 qv-ctx8.ended (qv-ctx8.clauses 𝓛 mem run)
  qv_ctx8_settled κs a g h r s x y = three 𝓤 (made (table_params + 4) 0 x y)
