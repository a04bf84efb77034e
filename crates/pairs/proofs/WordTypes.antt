-- Each question about word types, buffer types and the hash state's type, and its form for C, is settled: any two results that its contract
-- allows are equal, the answer and the lent number.
-- The number in a proof counts the parameters before what is lent. Assumes nothing.
use Prim.Native.Nat.{◌+◌}
use mathlib.Core.Path.{refl}
use seplogic.Ra.Ura.{Ura}
use base.Logic.{SProp}
use prog.Memory.{Memory}
use prog.Routine.{Routine}
use types.Logic.{Logic}
use contract.Monad.{Fun}
use Rattle.answers.specs.Verdicts.{count_of, flag_of}
use Rattle.answers.proofs.Settled.{count_settled, flag_settled}
use Rattle.word_types.specs.contracts.as_word as as-word
use Rattle.word_types.specs.contracts.word_width as word_width
use Rattle.word_types.specs.contracts.buffer_width as buffer-width
use Rattle.word_types.specs.contracts.is_buffer8 as is-buffer8
use Rattle.word_types.specs.contracts.is_ctx8 as is-ctx8
use Rattle.exports.specs.contracts.qv_as_word as qv-as-word
use Rattle.exports.specs.contracts.qv_word_width as qv-word-width
use Rattle.exports.specs.contracts.qv_buffer_width as qv-buffer-width
use Rattle.exports.specs.contracts.qv_is_buffer8 as qv-is-buffer8
use Rattle.exports.specs.contracts.qv_is_ctx8 as qv-is-ctx8
use Rattle.pairs.proofs.Allowed.{Settled, one, two, answered, lent}
use Rattle.pairs.proofs.Columns.{table_params}

module _ {M : Type 1} {𝓤 : Ura M} (𝓛 : Logic 𝓤) (mem : Memory → SProp 𝓤) (run : Routine → Fun 𝓤) where
  pub as_word_settled : Settled 𝓤 as-word.ended (as-word.clauses 𝓛 mem run)
  as_word_settled κs a g h r s x y = one 𝓤 (answered count_of count_settled refl r s)

  pub qv_as_word_settled : Settled 𝓤 qv-as-word.ended (qv-as-word.clauses 𝓛 mem run)
  qv_as_word_settled κs a g h r s x y = two 𝓤 (lent (table_params + 1) x y)

  pub word_width_settled : Settled 𝓤 word_width.ended (word_width.clauses 𝓛 mem run)
  word_width_settled κs a g h r s x y = one 𝓤 (answered count_of count_settled refl r s)

  pub qv_word_width_settled : Settled 𝓤 qv-word-width.ended (qv-word-width.clauses 𝓛 mem run)
  qv_word_width_settled κs a g h r s x y = two 𝓤 (lent 1 x y)

  pub buffer_width_settled : Settled 𝓤 buffer-width.ended (buffer-width.clauses 𝓛 mem run)
  buffer_width_settled κs a g h r s x y = one 𝓤 (answered count_of count_settled refl r s)

  pub qv_buffer_width_settled : Settled 𝓤 qv-buffer-width.ended (qv-buffer-width.clauses 𝓛 mem run)
  qv_buffer_width_settled κs a g h r s x y = two 𝓤 (lent 1 x y)

  pub is_buffer8_settled : Settled 𝓤 is-buffer8.ended (is-buffer8.clauses 𝓛 mem run)
  is_buffer8_settled κs a g h r s x y = one 𝓤 (answered flag_of flag_settled refl r s)

  pub qv_is_buffer8_settled : Settled 𝓤 qv-is-buffer8.ended (qv-is-buffer8.clauses 𝓛 mem run)
  qv_is_buffer8_settled κs a g h r s x y = two 𝓤 (lent (table_params + 2) x y)

  pub is_ctx8_settled : Settled 𝓤 is-ctx8.ended (is-ctx8.clauses 𝓛 mem run)
  is_ctx8_settled κs a g h r s x y = one 𝓤 (answered flag_of flag_settled refl r s)

  pub qv_is_ctx8_settled : Settled 𝓤 qv-is-ctx8.ended (qv-is-ctx8.clauses 𝓛 mem run)
  qv_is_ctx8_settled κs a g h r s x y = two 𝓤 (lent (table_params + 1) x y)
