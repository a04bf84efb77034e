-- Each word from records or from a stream, and its form for C, is settled: any two results that its contract allows are equal, the answer, the
-- lent number and the output.
-- The numbers in a proof count parameters: those before the output or the lent number, and those between the lent number and the output.
-- Assumes nothing.
use Prim.Native.Nat.{◌+◌}
use seplogic.Ra.Ura.{Ura}
use base.Logic.{SProp}
use prog.Memory.{Memory}
use prog.Routine.{Routine}
use types.Logic.{Logic}
use contract.Monad.{Fun}
use Rattle.words.specs.contracts.word_product as word-product
use Rattle.words.specs.contracts.word_from_bits as word-from-bits
use Rattle.exports.specs.contracts.qv_word_product as qv-word-product
use Rattle.exports.specs.contracts.qv_word_from_bits as qv-word-from-bits
use Rattle.pairs.proofs.Allowed.{Settled, two, three, written, made}
use Rattle.pairs.proofs.Columns.{table_params}

module _ {M : Type 1} {𝓤 : Ura M} (𝓛 : Logic 𝓤) (mem : Memory → SProp 𝓤) (run : Routine → Fun 𝓤) where
  pub word_product_settled : Settled 𝓤 word-product.ended (word-product.clauses 𝓛 mem run)
  word_product_settled κs a g h r s x y = two 𝓤 (written (1 + 7) r s x y)

  pub qv_word_product_settled : Settled 𝓤 qv-word-product.ended (qv-word-product.clauses 𝓛 mem run)
  qv_word_product_settled κs a g h r s x y = three 𝓤 (made (table_params + 7) 0 x y)

  pub word_from_bits_settled : Settled 𝓤 word-from-bits.ended (word-from-bits.clauses 𝓛 mem run)
  word_from_bits_settled κs a g h r s x y = two 𝓤 (written (1 + 5) r s x y)

  pub qv_word_from_bits_settled : Settled 𝓤 qv-word-from-bits.ended (qv-word-from-bits.clauses 𝓛 mem run)
  qv_word_from_bits_settled κs a g h r s x y = three 𝓤 (made (table_params + 2) 2 x y)
