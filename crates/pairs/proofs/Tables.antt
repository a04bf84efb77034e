-- Each call that makes or checks a table, and its form for C, is settled: any two results that its contract allows are equal, the answer, every
-- column, the groups and the lent count. Assumes nothing.
use mathlib.Core.Path.{refl}
use seplogic.Ra.Ura.{Ura}
use base.Logic.{SProp}
use prog.Memory.{Memory}
use prog.Routine.{Routine}
use types.Logic.{Logic}
use contract.Monad.{Fun}
use Rattle.answers.specs.Verdicts.{done_of}
use Rattle.answers.proofs.Settled.{done_settled, count_settled}
use Rattle.table.specs.contracts.read_table as read_table
use Rattle.table.specs.contracts.fill_facts as fill-facts
use Rattle.table.specs.contracts.check_table as check-table
use Rattle.exports.specs.contracts.qv_read_table as qv-read-table
use Rattle.exports.specs.contracts.qv_fill_facts as qv-fill-facts
use Rattle.exports.specs.contracts.qv_check_table as qv-check-table
use Rattle.pairs.proofs.Allowed.{Settled, settle, also, one, two, rest, skips, same, answered, lent}
use Rattle.pairs.proofs.Columns.{four_told, four}

module _ {M : Type 1} {𝓤 : Ura M} (𝓛 : Logic 𝓤) (mem : Memory → SProp 𝓤) (run : Routine → Fun 𝓤) where
  pub read_table_settled : Settled 𝓤 read_table.ended (read_table.clauses 𝓛 mem run)
  read_table_settled κs a g h r s x y =
      settle 𝓤 (also 𝓤 (four_told 𝓤)) (also 𝓤 (four_told 𝓤)) (λ p q.
      (count_settled r s (same p.0 q.0), skips 1 x y (four (rest 1 x) (rest 1 y) p.1 q.1 refl)))

  pub qv_read_table_settled : Settled 𝓤 qv-read-table.ended (qv-read-table.clauses 𝓛 mem run)
  qv_read_table_settled κs a g h r s x y =
      settle 𝓤 (also 𝓤 (also 𝓤 (four_told 𝓤))) (also 𝓤 (also 𝓤 (four_told 𝓤))) (λ p q.
      (same p.0 q.0, skips 1 x y (four (rest 1 x) (rest 1 y) p.1.1 q.1.1 (λ i. (same p.1.0 q.1.0 i, tt)))))

  pub fill_facts_settled : Settled 𝓤 fill-facts.ended (fill-facts.clauses 𝓛 mem run)
  fill_facts_settled κs a g h r s x y =
      two 𝓤 (λ p q. (done_settled r s (same p.0 q.0), skips 2 x y (λ i. (same p.1 q.1 i, tt))))

  pub qv_fill_facts_settled : Settled 𝓤 qv-fill-facts.ended (qv-fill-facts.clauses 𝓛 mem run)
  qv_fill_facts_settled κs a g h r s x y = two 𝓤 (lent 4 x y)

  pub check_table_settled : Settled 𝓤 check-table.ended (check-table.clauses 𝓛 mem run)
  check_table_settled κs a g h r s x y = one 𝓤 (answered done_of done_settled refl r s)

  pub qv_check_table_settled : Settled 𝓤 qv-check-table.ended (qv-check-table.clauses 𝓛 mem run)
  qv_check_table_settled κs a g h r s x y = one 𝓤 (λ p q. (same p q, refl))
