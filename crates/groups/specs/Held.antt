-- The facts of a node as its group holds them.
--
--   Held                        what is read of a node
use Rattle.std.specs.Prelude.{ℕ, ◌≡◌, ◌==◌, not, get_or}
use Rattle.meaning.specs.Tables.{Facts}
use Rattle.groups.specs.declared.Facts.{Facts as FactsOf}

-- All facts of node n.
pub record Held (f : Facts) (n : ℕ) (r : FactsOf) : Type 0 where
  pub width_is : r.width ≡ get_or f.widths n 0
  pub size_is : r.size ≡ get_or f.sizes n 0
  pub padded_is : r.padded ≡ not (get_or f.paddeds n 0 == 0)
  pub class_is : r.class ≡ get_or f.classes n 0
  pub least_is : r.least ≡ get_or f.leasts n 0
