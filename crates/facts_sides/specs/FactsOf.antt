-- Facts that are those of a node's tree.
--
--   FactsOf                     the facts of a node
use Rattle.std.specs.Prelude.{ℕ, ◌≡◌}
use Rattle.meaning.specs.Types.{width, size, padded, least_length}
use Rattle.meaning.specs.Tables.{Columns, ty_at, class_of}
use Rattle.groups.specs.declared.Facts.{Facts}

-- The facts of node n by its tree.
pub record FactsOf (c : Columns) (n : ℕ) (r : Facts) : Type 0 where
  pub width_is : r.width ≡ width (ty_at c n)
  pub size_is : r.size ≡ size (ty_at c n)
  pub padded_is : r.padded ≡ padded (ty_at c n)
  pub class_is : r.class ≡ class_of c n
  pub least_is : r.least ≡ least_length (ty_at c n)
