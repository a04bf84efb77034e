-- The number of each kind of node.
--
--   kind_no        a kind's number
--   Decodes        what a number is read as
use Rattle.std.specs.Prelude.{ℕ, ◌≡◌, ◌<◌, Result, Ok, Err}
use Rattle.tables.specs.declared.Kind.{Kind}
use Rattle.tables.specs.declared.UnknownKind.{UnknownKind}

-- 0 unit, 1 sum, 2 product.
abbrev pub kind_no : Kind → ℕ
kind_no Kind.Unit = 0
kind_no Kind.Sum = 1
kind_no Kind.Product = 2

-- A number is read as the kind that has it. No kind has a number above 2.
abbrev pub Decodes : ℕ → Result Kind UnknownKind → Type 0
Decodes n (Ok k) = kind_no k ≡ n
Decodes n (Err e) = 2 < n
