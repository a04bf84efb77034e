-- The parameters of a table: kinds, lefts, rights, groups and the count. Two contents of which the same is said, one by one, are equal.
--
--   table_params                how many they are, where C hands them one by one; from Rattle a table is one parameter
--   Four four_told four         the four that `read_table` is lent to be written
-- The last over B, what the parameters after them leave. Assumes nothing.
use Prim.Native.Nat.{ℕ}
use mathlib.Core.Path.{◌≡◌}
use mathlib.Core.List.{List}
use seplogic.Ra.Ura.{Ura}
use base.Logic.{ent, sep}
use contract.Monad.{fact}
use Rattle.pairs.proofs.Allowed.{said, also, same}

abbrev pub table_params : ℕ
table_params = 5

abbrev pub Four : Type 0 → Type 0
Four B = List ℕ × (List ℕ × (List ℕ × (List ℕ × B)))

-- What four clauses say.
module _ {M : Type 1} (𝓤 : Ura M) {a b c d : Type 0} where
  pub four_told : ent 𝓤 (sep 𝓤 (fact 𝓤 a) (sep 𝓤 (fact 𝓤 b) (sep 𝓤 (fact 𝓤 c) (fact 𝓤 d)))) (fact 𝓤 (a × (b × (c × d))))
  four_told = also 𝓤 (also 𝓤 (also 𝓤 (said 𝓤)))

-- What is said of each.
abbrev four_are : {B : Type 0} → Four B → List ℕ → List ℕ → List ℕ → List ℕ → Type 0
four_are x kind left right group = (x.0 ≡ kind) × ((x.1.0 ≡ left) × ((x.1.1.0 ≡ right) × (x.1.1.1.0 ≡ group)))

pub four : {B : Type 0} {kind left right group : List ℕ} (x y : Four B) → four_are x kind left right group → four_are y kind left right group
    → x.1.1.1.1 ≡ y.1.1.1.1 → x ≡ y
four x y p q e = λ i.
    (same p.0 q.0 i, (same p.1.0 q.1.0 i, (same p.1.1.0 q.1.1.0 i, (same p.1.1.1 q.1.1.1 i, e i))))
