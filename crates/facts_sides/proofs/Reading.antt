-- The facts that a group holds.
--
--   same_digit                  a yes or no is told by its number
--   held_facts                  where the facts of a node are right, what its group holds are those of its tree
-- Assumes nothing.
use Rattle.std.proofs.Common.{ℕ, ◌≡◌, Bool, true, false, not, refl, ◌∙◌, arith, nat_eq}
use Rattle.meaning.specs.Types.{padded}
use Rattle.meaning.specs.Tables.{Columns, Facts, ty_at, facts_right, digit}
use Rattle.meaning.proofs.GroupLaws.{right_holds}
use Rattle.groups.specs.Held.{Held}
use Rattle.groups.specs.declared.Facts.{Facts as Known}
use Rattle.facts_sides.specs.FactsOf.{FactsOf}

pub same_digit : (p q : Bool) → digit p ≡ digit q → p ≡ q
same_digit true true e = refl
same_digit false false e = refl
same_digit true false e = absurd (omega arith)
same_digit false true e = absurd (omega arith)

-- What is read of a digit.
read_digit : (p : Bool) → not (nat_eq (digit p) 0) ≡ p
read_digit true = refl
read_digit false = refl

pub held_facts : (c : Columns) (f : Facts) (n : ℕ) (r : Known) → facts_right c f n ≡ true → Held f n r → FactsOf c n r
held_facts c f n r h a =
    let held = right_holds c f n h in
    record {
      width_is = a.width_is ∙ held.width_held;
      size_is = a.size_is ∙ held.size_held;
      padded_is = a.padded_is ∙ (λ i. not (nat_eq (held.padded_held i) 0)) ∙ read_digit (padded (ty_at c n));
      class_is = a.class_is ∙ held.class_held;
      least_is = a.least_is ∙ held.least_held;
    }
