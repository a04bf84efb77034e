-- That a call's statement allows one result. A contract is the generated one, so a theorem here is about what the function really promises.
--
--   Settled                     of a contract: any two results that it allows are equal, the answer and every lent buffer
--   said also settle            from what the clauses say of each result to what follows of both
--   one two three               the same for contracts of so many clauses
--   After rest skips            what is left by n parameters that are not lent to be written, and what by those after them
--   same                        two values of which the same is said
--   answered                    an answer, with nothing lent
--   written                     a count, with an output
--   lent                        a result for C, with a number or entries
--   made                        a result for C, with a number and an output
-- Assumes nothing.
use Prim.Native.Nat.{ℕ, zero, suc}
use mathlib.Core.Path.{◌≡◌, sym, ◌∙◌}
use mathlib.Core.List.{List}
use seplogic.Ra.Ura.{Ura}
use base.Logic.{SProp, ent, sep, via, id⊢, fst∗, snd∗}
use contract.Lifetimes.{Lfts}
use contract.Monad.{fact, fact_use, fact_i}
use denote.Triple.Clauses.{Clauses, Ended, Lasts, at_exit}
use denote.Triple.Entry.{Args, Res}
use Rattle.meaning.specs.Ladder.{Answer}
use Rattle.std.specs.Prelude.{Result}
use Rattle.answers.specs.declared.Refusal.{Refusal}
use Rattle.answers.specs.Verdicts.{count_of}
use Rattle.answers.proofs.Settled.{count_settled}

module _ {M : Type 1} (𝓤 : Ura M) where
  -- Wherever the contract allows r with x left in the lent memory, and s with y, on the same arguments: r is s, and x is y. `Lasts` has a
  -- component for each parameter: the last contents of one that is lent to be written, nothing for any other.
  abbrev pub Settled : (T : Ended) → Clauses 𝓤 T → Type 1
  Settled T c =
      (κs : Lfts T.signature.lifetimes) (a : Args T.signature κs) (g h : (c κs a).ghost)
      (r s : Res T.signature κs) (x y : Lasts T κs a)
      → ent 𝓤 (sep 𝓤 ((c κs a).ensures g r (at_exit T κs a x)) ((c κs a).ensures h s (at_exit T κs a y))) (fact 𝓤 ((r ≡ s) × (x ≡ y)))

  -- What one clause says, and what a clause says beside the others.
  pub said : {φ : Type 0} → ent 𝓤 (fact 𝓤 φ) (fact 𝓤 φ)
  said {φ = φ} = id⊢ 𝓤 (fact 𝓤 φ)

  pub also : {φ ψ : Type 0} {P : SProp 𝓤} → ent 𝓤 P (fact 𝓤 ψ) → ent 𝓤 (sep 𝓤 (fact 𝓤 φ) P) (fact 𝓤 (φ × ψ))
  also {φ = φ} {ψ = ψ} {P = P} h =
      let X : SProp 𝓤 = sep 𝓤 (fact 𝓤 φ) P in
      fact_use 𝓤 φ (fst∗ 𝓤 (fact 𝓤 φ) P) (λ p. fact_use 𝓤 ψ (via 𝓤 P (snd∗ 𝓤 (fact 𝓤 φ) P) h) (λ q. fact_i 𝓤 (φ × ψ) X (p, q)))

  -- What follows of both results.
  pub settle : {P Q : SProp 𝓤} {φ ψ χ : Type 0} → ent 𝓤 P (fact 𝓤 φ) → ent 𝓤 Q (fact 𝓤 ψ) → (φ → ψ → χ) → ent 𝓤 (sep 𝓤 P Q) (fact 𝓤 χ)
  settle {P = P} {Q = Q} {φ = φ} {ψ = ψ} {χ = χ} h k f =
      fact_use 𝓤 φ (via 𝓤 P (fst∗ 𝓤 P Q) h) (λ p. fact_use 𝓤 ψ (via 𝓤 Q (snd∗ 𝓤 P Q) k) (λ q. fact_i 𝓤 χ (sep 𝓤 P Q) (f p q)))

  pub one : {φ ψ χ : Type 0} → (φ → ψ → χ) → ent 𝓤 (sep 𝓤 (fact 𝓤 φ) (fact 𝓤 ψ)) (fact 𝓤 χ)
  one f = settle said said f

  pub two : {φ φ' ψ ψ' χ : Type 0} → (φ × φ' → ψ × ψ' → χ)
      → ent 𝓤 (sep 𝓤 (sep 𝓤 (fact 𝓤 φ) (fact 𝓤 φ')) (sep 𝓤 (fact 𝓤 ψ) (fact 𝓤 ψ'))) (fact 𝓤 χ)
  two f = settle (also said) (also said) f

  pub three : {φ φ' φ'' ψ ψ' ψ'' χ : Type 0} → (φ × (φ' × φ'') → ψ × (ψ' × ψ'') → χ)
      → ent 𝓤 (sep 𝓤 (sep 𝓤 (fact 𝓤 φ) (sep 𝓤 (fact 𝓤 φ') (fact 𝓤 φ''))) (sep 𝓤 (fact 𝓤 ψ) (sep 𝓤 (fact 𝓤 ψ') (fact 𝓤 ψ'')))) (fact 𝓤 χ)
  three f = settle (also (also said)) (also (also said)) f

-- Nothing of n parameters, and then B.
abbrev pub After : ℕ → Type 0 → Type 0
After zero B = B
After (suc n) B = Unit {0} × After n B

abbrev pub rest : {B : Type 0} (n : ℕ) → After n B → B
rest zero x = x
rest (suc n) x = rest n x.1

pub skips : {B : Type 0} (n : ℕ) (x y : After n B) → rest n x ≡ rest n y → x ≡ y
skips zero x y e = e
skips (suc n) x y e = λ i. (tt, skips n x.1 y.1 e i)

-- Two values of which the same is said are equal.
pub same : {C : Type 0} {contents b c : C} → b ≡ contents → c ≡ contents → b ≡ c
same p q = p ∙ sym q

-- An answer, with nothing lent: what the calls leave is equal by computation.
pub answered : {R A X : Type 0} (verdict : R → Answer A) → ((a b : R) → verdict a ≡ verdict b → a ≡ b)
    → {answer : Answer A} {x y : X} → x ≡ y → (r s : R) → verdict r ≡ answer → verdict s ≡ answer → (r ≡ s) × (x ≡ y)
answered verdict settled e r s p q = (settled r s (p ∙ sym q), e)

-- A count and an output, before which n parameters stand.
pub written : (n : ℕ) (r s : Result ℕ Refusal) (x y : After n (List ℕ × Unit {0})) {answer : Answer ℕ} {out : List ℕ}
    → (count_of r ≡ answer) × ((rest n x).0 ≡ out) → (count_of s ≡ answer) × ((rest n y).0 ≡ out) → (r ≡ s) × (x ≡ y)
written n r s x y p q = (count_settled r s (p.0 ∙ sym q.0), skips n x y (λ i. (same p.1 q.1 i, tt)))

-- For C: the result and a number or entries, before which n parameters stand.
pub lent : {C D : Type 0} (n : ℕ) (x y : After n (D × Unit {0})) {r s result : C} {held : D}
    → (r ≡ result) × ((rest n x).0 ≡ held) → (s ≡ result) × ((rest n y).0 ≡ held) → (r ≡ s) × (x ≡ y)
lent n x y p q = (same p.0 q.0, skips n x y (λ i. (same p.1 q.1 i, tt)))

-- For C: the result, a number, and an output. Before the number stand n parameters, and m between the two.
pub made : {C : Type 0} (n m : ℕ) (x y : After n (ℕ × After m (List ℕ × Unit {0}))) {r s result : C} {held : ℕ} {out : List ℕ}
    → (r ≡ result) × (((rest n x).0 ≡ held) × ((rest m (rest n x).1).0 ≡ out))
    → (s ≡ result) × (((rest n y).0 ≡ held) × ((rest m (rest n y).1).0 ≡ out)) → (r ≡ s) × (x ≡ y)
made n m x y p q =
    (same p.0 q.0, skips n x y (λ i. (same p.1.0 q.1.0 i, skips m (rest n x).1 (rest n y).1 (λ j. (same p.1.1 q.1.1 j, tt)) i)))
