-- Each call of the crate view is settled: any two results that its contract allows are equal. Where the result is a struct its contract speaks of every
-- field, and bytes are equal as references, not in contents alone. Assumes nothing.
use Prim.Native.Nat.{ℕ}
use mathlib.Core.Path.{◌≡◌, refl, sym, ap, ap₂, ◌∙◌}
use mathlib.Core.List.{List}
use seplogic.Ra.Ura.{Ura}
use base.Logic.{SProp}
use prog.Memory.{Memory}
use prog.Routine.{Routine}
use types.Logic.{Logic}
use contract.Monad.{Fun}
use denote.Ref.{Bor}
use Rattle.meaning.specs.RecordCalls as records
use Rattle.meaning.specs.Ladder.{Answer}
use Rattle.answers.specs.declared.Spot.{Spot}
use Rattle.std.specs.Prelude.{Result, Ok, Err, IfOk}
use Rattle.answers.specs.declared.Refusal.{Refusal}
use Rattle.answers.specs.Verdicts.{answer_of, flag_of, spot_of}
use Rattle.answers.proofs.Settled.{answer_settled, flag_settled, spot_settled as seen-settled}
use Rattle.view.specs.declared.View.{View}
use Rattle.view.specs.Views.{place, view_of, views_of}
use Rattle.view.specs.contracts.View.new as new
use Rattle.view.specs.contracts.View.bytes as bytes
use Rattle.view.specs.contracts.View.spot as spot
use Rattle.view.specs.contracts.View.is_unit as is-unit
use Rattle.view.specs.contracts.View.as_left as as-left
use Rattle.view.specs.contracts.View.as_right as as-right
use Rattle.view.specs.contracts.View.as_product as as-product
use Rattle.view.specs.contracts.View.equal as equal
use Rattle.view.specs.contracts.left_spot as left-spot
use Rattle.pairs.proofs.Allowed.{Settled, one, two, same, answered}

-- Two structs of which the same is said, field by field, are equal.
same_view : (v w : View) {bytes : Bor (List ℕ)} {offset node : ℕ}
    → (v.bytes ≡ bytes) × (v.offset ≡ offset) × (v.node ≡ node) → (w.bytes ≡ bytes) × (w.offset ≡ offset) × (w.node ≡ node) → v ≡ w
same_view v w p q = λ i. record { bytes = same p.0 q.0 i; offset = same p.1 q.1 i; node = same p.2 q.2 i }

same_spot : (a b : Spot) {offset node : ℕ} → (a.offset ≡ offset) × (a.node ≡ node) → (b.offset ≡ offset) × (b.node ≡ node) → a ≡ b
same_spot a b p q = λ i. record { offset = same p.0 q.0 i; node = same p.1 q.1 i }

-- A result whose value is told by where it stands.
abbrev told : {A B : Type 0} → (A → B) → Result A Refusal → Result B Refusal
told f (Ok x) = Ok (f x)
told f (Err e) = Err e

told_answer : {A B : Type 0} (f : A → B) (r : Result A Refusal) → answer_of (λ b. b) (told f r) ≡ answer_of f r
told_answer f (Ok x) = refl
told_answer f (Err e) = refl

-- Two results whose values are told alike are told to be the same.
told_alike : {A B : Type 0} (f : A → B) (r s : Result A Refusal) → answer_of f r ≡ answer_of f s → told f r ≡ told f s
told_alike f r s e = answer_settled (λ b. b) (λ b. b) (λ b. refl) (told f r) (told f s) (told_answer f r ∙ e ∙ sym (told_answer f s))

-- Two results are equal if what is said of their values makes those equal.
same_results : {A B : Type 0} (f : A → B) (P : A → Type 0) → ((x y : A) → f x ≡ f y → P x → P y → x ≡ y) → (r s : Result A Refusal) {a : Answer B}
    → IfOk r P × (answer_of f r ≡ a) → IfOk s P × (answer_of f s ≡ a) → r ≡ s
same_results f P h (Ok x) (Ok y) p q = let e = told_alike f (Ok x) (Ok y) (same p.1 q.1) in ap Ok (h x y (cc e) p.0 q.0)
same_results f P h (Ok x) (Err d) p q = let e = told_alike f (Ok x) (Err d) (same p.1 q.1) in cc e
same_results f P h (Err c) (Ok y) p q = let e = told_alike f (Err c) (Ok y) (same p.1 q.1) in cc e
same_results f P h (Err c) (Err d) p q = let e = told_alike f (Err c) (Err d) (same p.1 q.1) in ap Err (cc e)

same_place : (v w : View) {bytes : Bor (List ℕ)} → place v ≡ place w → v.bytes ≡ bytes → w.bytes ≡ bytes → v ≡ w
same_place v w e p q = λ i. record { bytes = same p q i; offset = (e i).offset; node = (e i).node }

same_sub : (bytes : Bor (List ℕ)) (r s : Result View Refusal) {answer : Answer records.Spot}
    → IfOk r (λ v. v.bytes ≡ bytes) × (view_of r ≡ answer) → IfOk s (λ v. v.bytes ≡ bytes) × (view_of s ≡ answer) → r ≡ s
same_sub bytes r s = same_results place (λ v. v.bytes ≡ bytes) (λ v w. same_place v w) r s

abbrev both : View × View → records.Spots
both v = record { first = place v.0; second = place v.1 }

same_subs : (bytes : Bor (List ℕ)) (r s : Result (View × View) Refusal) {answer : Answer records.Spots}
    → IfOk r (λ v. (v.0.bytes ≡ bytes) × (v.1.bytes ≡ bytes)) × (views_of r ≡ answer)
    → IfOk s (λ v. (v.0.bytes ≡ bytes) × (v.1.bytes ≡ bytes)) × (views_of s ≡ answer)
    → r ≡ s
same_subs bytes r s =
    same_results both (λ v. (v.0.bytes ≡ bytes) × (v.1.bytes ≡ bytes))
    (λ v w e p q. ap₂ (λ a b. (a, b)) (same_place v.0 w.0 (ap (λ x. x.first) e) p.0 q.0) (same_place v.1 w.1 (ap (λ x. x.second) e) p.1 q.1)) r s

module _ {M : Type 1} {𝓤 : Ura M} (𝓛 : Logic 𝓤) (mem : Memory → SProp 𝓤) (run : Routine → Fun 𝓤) where
  pub new_settled : Settled 𝓤 new.ended (new.clauses 𝓛 mem run)
  new_settled κs a g h r s x y = one 𝓤 (λ p q. (same_view r s p q, refl))

  pub bytes_settled : Settled 𝓤 bytes.ended (bytes.clauses 𝓛 mem run)
  bytes_settled κs a g h r s x y = one 𝓤 (λ p q. (same p q, refl))

  pub spot_settled : Settled 𝓤 spot.ended (spot.clauses 𝓛 mem run)
  spot_settled κs a g h r s x y = one 𝓤 (λ p q. (same_spot r s p q, refl))

  pub is_unit_settled : Settled 𝓤 is-unit.ended (is-unit.clauses 𝓛 mem run)
  is_unit_settled κs a g h r s x y = one 𝓤 (answered flag_of flag_settled refl r s)

  pub as_left_settled : Settled 𝓤 as-left.ended (as-left.clauses 𝓛 mem run)
  as_left_settled κs a g h r s x y = two 𝓤 (λ p q. (same_sub _ r s p q, refl))

  pub as_right_settled : Settled 𝓤 as-right.ended (as-right.clauses 𝓛 mem run)
  as_right_settled κs a g h r s x y = two 𝓤 (λ p q. (same_sub _ r s p q, refl))

  pub as_product_settled : Settled 𝓤 as-product.ended (as-product.clauses 𝓛 mem run)
  as_product_settled κs a g h r s x y = two 𝓤 (λ p q. (same_subs _ r s p q, refl))

  pub equal_settled : Settled 𝓤 equal.ended (equal.clauses 𝓛 mem run)
  equal_settled κs a g h r s x y = one 𝓤 (answered flag_of flag_settled refl r s)

  pub left_spot_settled : Settled 𝓤 left-spot.ended (left-spot.clauses 𝓛 mem run)
  left_spot_settled κs a g h r s x y = one 𝓤 (answered spot_of seen-settled refl r s)
