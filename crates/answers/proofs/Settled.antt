-- A result is settled by the answer that it stands for: each verdict function is injective. So any two results of which a contract
-- says `verdict r ≡ answer` are equal.
--
--   answer_settled              by what the value stands for
--   done_settled count_settled flag_settled sides_settled facts_settled spot_settled spots_settled order_settled
-- Assumes nothing.
use Prim.Native.Nat.{ℕ, zero, suc, Ordering}
use mathlib.Core.Path.{◌≡◌, refl, sym, ◌∙◌, ap, ap₂}
use Rattle.std.specs.Prelude.{Bool, Result, Ok, Err}
use Rattle.std.specs.declared.cmp.Ordering as cmp
use Rattle.std.specs.declared.cmp.Ordering.TheVariants.{Less, Equal, Greater}
use Rattle.meaning.specs.Tables as tables
use Rattle.meaning.specs.TypeCalls as types
use Rattle.meaning.specs.RecordCalls as records
use Rattle.meaning.specs.Ladder.{Answer, refused, accepted}
use Rattle.meaning.proofs.Ladders.{accepted_refused, number_of, place_of}
use Rattle.tables.specs.declared.Kind.{Kind}
use Rattle.tables.specs.Kinds.{kind_no}
use Rattle.answers.specs.declared.Refusal.{Refusal}
use Rattle.answers.specs.declared.Sides.{Sides}
use Rattle.answers.specs.declared.Facts.{Facts}
use Rattle.answers.specs.declared.Spot.{Spot}
use Rattle.answers.specs.Verdicts.{refusal_no, refusal_place, refusal_of, answer_of, done_of, count_of, flag_of, sides, sides_of, node_facts, facts_of, spot, spot_of, spots, spots_of, order, order_of}

-- What was accepted, or a value where nothing was.
abbrev value_of : {A : Type 0} → A → Answer A → A
value_of d (refused n p) = d
value_of d (accepted a) = a

same_accepted : {A : Type 0} (a b : A) → accepted a ≡ accepted b → a ≡ b
same_accepted a b e = ap (value_of a) e

-- The refusal with a number and a place.
with_no : ℕ → ℕ → Refusal
with_no zero p = Refusal.NoRoom
with_no (suc zero) p = Refusal.Unsound p
with_no (suc (suc zero)) p = Refusal.NoSuchNode
with_no (suc (suc (suc zero))) p = Refusal.TooWide
with_no (suc (suc (suc (suc zero)))) p = Refusal.TooLarge
with_no (suc (suc (suc (suc (suc zero))))) p = Refusal.OutOfBytes
with_no (suc (suc (suc (suc (suc (suc zero)))))) p = Refusal.OutOfRange
with_no (suc (suc (suc (suc (suc (suc (suc zero))))))) p = Refusal.WrongShape
with_no (suc (suc (suc (suc (suc (suc (suc (suc zero)))))))) p = Refusal.EndsEarly
with_no (suc (suc (suc (suc (suc (suc (suc (suc (suc n))))))))) p = Refusal.NoRoom

with_its_no : (r : Refusal) → with_no (refusal_no r) (refusal_place r) ≡ r
unfolding with_no
with_its_no (Refusal.Unsound p) = refl
with_its_no Refusal.NoSuchNode = refl
with_its_no Refusal.TooWide = refl
with_its_no Refusal.TooLarge = refl
with_its_no Refusal.OutOfBytes = refl
with_its_no Refusal.OutOfRange = refl
with_its_no Refusal.WrongShape = refl
with_its_no Refusal.EndsEarly = refl
with_its_no Refusal.NoRoom = refl

-- Two refusals with the same number and place are the same.
same_refusal : {A : Type 0} (r s : Refusal) → refusal_of {A = A} r ≡ refusal_of s → r ≡ s
same_refusal r s e = sym (with_its_no r) ∙ ap₂ with_no (ap number_of e) (ap place_of e) ∙ with_its_no s

other : {A : Type 0} {B : Type 0} (a : A) (r : Refusal) → accepted a ≡ refusal_of r → B
other a r e = absurd (accepted_refused a (refusal_no r) (refusal_place r) e)

-- Where a value is had back from what it stands for, so is the result.
pub answer_settled : {T A : Type 0} (f : T → A) (g : A → T) → ((x : T) → g (f x) ≡ x) → (a b : Result T Refusal) → answer_of f a ≡ answer_of f b → a ≡ b
answer_settled f g h (Ok x) (Ok y) e = ap Ok (sym (h x) ∙ ap g (same_accepted (f x) (f y) e) ∙ h y)
answer_settled f g h (Ok x) (Err s) e = other (f x) s e
answer_settled f g h (Err r) (Ok y) e = other (f y) r (sym e)
answer_settled f g h (Err r) (Err s) e = ap Err (same_refusal r s e)

pub done_settled : (a b : Result (Unit {0}) Refusal) → done_of a ≡ done_of b → a ≡ b
done_settled = answer_settled (λ u. tt) (λ u. u) (λ u. refl)

pub count_settled : (a b : Result ℕ Refusal) → count_of a ≡ count_of b → a ≡ b
count_settled = answer_settled (λ n. n) (λ n. n) (λ n. refl)

pub flag_settled : (a b : Result Bool Refusal) → flag_of a ≡ flag_of b → a ≡ b
flag_settled = answer_settled (λ b. b) (λ b. b) (λ b. refl)

-- The declared values, back from what they stand for.
sided : types.Sides → Sides
sided s = record { left = s.left_node; right = s.right_node }

kind_with : ℕ → Kind
kind_with zero = Kind.Unit
kind_with (suc zero) = Kind.Sum
kind_with (suc (suc n)) = Kind.Product

kind_with_its : (k : Kind) → kind_with (kind_no k) ≡ k
unfolding kind_with
kind_with_its Kind.Unit = refl
kind_with_its Kind.Sum = refl
kind_with_its Kind.Product = refl

told : tables.NodeFacts → Facts
told f =
    record {
      width = f.width_of;
      size = f.size_of;
      padded = f.padded_of;
      class = f.class_no;
      kind = kind_with f.kind_of;
      left = f.left_node;
      right = f.right_node;
      least = f.least_of;
    }

told_facts : (f : Facts) → told (node_facts f) ≡ f
unfolding told
told_facts f =
    ap
    (λ k. record { width = f.width; size = f.size; padded = f.padded; class = f.class; kind = k; left = f.left; right = f.right; least = f.least })
    (kind_with_its f.kind)

spotted : records.Spot → Spot
spotted s = record { offset = s.offset; node = s.node }

ordered : Ordering → cmp.Ordering
ordered Ordering.lt = Less
ordered Ordering.eq = Equal
ordered Ordering.gt = Greater

ordered_order : (o : cmp.Ordering) → ordered (order o) ≡ o
unfolding ordered
ordered_order Less = refl
ordered_order Equal = refl
ordered_order Greater = refl

pub sides_settled : (a b : Result Sides Refusal) → sides_of a ≡ sides_of b → a ≡ b
unfolding sided
sides_settled = answer_settled sides sided (λ s. refl)

pub facts_settled : (a b : Result Facts Refusal) → facts_of a ≡ facts_of b → a ≡ b
facts_settled = answer_settled node_facts told told_facts

pub spot_settled : (a b : Result Spot Refusal) → spot_of a ≡ spot_of b → a ≡ b
unfolding spotted
spot_settled = answer_settled spot spotted (λ s. refl)

pub spots_settled : (a b : Result (Spot × Spot) Refusal) → spots_of a ≡ spots_of b → a ≡ b
unfolding spotted
spots_settled = answer_settled spots (λ s. (spotted s.first, spotted s.second)) (λ s. refl)

pub order_settled : (a b : Result cmp.Ordering Refusal) → order_of a ≡ order_of b → a ≡ b
order_settled = answer_settled order ordered ordered_order
