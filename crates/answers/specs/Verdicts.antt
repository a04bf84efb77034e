-- Which answer each result stands for: the number and place of a refusal, or what was accepted.
--
--   refusal_no refusal_place refusal_of         a refusal's number and place
--   node_facts sides spot spots order   the facts of a node, its sides, a place that a view shows, two places, and an order, as the definitions
--                               have them
--   answer_of                   the answer that a result stands for, by what its value stands for
--   done_of count_of flag_of sides_of facts_of spot_of spots_of order_of     the answers: done, a number, yes or no, two sides, the facts of a node,
--                               one place, two places, an order
use Prim.Native.Nat.{ℕ, Ordering}
use Rattle.std.specs.Prelude.{Bool, Result, Ok, Err}
use Rattle.std.specs.declared.cmp.Ordering as cmp
use Rattle.std.specs.declared.cmp.Ordering.TheVariants.{Less, Equal, Greater}
use Rattle.meaning.specs.Tables as tables
use Rattle.meaning.specs.Ladder.{Answer, refused, accepted}
use Rattle.meaning.specs.TypeCalls as types
use Rattle.meaning.specs.RecordCalls as records
use Rattle.tables.specs.Kinds.{kind_no}
use Rattle.answers.specs.declared.Refusal.{Refusal}
use Rattle.answers.specs.declared.Sides.{Sides}
use Rattle.answers.specs.declared.Facts.{Facts}
use Rattle.answers.specs.declared.Spot.{Spot}

-- A refusal's number.
abbrev pub refusal_no : Refusal → ℕ
refusal_no (Refusal.Unsound p) = 1
refusal_no Refusal.NoSuchNode = 2
refusal_no Refusal.TooWide = 3
refusal_no Refusal.TooLarge = 4
refusal_no Refusal.OutOfBytes = 5
refusal_no Refusal.OutOfRange = 6
refusal_no Refusal.WrongShape = 7
refusal_no Refusal.EndsEarly = 8
refusal_no Refusal.NoRoom = 9

-- A refusal's place: only the first names another than 0.
abbrev pub refusal_place : Refusal → ℕ
refusal_place (Refusal.Unsound p) = p
refusal_place Refusal.NoSuchNode = 0
refusal_place Refusal.TooWide = 0
refusal_place Refusal.TooLarge = 0
refusal_place Refusal.OutOfBytes = 0
refusal_place Refusal.OutOfRange = 0
refusal_place Refusal.WrongShape = 0
refusal_place Refusal.EndsEarly = 0
refusal_place Refusal.NoRoom = 0

-- A refusal with its number and place.
abbrev pub refusal_of : {A : Type 0} → Refusal → Answer A
refusal_of r = refused (refusal_no r) (refusal_place r)

-- The answer that a result stands for, by what its value stands for.
abbrev pub answer_of : {T A : Type 0} → (T → A) → Result T Refusal → Answer A
answer_of f (Ok x) = accepted (f x)
answer_of f (Err r) = refusal_of r

-- Of any value: whether it was accepted.
abbrev pub done_of : {T : Type 0} → Result T Refusal → Answer (Unit {0})
done_of r = answer_of (λ x. tt) r

abbrev pub count_of : Result ℕ Refusal → Answer ℕ
count_of r = answer_of (λ n. n) r

abbrev pub flag_of : Result Bool Refusal → Answer Bool
flag_of r = answer_of (λ b. b) r

abbrev pub sides : Sides → types.Sides
sides s = record { left_node = s.left; right_node = s.right }

abbrev pub sides_of : Result Sides Refusal → Answer types.Sides
sides_of r = answer_of sides r

abbrev pub node_facts : Facts → tables.NodeFacts
node_facts f =
    record {
      width_of = f.width;
      size_of = f.size;
      padded_of = f.padded;
      class_no = f.class;
      kind_of = kind_no f.kind;
      left_node = f.left;
      right_node = f.right;
      least_of = f.least;
    }

abbrev pub facts_of : Result Facts Refusal → Answer tables.NodeFacts
facts_of r = answer_of node_facts r

abbrev pub spot : Spot → records.Spot
spot s = record { offset = s.offset; node = s.node }

abbrev pub spot_of : Result Spot Refusal → Answer records.Spot
spot_of r = answer_of spot r

abbrev pub spots : Spot × Spot → records.Spots
spots s = record { first = spot s.0; second = spot s.1 }

abbrev pub spots_of : Result (Spot × Spot) Refusal → Answer records.Spots
spots_of r = answer_of spots r

abbrev pub order : cmp.Ordering → Ordering
order Less = Ordering.lt
order Equal = Ordering.eq
order Greater = Ordering.gt

abbrev pub order_of : Result cmp.Ordering Refusal → Answer Ordering
order_of r = answer_of order r
