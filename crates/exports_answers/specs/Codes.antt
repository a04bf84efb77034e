-- How an answer crosses to C: the result is one number, an accepted value goes to memory that the caller lends, and a refusal leaves it alone.
--
--   code                        the result: 0, or number + 256 · place
--   place Near                  the place of an answer; one that leaves room for the number
--   rank                        an order as a number: 0 less, 1 equal, 2 greater
--   stored_as stored stored_flag stored_order   a lent number afterwards
--   roomy                       an answer whose values need lent entries
--   stored_all                  lent entries afterwards
--   facts_list sides_list spot_list spots_list  the values of a group, in their order
use Prim.Native.Nat.{ℕ, ◌+◌, ◌*◌, ◌<◌, Ordering}
use Rattle.std.specs.Prelude.{Bool, cond, List, [], ◌∷◌, ◌++◌, length, drop, ltb}
use Rattle.meaning.specs.Tables.{NodeFacts, digit}
use Rattle.meaning.specs.Ladder.{Answer, refused, accepted}
use Rattle.meaning.specs.TypeCalls.{Sides}
use Rattle.meaning.specs.RecordCalls.{Spot, Spots}

-- The result of a call: 0 if it was accepted, else number and place in one number.
abbrev pub code : {A : Type 0} → Answer A → ℕ
code (refused n p) = n + 256 * p
code (accepted a) = 0

-- The place of a refusal; an accepted answer has none.
abbrev pub place : {A : Type 0} → Answer A → ℕ
place (refused n p) = p
place (accepted a) = 0

-- A place that leaves room for the number in 64 bits. Every place does: it is a node of a table or an offset in a table's file.
pub record Near {A : Type 0} (a : Answer A) : Type 0 where
  pub near : place a < 8192

-- A lent number after a call: the accepted value as a number; a refusal leaves what stood there.
abbrev pub stored_as : {A : Type 0} → (A → ℕ) → Answer A → ℕ → ℕ
stored_as f (refused n p) before = before
stored_as f (accepted a) before = f a

-- After a call whose accepted value is a number.
abbrev pub stored : Answer ℕ → ℕ → ℕ
stored = stored_as (λ n. n)

-- After a call whose accepted value is yes (1) or no (0).
abbrev pub stored_flag : Answer Bool → ℕ → ℕ
stored_flag = stored_as digit

-- An order as a number: 0 less, 1 equal, 2 greater.
abbrev pub rank : Ordering → ℕ
rank Ordering.lt = 0
rank Ordering.eq = 1
rank Ordering.gt = 2

-- After a call whose accepted value is an order.
abbrev pub stored_order : Answer Ordering → ℕ → ℕ
stored_order = stored_as rank

-- An answer whose values go to lent entries: 9 is its last rung, for fewer entries than values.
abbrev pub roomy : {A : Type 0} → (A → List ℕ) → List ℕ → Answer A → Answer A
roomy values lent (refused n p) = refused n p
roomy values lent (accepted a) = cond (ltb (length lent) (length (values a))) (refused 9 0) (accepted a)

-- Lent entries after a call: the values from the front on, later entries as they stood; a refusal leaves all of them.
abbrev pub stored_all : {A : Type 0} → (A → List ℕ) → Answer A → List ℕ → List ℕ
stored_all values (refused n p) lent = lent
stored_all values (accepted a) lent = values a ++ drop (length (values a)) lent

-- The facts of a node: width, size, padded, class, kind, left, right, least length.
abbrev pub facts_list : NodeFacts → List ℕ
facts_list f =
    f.width_of ∷ f.size_of ∷ digit f.padded_of ∷ f.class_no ∷ f.kind_of ∷ f.left_node ∷ f.right_node ∷ f.least_of ∷ []

-- The sides of a node: left, right.
abbrev pub sides_list : Sides → List ℕ
sides_list s = s.left_node ∷ s.right_node ∷ []

-- A view: offset, node.
abbrev pub spot_list : Spot → List ℕ
spot_list s = s.offset ∷ s.node ∷ []

-- Two views, the first before the second.
abbrev pub spots_list : Spots → List ℕ
spots_list s = s.first.offset ∷ s.first.node ∷ s.second.offset ∷ s.second.node ∷ []
