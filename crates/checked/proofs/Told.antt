-- A question about a node whose facts are told by `facts_of`.
--
--   told_stop                   a refusal to tell the facts of a node is a question's about that node
--   OwnFacts own_facts          where they are told, the facts are the node's own, and the node is in a sound table
--   told_pass told_answered     and the question's own rungs decide
-- Assumes nothing.
use Prim.Native.Nat.{ℕ}
use mathlib.Core.Path.{◌≡◌, refl, ap, sym, ◌∙◌}
use mathlib.Core.List.{List, [], ◌∷◌, ◌++◌}
use Rattle.meaning.specs.Tables.{Table, NodeFacts, facts_at}
use Rattle.meaning.specs.Ladder.{refused, accepted, Rung, ladder, sound, present}
use Rattle.meaning.specs.TypeCalls.{asks, facts_of_call}
use Rattle.meaning.proofs.Ladders.{ladder_pass, ladder_stop, ladder_value}
use Rattle.checked.specs.Passed.{Present}
use Rattle.checked.proofs.Passed.{asked_passed}

-- The facts are those of a node of a sound table.
pub record OwnFacts (t : Table) (n : ℕ) (f : NodeFacts) : Type 0 where
  pub facts_are : f ≡ facts_at t.columns n
  pub of_node : Present t n

module _ (t : Table) (n : ℕ) where
  pub told_stop : {A : Type 0} (own : List Rung) (v : A) (m p : ℕ) → refused m p ≡ facts_of_call t n → refused m p ≡ asks t (n ∷ []) own v
  told_stop own v m p h = sym (ladder_stop (sound t ++ present t (n ∷ [])) own (facts_at t.columns n) v m p (sym h))

  module _ {f : NodeFacts} (h : accepted f ≡ facts_of_call t n) where
    pub told_pass : {A : Type 0} (own : List Rung) (v : A) → ladder own v ≡ asks t (n ∷ []) own v
    told_pass own v = sym (ladder_pass (sound t ++ present t (n ∷ [])) own (facts_at t.columns n) f v (sym h))

    pub told_answered : {A : Type 0} (v w : A) → w ≡ v → accepted w ≡ asks t (n ∷ []) [] v
    unfolding ladder
    told_answered v w e = ap accepted e ∙ told_pass [] v

    pub own_facts : OwnFacts t n f
    own_facts =
        record {
          facts_are = ladder_value (sound t ++ present t (n ∷ [])) (facts_at t.columns n) f h;
          of_node = (asked_passed t (n ∷ []) (sym (told_answered (tt {0}) (tt {0}) refl))).1.0;
        }
