-- How a question about types is answered: the table and the named nodes first, then its own rungs.
--
--   judged                      the rungs 1 and 2
--   not_sound missing there     how they answer of one node
--   first_stop second_missing both_there    and of two, by the answer of the first
--   asks_stop asks_pass         their refusal is the question's; past them its own rungs decide
--   answered                    past them a question without rungs of its own has its answer
--   own_holds own_passes        a question's one rung of its own
--   asks_swapped                two nodes, asked the other way round
-- Assumes nothing.
use Prim.Native.Nat.{ℕ, ◌<◌, ◌≤◌}
use mathlib.Core.Path.{◌≡◌, refl, ap, sym, ◌∙◌}
use mathlib.Core.Bool.{Bool, true, false, not, ◌||◌}
use mathlib.Core.List.{List, [], ◌∷◌, ◌++◌}
use lib.Dec.{leb}
use borrow.Author.Tests.{le-leb, lt-leb}
use Rattle.meaning.specs.Tables.{Table}
use Rattle.meaning.specs.Ladder.{Answer, refused, accepted, Rung, rung, ladder, sound, present}
use Rattle.meaning.specs.TypeCalls.{check_table_call, asks}
use Rattle.meaning.proofs.Tests.{or_inl, or_none}
use Rattle.meaning.proofs.Ladders.{ladder_pass, ladder_stop, ladder_holds, ladder_fails}

-- The rungs 1 and 2 of some nodes.
abbrev pub judged : Table → List ℕ → Answer (Unit {0})
judged t ns = asks t ns [] (tt {0})

-- A node that isn't in the table, or is.
gone : (t : Table) (n : ℕ) → t.count ≤ n → (leb t.count n || false) ≡ true
gone t n m = or_inl (leb t.count n) false (le-leb t.count n m)

here : (t : Table) (n : ℕ) → n < t.count → (leb t.count n || false) ≡ false
here t n m = or_none (leb t.count n) false (lt-leb t.count n m) refl

module _ (t : Table) (n : ℕ) where
  pub not_sound : (m p : ℕ) → refused m p ≡ check_table_call t → refused m p ≡ judged t (n ∷ [])
  not_sound m p h = sym (ladder_stop (sound t) (present t (n ∷ [])) (tt {0}) (tt {0}) m p (sym h))

  after_sound : accepted (tt {0}) ≡ check_table_call t → judged t (n ∷ []) ≡ ladder (present t (n ∷ [])) (tt {0})
  after_sound h = ladder_pass (sound t) (present t (n ∷ [])) (tt {0}) (tt {0}) (tt {0}) (sym h)

  pub missing : accepted (tt {0}) ≡ check_table_call t → t.count ≤ n → refused 2 0 ≡ judged t (n ∷ [])
  missing h m = sym (after_sound h ∙ ladder_holds (leb t.count n || false) 2 0 [] (tt {0}) (gone t n m))

  pub there : accepted (tt {0}) ≡ check_table_call t → n < t.count → accepted (tt {0}) ≡ judged t (n ∷ [])
  unfolding ladder
  there h m = sym (after_sound h ∙ ladder_fails (leb t.count n || false) 2 0 [] (tt {0}) (here t n m))

-- A rung for two tests does what a rung for each does.
apart : (rs : List Rung) (x y : Bool)
    → ladder (rs ++ (rung (x || y) 2 0 ∷ [])) (tt {0}) ≡ ladder (rs ++ (rung (x || false) 2 0 ∷ rung y 2 0 ∷ [])) (tt {0})
unfolding ladder
apart [] true y = refl
apart [] false y = refl
apart (rung true n p ∷ rs) x y = refl
apart (rung false n p ∷ rs) x y = apart rs x y

module _ (t : Table) (a b : ℕ) where
  -- The rungs of the first node, and those of the second.
  each : judged t (a ∷ b ∷ []) ≡ ladder ((sound t ++ present t (a ∷ [])) ++ present t (b ∷ [])) (tt {0})
  each = apart (sound t) (leb t.count a) (leb t.count b || false)

  pub first_stop : (m p : ℕ) → refused m p ≡ judged t (a ∷ []) → refused m p ≡ judged t (a ∷ b ∷ [])
  first_stop m p h = sym (each ∙ ladder_stop (sound t ++ present t (a ∷ [])) (present t (b ∷ [])) (tt {0}) (tt {0}) m p (sym h))

  after_first_lem : accepted (tt {0}) ≡ judged t (a ∷ []) → judged t (a ∷ b ∷ []) ≡ ladder (present t (b ∷ [])) (tt {0})
  after_first_lem h = each ∙ ladder_pass (sound t ++ present t (a ∷ [])) (present t (b ∷ [])) (tt {0}) (tt {0}) (tt {0}) (sym h)

  pub second_missing : accepted (tt {0}) ≡ judged t (a ∷ []) → t.count ≤ b → refused 2 0 ≡ judged t (a ∷ b ∷ [])
  second_missing h m = sym (after_first_lem h ∙ ladder_holds (leb t.count b || false) 2 0 [] (tt {0}) (gone t b m))

  pub both_there : accepted (tt {0}) ≡ judged t (a ∷ []) → b < t.count → accepted (tt {0}) ≡ judged t (a ∷ b ∷ [])
  unfolding ladder
  both_there h m = sym (after_first_lem h ∙ ladder_fails (leb t.count b || false) 2 0 [] (tt {0}) (here t b m))

-- A question about nodes, with its own rungs and its answer.
module _ {A : Type 0} (t : Table) (ns : List ℕ) (own : List Rung) (v : A) where
  pub asks_stop : (n p : ℕ) → refused n p ≡ judged t ns → refused n p ≡ asks t ns own v
  asks_stop n p h = sym (ladder_stop (sound t ++ present t ns) own (tt {0}) v n p (sym h))

  pub asks_pass : accepted (tt {0}) ≡ judged t ns → ladder own v ≡ asks t ns own v
  asks_pass h = sym (ladder_pass (sound t ++ present t ns) own (tt {0}) (tt {0}) v (sym h))

-- A question without rungs of its own.
pub answered : {A : Type 0} (t : Table) (ns : List ℕ) (v w : A) → accepted (tt {0}) ≡ judged t ns → w ≡ v → accepted w ≡ asks t ns [] v
unfolding ladder
answered t ns v w h e = ap accepted e ∙ asks_pass t ns [] v h

-- One rung of its own.
module _ {A : Type 0} (right : Bool) (m : ℕ) (v : A) where
  pub own_holds : right ≡ false → refused m 0 ≡ ladder (rung (not right) m 0 ∷ []) v
  own_holds h = sym (ladder_holds (not right) m 0 [] v (ap not h))

  pub own_passes : right ≡ true → (w : A) → w ≡ v → accepted w ≡ ladder (rung (not right) m 0 ∷ []) v
  unfolding ladder
  own_passes h w e = ap accepted e ∙ sym (ladder_fails (not right) m 0 [] v (ap not h))

-- Two nodes, asked the other way round.
pub asks_swapped : {A : Type 0} (t : Table) (a b : ℕ) (v w : A) → v ≡ w → asks t (b ∷ a ∷ []) [] v ≡ asks t (a ∷ b ∷ []) [] w
asks_swapped t a b v w e = λ i. ladder (sound t ++ (rung (swap (leb t.count b) (leb t.count a) i) 2 0 ∷ [])) (e i)
  where
    swap : (x y : Bool) → (x || (y || false)) ≡ (y || (x || false))
    swap true true = refl
    swap true false = refl
    swap false true = refl
    swap false false = refl
