-- Where the place of a refusal lies: at 0, or at one of at most 1,024 nodes.
--
--   flat flat_near              rungs whose places are all 0, and a ladder of them
--   node_near                   a ladder that names a node at fault, of few nodes where its first rung fails
--   sound_near                  every ladder that begins with the soundness of a table
--   fill_near                   that of `fill_facts`
-- Assumes nothing.
use Prim.Native.Nat.{ℕ, ◌≤◌}
use mathlib.Core.Path.{◌≡◌, refl}
use mathlib.Core.Bool.{Bool, true, false, not, ◌&&◌}
use mathlib.Core.List.{List, [], ◌∷◌}
use native.Mathlib.Omega.{arith}
use lib.Dec.{eqb, ltb, leb}
use borrow.Author.Tests.{ltb-true, leb-true, eqb-true, not-false}
use Rattle.meaning.specs.Tables.{Columns, Table, count_right, columns_reach, first_bad, first_bad_entry}
use Rattle.meaning.specs.Ladder.{Rung, rung, ladder}
use Rattle.meaning.specs.TypeCalls.{fill_facts_call}
use Rattle.meaning.proofs.Tests.{and_left, and_right}
use Rattle.meaning.proofs.Ladders.{shape_right, shape-right}
use Rattle.exports_answers.specs.Codes.{Near}

-- Every rung's place is 0.
abbrev pub flat : List Rung → Bool
flat [] = true
flat (rung b n p ∷ rs) = eqb p 0 && flat rs

pub flat_near : {A : Type 0} (rs : List Rung) (a : A) → flat rs ≡ true → Near (ladder rs a)
unfolding ladder
flat_near [] a h = record { near = omega arith }
flat_near (rung true n p ∷ rs) a h =
    let z = eqb-true p 0 (and_left (eqb p 0) (flat rs) h) in record { near = omega arith }
flat_near (rung false n p ∷ rs) a h = flat_near rs a (and_right (eqb p 0) (flat rs) h)

-- The rung of a node at fault.
node_rung : {A : Type 0} (fault : Bool) (x n : ℕ) (rs : List Rung) (a : A) → ltb x n ≡ fault → n ≤ 1024 → flat rs ≡ true
    → Near (ladder (rung fault 1 x ∷ rs) a)
unfolding ladder
node_rung true x n rs a e few h = let l = ltb-true x n e in record { near = omega arith }
node_rung false x n rs a e few h = flat_near rs a h

pub node_near : {A : Type 0} (bad : Bool) (x n : ℕ) (rs : List Rung) (a : A) → (bad ≡ false → n ≤ 1024) → flat rs ≡ true
    → Near (ladder (rung bad 1 0 ∷ rung (ltb x n) 1 x ∷ rs) a)
unfolding ladder
node_near true x n rs a few h = record { near = omega arith }
node_near false x n rs a few h = node_rung (ltb x n) x n rs a refl (few refl) h

pub sound_near : {A : Type 0} (t : Table) (rs : List Rung) (a : A) → flat rs ≡ true
    → Near (ladder (rung (not (shape_right t)) 1 0 ∷ rung (ltb (first_bad t) t.count) 1 (first_bad t) ∷ rs) a)
sound_near t rs a h =
    node_near (not (shape_right t)) (first_bad t) t.count rs a (λ e. (shape-right t (not-false (shape_right t) e)).few_nodes) h

pub fill_near : (c : Columns) (n : ℕ) (g : List ℕ) → Near (fill_facts_call c n g)
fill_near c n g = node_near (not (count_right n && columns_reach c n)) (first_bad_entry c n) n _ tt few refl
  where
    few : not (count_right n && columns_reach c n) ≡ false → n ≤ 1024
    few e =
        leb-true n 1024
        (and_right (leb 1 n) (leb n 1024)
        (and_left (count_right n) (columns_reach c n) (not-false (count_right n && columns_reach c n) e)))
