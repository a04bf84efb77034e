-- K9: a call that is handed a table depends on its facts through rung 1 alone, and rung 1 on the facts below the count alone. So two layouts that
-- hold the same facts get the same answer from every such call: `LayoutCalls` has a law a call. `LayoutFacts` says which layouts do.
--
--   SameAt SameFacts            two layouts hold the same facts of a node; of a table, as far as a call looks at them
--   table_with                  a table from its entries, its count and its facts
--   columns-table groups_table  the tables of the two layouts, five columns and groups, are such tables
--   facts_right_same            the same facts of a node are both right or both wrong
--   bad_same                    the first node at fault is the same
--   answers_same                every ladder that begins with rung 1
-- Assumes nothing.
use Prim.Native.Nat.{ℕ, zero, suc, ◌<◌}
use mathlib.Core.Path.{◌≡◌, refl, ap, ap₂, ◌∙◌}
use mathlib.Core.Bool.{Bool, true, false, not, cond, ◌&&◌}
use mathlib.Core.List.{List, ◌∷◌, ◌++◌}
use native.Mathlib.Omega.{arith}
use lib.Dec.{ltb}
use lib.ListN.{get_or}
use Rattle.meaning.specs.Choice.{least}
use Rattle.meaning.specs.Tables.{Columns, Facts, Table, columns, facts, facts_in, table, entry_right, facts_right, count_right, columns_reach, facts_reach, first_bad}
use Rattle.meaning.specs.OldLayout.{columns_table}
use Rattle.meaning.specs.Ladder.{Rung, rung, ladder, sound}

-- The facts of a node are the same in both.
pub record SameAt (f g : Facts) (k : ℕ) : Type 0 where
  pub widths_same : get_or f.widths k 0 ≡ get_or g.widths k 0
  pub sizes_same : get_or f.sizes k 0 ≡ get_or g.sizes k 0
  pub paddeds_same : get_or f.paddeds k 0 ≡ get_or g.paddeds k 0
  pub classes_same : get_or f.classes k 0 ≡ get_or g.classes k 0
  pub leasts_same : get_or f.leasts k 0 ≡ get_or g.leasts k 0

-- Both reach the count or neither does; where they do, they hold the same facts below it.
pub record SameFacts (n : ℕ) (f g : Facts) : Type 0 where
  pub reach_same : facts_reach f n ≡ facts_reach g n
  pub all_same : facts_reach f n ≡ true → (k : ℕ) → k < n → SameAt f g k

-- The table of these columns and this count, its facts in either layout.
abbrev pub table_with : Columns → ℕ → Facts → Table
table_with c n f = record { columns = c; facts = f; count = n }

pub columns-table : (ks ls rs ws ss ps cs ms : List ℕ) (n : ℕ)
    → columns_table ks ls rs ws ss ps cs ms n ≡ table_with (columns ks ls rs) n (facts ws ss ps cs ms)
columns-table ks ls rs ws ss ps cs ms n = refl

pub groups_table : (ks ls rs gs : List ℕ) (n : ℕ) → table ks ls rs gs n ≡ table_with (columns ks ls rs) n (facts_in gs)
groups_table ks ls rs gs n = refl

least_agrees : (p q : ℕ → Bool) (n : ℕ) → ((k : ℕ) → k < n → p k ≡ q k) → least p n ≡ least q n
unfolding least
least_agrees p q zero h = refl
least_agrees p q (suc n) h =
    ap₂ (λ (b : Bool) (m : ℕ). cond b zero (suc m)) (h zero (omega arith)) (least_agrees (λ k. p (suc k)) (λ k. q (suc k)) n (λ k l. h (suc k) (omega arith)))

pub facts_right_same : (c : Columns) (f g : Facts) (k : ℕ) → SameAt f g k → facts_right c f k ≡ facts_right c g k
unfolding facts_right
facts_right_same c f g k s = rw (s.widths_same, s.sizes_same, s.paddeds_same, s.classes_same, s.leasts_same)

module _ (c : Columns) (n : ℕ) (f g : Facts) where
  pub bad_same : ((k : ℕ) → k < n → SameAt f g k) → first_bad (table_with c n f) ≡ first_bad (table_with c n g)
  unfolding first_bad
  bad_same h =
      least_agrees (λ k. not (entry_right c k && facts_right c f k)) (λ k. not (entry_right c k && facts_right c g k)) n
      (λ k l. ap (λ (b : Bool). not (entry_right c k && b)) (facts_right_same c f g k (h k l)))

  -- The two tests of rung 1, with the reach of the facts as x and the first node at fault as m.
  abbrev first : Bool → ℕ → List Rung → List Rung
  first x m rs = rung (not (count_right n && columns_reach c n && x)) 1 0 ∷ rung (ltb m n) 1 m ∷ rs

  -- Where the facts don't reach, no node is looked at.
  short : {A : Type 0} (b : Bool) (m k : ℕ) (rs : List Rung) (a : A)
      → ladder (rung (not (b && false)) 1 0 ∷ rung (ltb m n) 1 m ∷ rs) a ≡ ladder (rung (not (b && false)) 1 0 ∷ rung (ltb k n) 1 k ∷ rs) a
  unfolding ladder
  short true m k rs a = refl
  short false m k rs a = refl

  first_same : {A : Type 0} (x : Bool) (m k : ℕ) (rs : List Rung) (a : A) → (x ≡ true → m ≡ k) → ladder (first x m rs) a ≡ ladder (first x k rs) a
  first_same true m k rs a e = ap (λ (i : ℕ). ladder (first true i rs) a) (e refl)
  first_same false m k rs a e = short (count_right n && columns_reach c n) m k rs a

  pub answers_same : SameFacts n f g → {A : Type 0} (rs : List Rung) (a : A) → ladder (sound (table_with c n f) ++ rs) a ≡ ladder (sound (table_with c n g) ++ rs) a
  answers_same s rs a =
      first_same (facts_reach f n) (first_bad (table_with c n f)) (first_bad (table_with c n g)) rs a (λ e. bad_same (s.all_same e))
      ∙ ap (λ (x : Bool). ladder (first x (first_bad (table_with c n g)) rs) a) s.reach_same
