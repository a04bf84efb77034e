-- Laws of the ladder: how a part of it answers for the whole, and what an accepted table is.
--
--   number_of place_of            the number and the place of a refusal
--   same_refusal                a refusal is the same refusal of a call with another kind of value
--   ladder_pass ladder_stop     a first part that accepts hands on to the rest; one that refuses decides
--   ladder_parts                a ladder in two parts accepts where both do
--   ladder_holds                a rung whose fact holds refuses
--   ladder_fails                a rung whose fact fails hands on
--   ladder_clear                an accepted ladder's first rung fails, and the others accept
--   ladder_value                a ladder accepts nothing but its value
--   ladder_any                  one that accepts accepts any other value in its place
--   accepted_refused            an accepted answer is no refusal
--   Shape shape_right           the count and the columns of an accepted table, as facts; the test of them
--   shape-right right_shape     the test passes exactly if they hold
--   sound_shape                 they hold of a sound table
--   bad                         the test that a node is at fault
--   sound_accepted accepted_sound   `check_table` accepts exactly the sound tables
--   present_pass                a call that names nodes of a sound table passes 1 and 2
--   kept_refused kept_accepted  a buffer after a refusal, and after an accepted call
-- Assumes nothing.
use Prim.Native.Nat.{ℕ, ◌≤◌, ◌<◌}
use mathlib.Core.Path.{◌≡◌, refl, ap, ap₂, sym, ◌∙◌}
use mathlib.Core.Bool.{Bool, true, false, not, ◌&&◌, true≢false}
use mathlib.Core.List.{List, [], ◌∷◌, ◌++◌}
use native.Mathlib.Omega.{arith}
use native.Mathlib.Nat.{le_of_eq}
use lib.Dec.{ltb, leb}
use lib.ListN.{length}
use borrow.Author.Tests.{ltb-false, leb-true, le-leb, le-ltb, lt-leb, not-false}
use Rattle.meaning.specs.Choice.{any, least}
use Rattle.meaning.specs.Tables.{Table, count_right, columns_reach, facts_reach, reaches, entry_right, facts_right, first_bad}
use Rattle.meaning.specs.Ladder.{Answer, refused, accepted, Rung, rung, ladder, kept, sound, present}
use Rattle.meaning.specs.Checked.{Sound}
use Rattle.meaning.specs.TypeCalls.{check_table_call}
use Rattle.meaning.proofs.Tests.{and_left, and_right}
use Rattle.meaning.proofs.Choices.{least_before, least_none, In, any_none}

-- What an answer is: a code that tells the two cases apart.
abbrev is_accepted : {A : Type 0} → Answer A → Bool
is_accepted (refused n p) = false
is_accepted (accepted a) = true

pub accepted_refused : {A : Type 0} (a : A) (n p : ℕ) → accepted a ≡ refused n p → ⊥
accepted_refused a n p e = true≢false (ap is_accepted e)

pub ladder_pass : {A B : Type 0} (rs ss : List Rung) (b b' : B) (a : A) → ladder rs b ≡ accepted b' → ladder (rs ++ ss) a ≡ ladder ss a
unfolding ladder
ladder_pass [] ss b b' a h = refl
ladder_pass (rung true n p ∷ rs) ss b b' a h = absurd (accepted_refused b' n p (sym h))
ladder_pass (rung false n p ∷ rs) ss b b' a h = ladder_pass rs ss b b' a h

-- The number and the place of a refusal.
abbrev pub number_of : {A : Type 0} → Answer A → ℕ
number_of (refused n p) = n
number_of (accepted a) = 0

abbrev pub place_of : {A : Type 0} → Answer A → ℕ
place_of (refused n p) = p
place_of (accepted a) = 0

-- A refusal is the same refusal of a call with another kind of value.
pub same_refusal : {A B : Type 0} (m q n p : ℕ) → ◌≡◌ {A = Answer B} (refused m q) (refused n p) → ◌≡◌ {A = Answer A} (refused m q) (refused n p)
same_refusal m q n p e = ap₂ refused (ap number_of e) (ap place_of e)

pub ladder_stop : {A B : Type 0} (rs ss : List Rung) (b : B) (a : A) (n p : ℕ) → ladder rs b ≡ refused n p → ladder (rs ++ ss) a ≡ refused n p
unfolding ladder
ladder_stop [] ss b a n p h = absurd (accepted_refused b n p h)
ladder_stop (rung true m q ∷ rs) ss b a n p h = same_refusal m q n p h
ladder_stop (rung false m q ∷ rs) ss b a n p h = ladder_stop rs ss b a n p h

-- A ladder in two parts accepts where both do.
pub ladder_parts : {A B : Type 0} (rs ss : List Rung) (b : B) (a v : A) → ladder (rs ++ ss) a ≡ accepted v → (ladder rs b ≡ accepted b) × (ladder ss a ≡ accepted v)
unfolding ladder
ladder_parts [] ss b a v h = (refl, h)
ladder_parts (rung true n p ∷ rs) ss b a v h = absurd (accepted_refused v n p (sym h))
ladder_parts (rung false n p ∷ rs) ss b a v h = ladder_parts rs ss b a v h

pub ladder_holds : {A : Type 0} (b : Bool) (n p : ℕ) (rs : List Rung) (a : A) → b ≡ true → ladder (rung b n p ∷ rs) a ≡ refused n p
unfolding ladder
ladder_holds b n p rs a h = ap (λ (x : Bool). ladder (rung x n p ∷ rs) a) h

pub ladder_fails : {A : Type 0} (b : Bool) (n p : ℕ) (rs : List Rung) (a : A) → b ≡ false → ladder (rung b n p ∷ rs) a ≡ ladder rs a
unfolding ladder
ladder_fails b n p rs a h = ap (λ (x : Bool). ladder (rung x n p ∷ rs) a) h

-- What was accepted, or another value.
abbrev value_or : {A : Type 0} → A → Answer A → A
value_or d (refused n p) = d
value_or d (accepted a) = a

pub ladder_value : {A : Type 0} (rs : List Rung) (a v : A) → accepted v ≡ ladder rs a → v ≡ a
unfolding ladder
ladder_value [] a v h = ap (value_or a) h
ladder_value (rung true n p ∷ rs) a v h = absurd (accepted_refused v n p h)
ladder_value (rung false n p ∷ rs) a v h = ladder_value rs a v h

pub ladder_any : {A B : Type 0} (rs : List Rung) (a v : A) (b : B) → ladder rs a ≡ accepted v → ladder rs b ≡ accepted b
unfolding ladder
ladder_any [] a v b h = refl
ladder_any (rung true n p ∷ rs) a v b h = absurd (accepted_refused v n p (sym h))
ladder_any (rung false n p ∷ rs) a v b h = ladder_any rs a v b h

pub kept_refused : {A : Type 0} (a : Answer A) (n p : ℕ) (before after : List ℕ) → a ≡ refused n p → kept a before after ≡ before
kept_refused a n p before after h = ap (λ x. kept x before after) h

pub kept_accepted : {A : Type 0} (a : Answer A) (v : A) (before after : List ℕ) → a ≡ accepted v → kept a before after ≡ after
kept_accepted a v before after h = ap (λ x. kept x before after) h

-- An accepted ladder has no rung that holds.
pub ladder_clear : {A : Type 0} (b : Bool) (n p : ℕ) (rs : List Rung) (a v : A) → ladder (rung b n p ∷ rs) a ≡ accepted v → (b ≡ false) × (ladder rs a ≡ accepted v)
unfolding ladder
ladder_clear true n p rs a v h = absurd (accepted_refused v n p (sym h))
ladder_clear false n p rs a v h = (refl, h)

-- The count and the columns of an accepted table, as facts.
pub record Shape (t : Table) : Type 0 where
  pub some_node : 1 ≤ t.count
  pub few_nodes : t.count ≤ 1024
  pub kinds_reach : t.count ≤ length t.columns.kinds
  pub lefts_reach : t.count ≤ length t.columns.lefts
  pub rights_reach : t.count ≤ length t.columns.rights
  pub widths_reach : t.count ≤ length t.facts.widths
  pub sizes_reach : t.count ≤ length t.facts.sizes
  pub paddeds_reach : t.count ≤ length t.facts.paddeds
  pub classes_reach : t.count ≤ length t.facts.classes
  pub leasts_reach : t.count ≤ length t.facts.leasts

-- The test of count and columns.
abbrev pub shape_right : Table → Bool
shape_right t = count_right t.count && columns_reach t.columns t.count && facts_reach t.facts t.count

pub shape-right : (t : Table) → shape_right t ≡ true → Shape t
shape-right t h =
    let n = t.count in
    let fs = t.facts in
    let cs = t.columns in
    let front = and_left (count_right n && columns_reach cs n) (facts_reach fs n) h in
    let back = and_right (count_right n && columns_reach cs n) (facts_reach fs n) h in
    let c = and_left (count_right n) (columns_reach cs n) front in
    let k = and_right (count_right n) (columns_reach cs n) front in
    let k2 = and_left (reaches n cs.kinds && reaches n cs.lefts) (reaches n cs.rights) k in
    let f4 = and_left (reaches n fs.widths && reaches n fs.sizes && reaches n fs.paddeds && reaches n fs.classes) (reaches n fs.leasts) back in
    let f3 = and_left (reaches n fs.widths && reaches n fs.sizes && reaches n fs.paddeds) (reaches n fs.classes) f4 in
    let f2 = and_left (reaches n fs.widths && reaches n fs.sizes) (reaches n fs.paddeds) f3 in
    record {
      some_node = leb-true 1 n (and_left (leb 1 n) (leb n 1024) c);
      few_nodes = leb-true n 1024 (and_right (leb 1 n) (leb n 1024) c);
      kinds_reach = leb-true n (length cs.kinds) (and_left (reaches n cs.kinds) (reaches n cs.lefts) k2);
      lefts_reach = leb-true n (length cs.lefts) (and_right (reaches n cs.kinds) (reaches n cs.lefts) k2);
      rights_reach = leb-true n (length cs.rights) (and_right (reaches n cs.kinds && reaches n cs.lefts) (reaches n cs.rights) k);
      widths_reach = leb-true n (length fs.widths) (and_left (reaches n fs.widths) (reaches n fs.sizes) f2);
      sizes_reach = leb-true n (length fs.sizes) (and_right (reaches n fs.widths) (reaches n fs.sizes) f2);
      paddeds_reach = leb-true n (length fs.paddeds) (and_right (reaches n fs.widths && reaches n fs.sizes) (reaches n fs.paddeds) f3);
      classes_reach =
          leb-true n (length fs.classes)
          (and_right (reaches n fs.widths && reaches n fs.sizes && reaches n fs.paddeds) (reaches n fs.classes) f4);
      leasts_reach =
          leb-true n (length fs.leasts)
          (and_right (reaches n fs.widths && reaches n fs.sizes && reaches n fs.paddeds && reaches n fs.classes) (reaches n fs.leasts) back);
    }

pub right_shape : (t : Table) → Shape t → shape_right t ≡ true
right_shape t s =
    simp (
      le-leb 1 t.count s.some_node,
      le-leb t.count 1024 s.few_nodes,
      le-leb t.count (length t.columns.kinds) s.kinds_reach,
      le-leb t.count (length t.columns.lefts) s.lefts_reach,
      le-leb t.count (length t.columns.rights) s.rights_reach,
      le-leb t.count (length t.facts.widths) s.widths_reach,
      le-leb t.count (length t.facts.sizes) s.sizes_reach,
      le-leb t.count (length t.facts.paddeds) s.paddeds_reach,
      le-leb t.count (length t.facts.classes) s.classes_reach,
      le-leb t.count (length t.facts.leasts) s.leasts_reach,
    )

-- The test that a node is at fault.
abbrev pub bad : Table → ℕ → Bool
bad t k = not (entry_right t.columns k && facts_right t.columns t.facts k)

pub accepted_sound : (t : Table) → check_table_call t ≡ accepted (tt {0}) → Sound t
unfolding first_bad
accepted_sound t h =
    let first = ladder_clear (not (shape_right t)) 1 0 (rung (ltb (first_bad t) t.count) 1 (first_bad t) ∷ []) tt tt h in
    let second = ladder_clear (ltb (first_bad t) t.count) 1 (first_bad t) [] tt tt first.1 in
    let s = shape-right t (not-false (shape_right t) first.0) in
    let all : t.count ≤ first_bad t = ltb-false (first_bad t) t.count second.0 in
    record {
      some_node = s.some_node;
      few_nodes = s.few_nodes;
      kinds_reach = s.kinds_reach;
      lefts_reach = s.lefts_reach;
      rights_reach = s.rights_reach;
      widths_reach = s.widths_reach;
      sizes_reach = s.sizes_reach;
      paddeds_reach = s.paddeds_reach;
      classes_reach = s.classes_reach;
      leasts_reach = s.leasts_reach;
      entries = λ n l. and_left (entry_right t.columns n) (facts_right t.columns t.facts n) (ok n (omega arith));
      told = λ n l. and_right (entry_right t.columns n) (facts_right t.columns t.facts n) (ok n (omega arith));
    }
  where
    ok : (n : ℕ) → n < first_bad t → (entry_right t.columns n && facts_right t.columns t.facts n) ≡ true
    ok n l = not-false (entry_right t.columns n && facts_right t.columns t.facts n) (least_before (bad t) t.count n l)

pub sound_shape : (t : Table) → Sound t → Shape t
sound_shape t s =
    record {
      some_node = s.some_node;
      few_nodes = s.few_nodes;
      kinds_reach = s.kinds_reach;
      lefts_reach = s.lefts_reach;
      rights_reach = s.rights_reach;
      widths_reach = s.widths_reach;
      sizes_reach = s.sizes_reach;
      paddeds_reach = s.paddeds_reach;
      classes_reach = s.classes_reach;
      leasts_reach = s.leasts_reach;
    }

pub sound_accepted : (t : Table) → Sound t → check_table_call t ≡ accepted (tt {0})
unfolding first_bad ladder
sound_accepted t s =
    simp (
      right_shape t (sound_shape t s),
      le-ltb (least (bad t) t.count) t.count (le_of_eq (sym (least_none (bad t) t.count fine))),
    )
  where
    fine : (k : ℕ) → k < t.count → bad t k ≡ false
    fine k l = rw (s.entries k l, s.told k l)

pub present_pass : (t : Table) → Sound t → (ns : List ℕ) → ((n : ℕ) → In n ns → n < t.count) → {A : Type 0} (rs : List Rung) (a : A)
    → ladder (sound t ++ (present t ns ++ rs)) a ≡ ladder rs a
present_pass t s ns h rs a =
    let missing : ℕ → Bool = λ n. leb t.count n in
    ladder_pass (sound t) (present t ns ++ rs) (tt {0}) (tt {0}) a (sound_accepted t s)
    ∙ ladder_fails (any missing ns) 2 0 rs a (any_none missing ns (λ n i. lt-leb t.count n (h n i)))
