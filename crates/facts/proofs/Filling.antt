-- A buffer that is filled from the front, a group a node.
--
--   filled_none filled_more     before the first node; after the facts of one more are laid
--   filled_known                filled below n, it holds right facts there
--   filled_length filled_reach  it is as long as before
-- Assumes nothing.
use Prim.Native.Nat.{ℕ, ◌+◌, ◌*◌, ◌≤◌}
use mathlib.Core.Path.{◌≡◌, refl, ap, ◌∙◌}
use mathlib.Core.List.{List}
use native.Mathlib.Omega.{arith}
use lib.ListN.{length}
use lib.Seq.{paste}
use Rattle.meaning.specs.Groups.{group, group_size}
use Rattle.meaning.specs.Tables.{Columns, facts_in, digit}
use Rattle.meaning.specs.TypeCalls.{group_of, groups_of, groups_written}
use Rattle.meaning.proofs.GroupLaws.{length_groups_written, groups_more, written_right}
use Rattle.facts.specs.Known.{FullReach, Known, Fillable}
use Rattle.groups.specs.declared.Facts.{Facts}
use Rattle.facts_sides.specs.FactsOf.{FactsOf}

pub filled_none : (c : Columns) (old : List ℕ) → old ≡ groups_written c 0 old
unfolding groups_of
filled_none c old = refl

module _ (c : Columns) (n : ℕ) (old new : List ℕ) (done : new ≡ groups_written c n old) where
  pub filled_more : (after : List ℕ) (f : Facts) → FactsOf c n f
      → after ≡ paste new (group_size * n) (group f.width f.size (digit f.padded) f.class f.least) group_size
      → after ≡ groups_written c (n + 1) old
  unfolding group_of
  filled_more after f t e =
      let w = t.width_is in
      let s = t.size_is in
      let p = t.padded_is in
      let q = t.class_is in
      let l = t.least_is in
      e ∙ rw (done, w, s, p, q, l) (groups_more c n old)

  module _ (count : ℕ) (h : Fillable c old count) (l : n ≤ count) where
    pub filled_known : Known c (facts_in new) n
    filled_known =
        let r = h.reach.few in
        record {
          entries = λ k g. h.entries k (omega arith);
          facts-right = λ k g. rw done (written_right c n old k g (omega arith));
        }

    pub filled_length : length new ≡ length old
    filled_length = let r = h.reach.groups-reach in ap length done ∙ length_groups_written c n old (omega arith)

    pub filled_reach : FullReach c new count
    filled_reach =
        record {
          few = h.reach.few;
          entries_reach = h.reach.entries_reach;
          groups-reach = let r = h.reach.groups-reach in let e = filled_length in omega arith;
        }
