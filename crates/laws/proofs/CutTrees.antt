-- The tree that the tags of a record spell, and the cut of a tree: what a cut does to tags, with no padding and no source type in sight.
--
--   Tree                            what a record says: nothing, a tag with what its payload says, or both parts
--   walk                            the tree of a record
--   walk_tag walk_wrapped walk_pair the tree of a sum whose tag is known, of a record made of its payload, of one made of its parts
--   walk_compact compact_walk       records of a type have the same tree exactly if they have the same compact bits
--   Kept                            the cut of a tree to a target
--   kept_walk                       a tree is kept whole by its own type
--   kept_kept                       a cut of a cut is a cut
--   kept_once                       a tree has at most one cut to a target
-- Assumes nothing.
use mathlib.Core.Path.{◌≡◌, refl, ap, ap₂, sym, ◌∙◌}
use mathlib.Core.Bool.{Bool, true, false, cond}
use mathlib.Core.List.{List, [], ◌∷◌, ◌++◌}
use lib.ListN.{length}
use lib.Seq.{take_at, drop_at}
use Rattle.meaning.specs.Types.{Ty, unit, sum, prod, bits}
use Rattle.meaning.specs.Records.{tag, left_of, right_of, first_of, second_of, in_left, in_right, compact, plain}
use Rattle.laws.proofs.RecordParts.{left_of_in_left, right_of_in_right}
use Rattle.laws.proofs.RecordPlain.{plain_length}
use Rattle.laws.proofs.RecordPrefixes.{compact_settles_plain}
use Rattle.laws.proofs.CutSides.{side, within, wrapped}

-- What a record says, without padding.
pub data Tree : Type 0 where
  nothing : Tree
  tagged : Bool → Tree → Tree
  both : Tree → Tree → Tree

-- The tree of a record.
unfoldable pub walk : Ty → List Bool → Tree
walk unit v = nothing
walk (sum a b) v = cond (tag v) (tagged true (walk b (right_of a b v))) (tagged false (walk a (left_of a b v)))
walk (prod a b) v = both (walk a (first_of a v)) (walk b (second_of a v))

pub walk_tag : (g : Bool) (a b : Ty) (v : List Bool) → tag v ≡ g → walk (sum a b) v ≡ tagged g (walk (side g a b) (within g a b v))
unfolding walk
walk_tag true a b v e = rw e
walk_tag false a b v e = rw e

pub walk_wrapped : (g : Bool) (a b : Ty) (p : List Bool) → walk (sum a b) (wrapped g a b p) ≡ tagged g (walk (side g a b) p)
unfolding walk
walk_wrapped true a b p = ap (λ q. tagged true (walk b q)) (right_of_in_right a b p)
walk_wrapped false a b p = ap (λ q. tagged false (walk a q)) (left_of_in_left a b p)

pub walk_pair : (a b : Ty) (v w : List Bool) → length v ≡ bits a → walk (prod a b) (v ++ w) ≡ both (walk a v) (walk b w)
unfolding walk
walk_pair a b v w h = rw (take_at v w (bits a) h, drop_at v w (bits a) h)

-- The compact bits of a tree.
tags : Tree → List Bool
tags nothing = []
tags (tagged g s) = g ∷ tags s
tags (both s r) = tags s ++ tags r

tags_walk : (t : Ty) (v : List Bool) → tags (walk t v) ≡ compact t v
unfolding compact walk tags
tags_walk unit v = refl
tags_walk (sum a b) v =
    let right = right_of a b v in
    let left = left_of a b v in
    elim (tag v)
    as (λ g. tags (cond g (tagged true (walk b right)) (tagged false (walk a left)))
    ≡ cond g (true ∷ compact b right) (false ∷ compact a left)) [
      | true ↦ rw (tags_walk b right)
      | false ↦ rw (tags_walk a left)
    ]
tags_walk (prod a b) v = ap₂ ◌++◌ (tags_walk a (first_of a v)) (tags_walk b (second_of a v))

pub compact_walk : (t : Ty) (v w : List Bool) → walk t v ≡ walk t w → compact t v ≡ compact t w
compact_walk t v w e = sym (tags_walk t v) ∙ ap tags e ∙ tags_walk t w

-- The tree takes no notice of padding.
walk_plain : (t : Ty) (v : List Bool) → walk t (plain t v) ≡ walk t v
unfolding plain walk
walk_plain unit v = refl
walk_plain (sum a b) v =
    let right = right_of a b v in
    let left = left_of a b v in
    elim (tag v)
    as (λ g. walk (sum a b) (cond g (in_right a b (plain b right)) (in_left a b (plain a left)))
    ≡ cond g (tagged true (walk b right)) (tagged false (walk a left))) [
      | true ↦ walk_wrapped true a b (plain b right) ∙ ap (tagged true) (walk_plain b right)
      | false ↦ walk_wrapped false a b (plain a left) ∙ ap (tagged false) (walk_plain a left)
    ]
walk_plain (prod a b) v =
    walk_pair a b (plain a (first_of a v)) (plain b (second_of a v)) (plain_length a (first_of a v))
    ∙ ap₂ both (walk_plain a (first_of a v)) (walk_plain b (second_of a v))

pub walk_compact : (t : Ty) (v w : List Bool) → compact t v ≡ compact t w → walk t v ≡ walk t w
walk_compact t v w e = sym (walk_plain t v) ∙ ap (walk t) ((compact_settles_plain t v w).0 e) ∙ walk_plain t w

-- Kept a s u: the cut of the tree s to the target a is u. Unit keeps nothing, a sum its tag with the payload cut, a product both parts cut.
pub data Kept : Ty → Tree → Tree → Type 0 where
  at_unit : {s : Tree} → Kept unit s nothing
  at_tag : {g : Bool} {a b : Ty} {s u : Tree} → Kept (side g a b) s u → Kept (sum a b) (tagged g s) (tagged g u)
  at_both : {a b : Ty} {s r u w : Tree} → Kept a s u → Kept b r w → Kept (prod a b) (both s r) (both u w)

pub kept_walk : (t : Ty) (v : List Bool) → Kept t (walk t v) (walk t v)
unfolding walk
kept_walk unit v = at_unit
kept_walk (sum a b) v =
    let right = walk b (right_of a b v) in
    let left = walk a (left_of a b v) in
    elim (tag v) as (λ g. Kept (sum a b) (cond g (tagged true right) (tagged false left)) (cond g (tagged true right) (tagged false left))) [
      | true ↦ at_tag (kept_walk b (right_of a b v))
      | false ↦ at_tag (kept_walk a (left_of a b v))
    ]
kept_walk (prod a b) v = at_both (kept_walk a (first_of a v)) (kept_walk b (second_of a v))

pub kept_kept : {a b : Ty} {s u r : Tree} → Kept a s u → Kept b u r → Kept b s r
kept_kept k at_unit = at_unit
kept_kept (at_tag k) (at_tag q) = at_tag (kept_kept k q)
kept_kept (at_both k l) (at_both q r) = at_both (kept_kept k q) (kept_kept l r)

pub kept_once : {a : Ty} {s u r : Tree} → Kept a s u → Kept a s r → u ≡ r
kept_once at_unit at_unit = refl
kept_once (at_tag {g} k) (at_tag q) = ap (tagged g) (kept_once k q)
kept_once (at_both k l) (at_both q r) = ap₂ both (kept_once k q) (kept_once l r)
