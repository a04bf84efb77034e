-- The laws of pruning, over types and bits; `cut target type v` cuts the record v of a type to a target.
--
--   length_cut                      the result is a record of the target type
--   cut_cut                         demand 3: a cut of a cut is a cut
--   cut_cut_compact cut_cut_padded  its two halves
--   compact_cut                     the compact bits of a cut are determined by the record's compact bits
--   cut_plain                       a cut of a record with zero padding has zero padding
--   cut_refused                     whether a cut is refused depends on tags alone
-- Assumes nothing.
use mathlib.Core.Path.{◌≡◌, refl, ap, sym, ◌∙◌, subst}
use mathlib.Core.Bool.{Bool}
use mathlib.Core.List.{List}
use mathlib.Core.Option.{Option, none, some, none-ne-some}
use mathlib.Core.Logic.{◌↔◌}
use lib.ListN.{length}
use Rattle.meaning.specs.Types.{Ty, bits}
use Rattle.meaning.specs.Records.{compact, plain}
use Rattle.meaning.specs.Cuts.{cut}
use Rattle.laws.proofs.RecordPlain.{plain_length}
use Rattle.laws.proofs.RecordPrefixes.{compact_settles_plain}
use Rattle.laws.proofs.CutTrees.{walk, walk_compact, compact_walk, Kept, kept_kept}
use Rattle.laws.proofs.CutJudged.{cutting, accepted_cut}

pub length_cut : (a t : Ty) (v w : List Bool) → length v ≡ bits t → cut a t v ≡ some w → length w ≡ bits a
length_cut a t v w h e = (cutting a t v w h e).wide

-- A record with zero padding has its width.
plain_wide : (t : Ty) (v : List Bool) → plain t v ≡ v → length v ≡ bits t
plain_wide t v z = sym (ap length z) ∙ plain_length t v

pub cut_plain : (a t : Ty) (v x : List Bool) → plain t v ≡ v → cut a t v ≡ some x → plain a x ≡ x
cut_plain a t v x z e = (cutting a t v x (plain_wide t v z) e).clear z

-- A record cut to a, and what came of it to b; the record cut straight to b: accepted, with the same compact bits, and with the same
-- padded bits too if its padding is all zero.
pub cut_cut : (b a t : Ty) (v x y : List Bool) → length v ≡ bits t → cut a t v ≡ some x → cut b a x ≡ some y →
    (z : List Bool) × (cut b t v ≡ some z) × (compact b z ≡ compact b y) × (plain t v ≡ v → z ≡ y)
cut_cut b a t v x y h p q =
    let k = cutting a t v x h p in
    let l = cutting b a x y k.wide q in
    let r = accepted_cut b t v (walk b y) h (kept_kept k.kept l.kept) in
    let c = compact_walk b r.0 y r.2 in
    (r.0, r.1, c, λ z. sym (cut_plain b t v r.0 z r.1) ∙ (compact_settles_plain b r.0 y).0 c ∙ l.clear (k.clear z))

pub cut_cut_compact : (b a t : Ty) (v x y : List Bool) → length v ≡ bits t → cut a t v ≡ some x → cut b a x ≡ some y →
    (z : List Bool) × (cut b t v ≡ some z) × (compact b z ≡ compact b y)
cut_cut_compact b a t v x y h p q = let r = cut_cut b a t v x y h p q in (r.0, r.1, r.2)

pub cut_cut_padded : (b a t : Ty) (v x y : List Bool) → plain t v ≡ v → cut a t v ≡ some x → cut b a x ≡ some y →
    cut b t v ≡ some y
cut_cut_padded b a t v x y z p q = let r = cut_cut b a t v x y (plain_wide t v z) p q in r.1 ∙ ap some (r.3 z)

pub compact_cut : (a t : Ty) (v w x : List Bool) → length v ≡ bits t → length w ≡ bits t → compact t v ≡ compact t w →
    cut a t v ≡ some x → (y : List Bool) × (cut a t w ≡ some y) × (compact a y ≡ compact a x)
compact_cut a t v w x h h' c e =
    let r = accepted_cut a t w (walk a x) h' (subst (λ s. Kept a s (walk a x)) (walk_compact t v w c) (cutting a t v x h e).kept) in
    (r.0, r.1, compact_walk a r.0 x r.2)

-- One direction of `cut_refused`.
refused_too : (a t : Ty) (v w : List Bool) → length v ≡ bits t → length w ≡ bits t → compact t v ≡ compact t w →
    cut a t v ≡ none → cut a t w ≡ none
refused_too a t v w h h' c e = go (cut a t w) refl
  where
    go : (o : Option (List Bool)) → cut a t w ≡ o → o ≡ none
    go none p = refl
    go (some y) p = let r = compact_cut a t w v y h' h (sym c) p in absurd (none-ne-some r.0 (sym e ∙ r.1))

pub cut_refused : (a t : Ty) (v w : List Bool) → length v ≡ bits t → length w ≡ bits t → compact t v ≡ compact t w →
    (cut a t v ≡ none) ↔ (cut a t w ≡ none)
cut_refused a t v w h h' c = (refused_too a t v w h h' c, refused_too a t w v h' h (sym c))
