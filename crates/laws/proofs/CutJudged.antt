-- What every cut is, by one induction: an accepted cut is a record of the target type, says the cut of the record's tree, and has zero
-- padding where the record has; a refused one has a tree that no cut to the target fits.
--
--   Cutting Unkept Judged           what is true of an accepted cut, of a refused one, and of any
--   judged_cut                      it is true of every cut
--   cutting accepted_cut            the two ways to use it
-- Assumes nothing.
use mathlib.Core.Path.{◌≡◌, refl, ap, ap₂, sym, ◌∙◌, subst}
use mathlib.Core.Bool.{Bool, true, false, cond}
use mathlib.Core.List.{List, [], ◌++◌}
use mathlib.Core.Option.{Option, none, some, some-injective, none-ne-some}
use lib.ListN.{length}
use Rattle.meaning.specs.Types.{Ty, unit, sum, prod, same, bits}
use Rattle.meaning.specs.Records.{tag, left_of, right_of, first_of, second_of, in_left, in_right, plain}
use Rattle.meaning.specs.Cuts.{rebuilt, joined, cut_to_sum, cut_to_prod, cut}
use Rattle.meaning.proofs.Types.{same_eq}
use Rattle.meaning.proofs.Records.{length_first, length_second, length_pair}
use Rattle.laws.proofs.RecordParts.{plain_pair}
use Rattle.laws.proofs.CutSides.{side, within, wrapped, length_within, length_wrapped}
use Rattle.laws.proofs.CutSides.{plain_wrapped, plain_within, plain_first, plain_second}
use Rattle.laws.proofs.CutTrees.{Tree, tagged, both, walk, walk_tag, walk_wrapped, walk_pair}
use Rattle.laws.proofs.CutTrees.{Kept, at_unit, at_tag, at_both, kept_walk, kept_once}

-- An accepted cut x of the record v.
pub record Cutting (a t : Ty) (v x : List Bool) : Type 0 where
  pub wide : length x ≡ bits a
  pub kept : Kept a (walk t v) (walk a x)
  pub clear : plain t v ≡ v → plain a x ≡ x

-- No tree is the cut of the tree s to the target a.
abbrev pub Unkept : Ty → Tree → Type 0
Unkept a s = (u : Tree) → Kept a s u → ⊥

-- A cut, accepted or refused.
pub data Judged (a t : Ty) (v : List Bool) : Option (List Bool) → Type 0 where
  accepted : {x : List Bool} → Cutting a t v x → Judged a t v (some x)
  refused : Unkept a (walk t v) → Judged a t v none

-- The first rule, over whatever the others answer: target equal to the type.
judged_same : (a t : Ty) (v : List Bool) {o : Option (List Bool)} → length v ≡ bits t → Judged a t v o →
    Judged a t v (cond (same a t) (some v) o)
judged_same a t v {o} h j = go (same a t) refl
  where
    go : (g : Bool) → same a t ≡ g → Judged a t v (cond g (some v) o)
    go true e =
        accepted (subst (λ x. Cutting x t v v) (sym (same_eq a t e)) (record { wide = h; kept = kept_walk t v; clear = λ z. z }))
    go false e = j

-- To unit.
cutting_unit : (t : Ty) (v : List Bool) → Cutting unit t v []
unfolding bits walk plain
cutting_unit t v = record { wide = refl; kept = at_unit; clear = λ z. refl }

-- From a sum to a sum, the tag known.
cutting_tag : (g : Bool) (a b c d : Ty) (v x : List Bool) → tag v ≡ g → Cutting (side g a b) (side g c d) (within g c d v) x →
    Cutting (sum a b) (sum c d) v (wrapped g a b x)
cutting_tag g a b c d v x e k =
    record {
      wide = length_wrapped g a b x k.wide;
      kept = rw (walk_tag g c d v e, walk_wrapped g a b x) (at_tag k.kept);
      clear = λ z. plain_wrapped g a b x ∙ ap (wrapped g a b) (k.clear (plain_within g c d v e z));
    }

unkept_tag : {g : Bool} {a b : Ty} {s : Tree} → Unkept (side g a b) s → Unkept (sum a b) (tagged g s)
unkept_tag r _ (at_tag k) = r _ k

judged_tag : (g : Bool) (a b c d : Ty) (v : List Bool) {o : Option (List Bool)} → tag v ≡ g →
    Judged (side g a b) (side g c d) (within g c d v) o → Judged (sum a b) (sum c d) v (rebuilt (wrapped g a b) o)
judged_tag g a b c d v e (accepted {x} k) = accepted (cutting_tag g a b c d v x e k)
judged_tag g a b c d v e (refused r) = refused (rw (walk_tag g c d v e) (unkept_tag r))

-- From a product to a product.
cutting_both : (a b c d : Ty) (v x y : List Bool) → Cutting a c (first_of c v) x → Cutting b d (second_of c v) y →
    Cutting (prod a b) (prod c d) v (x ++ y)
unfolding walk
cutting_both a b c d v x y k l =
    record {
      wide = length_pair a b x y k.wide l.wide;
      kept = rw (walk_pair a b x y k.wide) (at_both k.kept l.kept);
      clear = λ z. plain_pair a b x y k.wide ∙ ap₂ ◌++◌ (k.clear (plain_first c d v z)) (l.clear (plain_second c d v z));
    }

unkept_first : {a b : Ty} {s r : Tree} → Unkept a s → Unkept (prod a b) (both s r)
unkept_first h _ (at_both k l) = h _ k

unkept_second : {a b : Ty} {s r : Tree} → Unkept b r → Unkept (prod a b) (both s r)
unkept_second h _ (at_both k l) = h _ l

judged_both : (a b c d : Ty) (v : List Bool) {o o' : Option (List Bool)} → Judged a c (first_of c v) o → Judged b d (second_of c v) o' →
    Judged (prod a b) (prod c d) v (joined o o')
unfolding walk
judged_both a b c d v (refused r) j = refused (unkept_first r)
judged_both a b c d v (accepted k) (refused r) = refused (unkept_second r)
judged_both a b c d v (accepted {x} k) (accepted {x = y} l) = accepted (cutting_both a b c d v x y k l)

-- What cuts to a target, and that it is true of all of its cuts.
abbrev CutsTo : Type 0
CutsTo = Ty → List Bool → Option (List Bool)

abbrev Judges : Ty → CutsTo → Type 0
Judges a f = (t : Ty) (v : List Bool) → length v ≡ bits t → Judged a t v (f t v)

judged_sum : (a b : Ty) (f f' : CutsTo) → Judges a f → Judges b f' → Judges (sum a b) (cut_to_sum a b f f')
unfolding walk
judged_sum a b f f' j j' unit v h = refused (λ u k. elim k [ ])
judged_sum a b f f' j j' (sum c d) v h = go (tag v) refl
  where
    go : (g : Bool) → tag v ≡ g →
        Judged (sum a b) (sum c d) v (cond g (rebuilt (in_right a b) (f' d (right_of c d v))) (rebuilt (in_left a b) (f c (left_of c d v))))
    go true e = judged_tag true a b c d v e (j' d (right_of c d v) (length_within true c d v h))
    go false e = judged_tag false a b c d v e (j c (left_of c d v) (length_within false c d v h))
judged_sum a b f f' j j' (prod c d) v h = refused (λ u k. elim k [ ])

unkept_prod : {g : Bool} {a b : Ty} {s : Tree} → Unkept (prod a b) (tagged g s)
unkept_prod u k = elim k [ ]

judged_prod : (a b : Ty) (f f' : CutsTo) → Judges a f → Judges b f' → Judges (prod a b) (cut_to_prod f f')
unfolding walk
judged_prod a b f f' j j' unit v h = refused (λ u k. elim k [ ])
judged_prod a b f f' j j' (sum c d) v h = refused (subst (Unkept (prod a b)) (sym (walk_tag (tag v) c d v refl)) unkept_prod)
judged_prod a b f f' j j' (prod c d) v h =
    judged_both a b c d v (j c (first_of c v) (length_first c d v h)) (j' d (second_of c v) (length_second c d v h))

pub judged_cut : (a : Ty) → Judges a (cut a)
unfolding cut
judged_cut unit t v h = judged_same unit t v h (accepted (cutting_unit t v))
judged_cut (sum a b) t v h = judged_same (sum a b) t v h (judged_sum a b (cut a) (cut b) (judged_cut a) (judged_cut b) t v h)
judged_cut (prod a b) t v h = judged_same (prod a b) t v h (judged_prod a b (cut a) (cut b) (judged_cut a) (judged_cut b) t v h)

-- What an accepted cut is.
pub cutting : (a t : Ty) (v x : List Bool) → length v ≡ bits t → cut a t v ≡ some x → Cutting a t v x
cutting a t v x h e = go (judged_cut a t v h) e
  where
    go : {o : Option (List Bool)} → Judged a t v o → o ≡ some x → Cutting a t v x
    go (accepted k) p = subst (Cutting a t v) (some-injective _ _ p) k
    go (refused r) p = absurd (none-ne-some x p)

-- A cut that the record's tree allows is accepted, and says that tree.
pub accepted_cut : (a t : Ty) (v : List Bool) (u : Tree) → length v ≡ bits t → Kept a (walk t v) u →
    (x : List Bool) × (cut a t v ≡ some x) × (walk a x ≡ u)
accepted_cut a t v u h k = go (judged_cut a t v h)
  where
    go : {o : Option (List Bool)} → Judged a t v o → (x : List Bool) × (o ≡ some x) × (walk a x ≡ u)
    go (accepted {x} c) = (x, refl, kept_once c.kept k)
    go (refused r) = absurd (r u k)
