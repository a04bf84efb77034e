-- One step of a cut, over types and lists of bits: what each rule asks of the next walk, and what it writes.
--
--   before                      how many bits of tag and padding stand before a payload
--   cut_tag                     a cut of a sum, by the tag
--   cut_unlike                  a target with sides and a type of another kind
--   tag_run within_run first_run second_run     tag, payload and parts of a record that is a run of bits
--   wrapped_bits                a rebuilt record is its tag, zero bits and its payload
--   is_cut_rebuilt is_cut_joined cut_bits_rebuilt cut_bits_joined cut_is  acceptance and bits of what was put together
--   pasted_tag                  a tag, zero bits and a payload, written one after the other
-- Assumes nothing.
use mathlib.Core.Path.{◌≡◌, refl, ap, ap₂, ◌∙◌}
use mathlib.Core.Bool.{Bool, true, false, ◌&&◌, false≢true}
use mathlib.Core.List.{List, [], ◌∷◌, ◌++◌}
use mathlib.Core.Option.{Option, none, some}
use Prim.Native.Nat.{ℕ, ◌+◌, ◌-◌, ◌≤◌, ◌<◌}
use native.Mathlib.Nat.{add-zero}
use native.Mathlib.Omega.{arith}
use lib.ListN.{length, get_or, set, take, drop, length-replicate}
use lib.Seq.{paste}
use Rattle.meaning.specs.Types.{Ty, sum, prod, same, bits}
use Rattle.meaning.specs.Tables.{node}
use Rattle.meaning.specs.Bits.{zeros}
use Rattle.meaning.specs.Records.{tag, pad_left, pad_right, first_of, second_of}
use Rattle.meaning.specs.Cuts.{rebuilt, joined, cut}
use Rattle.meaning.specs.CutCalls.{is_cut, cut_bits}
use Rattle.tables.specs.declared.Kind.{Kind}
use Rattle.tables.specs.Kinds.{kind_no}
use Rattle.bits.proofs.Runs.{get_d_run, take_run, drop_run}
use Rattle.meaning.proofs.Pasted.{paste_append, set_as_paste}
use Rattle.laws.proofs.CutSides.{side, within, wrapped}
use Rattle.laws.proofs.CutRules.{cut_sum_left, cut_sum_right, cut_sum_of_unit, cut_sum_of_product, cut_product_of_unit, cut_product_of_sum}

-- The bits of tag and padding before the payload of a tag: the payload lies at the end.
abbrev pub before : Bool → Ty → Ty → ℕ
before g a b = bits (sum a b) - bits (side g a b)

pub cut_tag : (g : Bool) (a b c d : Ty) (v : List Bool) → same (sum a b) (sum c d) ≡ false → tag v ≡ g
    → cut (sum a b) (sum c d) v ≡ rebuilt (wrapped g a b) (cut (side g a b) (side g c d) (within g c d v))
cut_tag true a b c d v e h = cut_sum_right a b c d v e h
cut_tag false a b c d v e h = cut_sum_left a b c d v e h

pub cut_unlike : (k l : Kind) (a b c d : Ty) (v : List Bool) → (k ≡ Kind.Unit → ⊥) → (k ≡ l → ⊥)
    → cut (node (kind_no k) a b) (node (kind_no l) c d) v ≡ none
cut_unlike Kind.Unit l a b c d v some-side differ = absurd (some-side refl)
cut_unlike Kind.Sum Kind.Unit a b c d v some-side differ = cut_sum_of_unit a b v
cut_unlike Kind.Sum Kind.Sum a b c d v some-side differ = absurd (differ refl)
cut_unlike Kind.Sum Kind.Product a b c d v some-side differ = cut_sum_of_product a b c d v
cut_unlike Kind.Product Kind.Unit a b c d v some-side differ = cut_product_of_unit a b v
cut_unlike Kind.Product Kind.Sum a b c d v some-side differ = cut_product_of_sum a b c d v
cut_unlike Kind.Product Kind.Product a b c d v some-side differ = absurd (differ refl)

module _ (bs : List Bool) (at : ℕ) where
  pub tag_run : (n : ℕ) → 0 < n → tag (take n (drop at bs)) ≡ get_or bs at false
  tag_run n h = get_d_run bs at n 0 false h ∙ ap (λ (k : ℕ). get_or bs k false) (add-zero at)

  pub within_run : (g : Bool) (c d : Ty)
      → within g c d (take (bits (sum c d)) (drop at bs)) ≡ take (bits (side g c d)) (drop (at + before g c d) bs)
  unfolding bits
  within_run true c d =
      let n : bits (sum c d) - (1 + pad_right c d) ≡ bits d = omega arith in
      let k : 1 + pad_right c d ≡ before true c d = omega arith in
      drop_run bs at (bits (sum c d)) (1 + pad_right c d) ∙ ap₂ (λ (i j : ℕ). take i (drop (at + j) bs)) n k
  within_run false c d =
      let n : bits (sum c d) - (1 + pad_left c d) ≡ bits c = omega arith in
      let k : 1 + pad_left c d ≡ before false c d = omega arith in
      drop_run bs at (bits (sum c d)) (1 + pad_left c d) ∙ ap₂ (λ (i j : ℕ). take i (drop (at + j) bs)) n k

  pub first_run : (c d : Ty) → first_of c (take (bits (prod c d)) (drop at bs)) ≡ take (bits c) (drop at bs)
  unfolding bits
  first_run c d = take_run bs at (bits (prod c d)) (bits c) (omega arith)

  pub second_run : (c d : Ty) → second_of c (take (bits (prod c d)) (drop at bs)) ≡ take (bits d) (drop (at + bits c) bs)
  unfolding bits
  second_run c d =
      let n : bits (prod c d) - bits c ≡ bits d = omega arith in
      drop_run bs at (bits (prod c d)) (bits c) ∙ ap (λ (i : ℕ). take i (drop (at + bits c) bs)) n

pub wrapped_bits : (g : Bool) (a b : Ty) (x : List Bool) → wrapped g a b x ≡ g ∷ (zeros (before g a b - 1) ++ x)
unfolding bits
wrapped_bits true a b x = let k : pad_right a b ≡ before true a b - 1 = omega arith in ap (λ (i : ℕ). true ∷ (zeros i ++ x)) k
wrapped_bits false a b x = let k : pad_left a b ≡ before false a b - 1 = omega arith in ap (λ (i : ℕ). false ∷ (zeros i ++ x)) k

pub is_cut_rebuilt : (f : List Bool → List Bool) (o : Option (List Bool)) → is_cut (rebuilt f o) ≡ is_cut o
is_cut_rebuilt f none = refl
is_cut_rebuilt f (some v) = refl

pub cut_bits_rebuilt : (f : List Bool → List Bool) (o : Option (List Bool)) → is_cut o ≡ true → cut_bits (rebuilt f o) ≡ f (cut_bits o)
cut_bits_rebuilt f none h = absurd (false≢true h)
cut_bits_rebuilt f (some v) h = refl

pub is_cut_joined : (o p : Option (List Bool)) → is_cut (joined o p) ≡ (is_cut o && is_cut p)
is_cut_joined none p = refl
is_cut_joined (some v) none = refl
is_cut_joined (some v) (some w) = refl

pub cut_bits_joined : (o p : Option (List Bool)) → is_cut o ≡ true → is_cut p ≡ true → cut_bits (joined o p) ≡ cut_bits o ++ cut_bits p
cut_bits_joined none p h g = absurd (false≢true h)
cut_bits_joined (some v) none h g = absurd (false≢true g)
cut_bits_joined (some v) (some w) h g = refl

pub cut_is : (o : Option (List Bool)) → is_cut o ≡ true → o ≡ some (cut_bits o)
cut_is none h = absurd (false≢true h)
cut_is (some v) h = refl

pub pasted_tag : (d : List Bool) (to : ℕ) (g : Bool) (k : ℕ) (x : List Bool) (m : ℕ) → to < length d
    → paste (paste (set d to g) (to + 1) (zeros k) k) (to + (1 + k)) x m ≡ paste d to (g ∷ (zeros k ++ x)) (1 + k + m)
pasted_tag d to g k x m h =
    let l : to ≤ length d = omega arith in
    ap (λ (r : List Bool). paste (paste r (to + 1) (zeros k) k) (to + (1 + k)) x m) (set_as_paste d to g h)
    ∙ ap (λ (r : List Bool). paste r (to + (1 + k)) x m) (paste_append d to (g ∷ []) 1 (zeros k) k l refl)
    ∙ paste_append d to (g ∷ zeros k) (1 + k) x m l (omega (arith, length-replicate k false))
