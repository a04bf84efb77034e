-- Laws of `paste`, which overwrites a part of a list, beside those of `lib.Seq`.
--
--   paste_same paste_take     the part that is not pasted does not matter
--   paste_front               pasting at the very front
--   paste_append              pasting v and then w after it is pasting v ++ w
--   paste_on                  pasting the next n elements of v after its first m
--   paste_inside              pasting within a part of a list
--   set_as_paste              setting one element is pasting a list of one
--   paste_before paste_here paste_after         what is read before, in and after a part that was pasted
use mathlib.Core.Path.{◌≡◌, sym, ap, ap₂, ◌∙◌, subst}
use mathlib.Core.List.{List, [], ◌∷◌, ◌++◌, append_assoc}
use Prim.Native.Nat.{ℕ, suc, ◌+◌, ◌≤◌, ◌<◌}
use native.Mathlib.Nat.{zero-add, add_assoc, le_refl, le_of_eq}
use native.Mathlib.Numerals.{add-one}
use native.Mathlib.Omega.{arith}
use lib.ListN.{length, set, take, drop}
use lib.Seq.{paste, take-paste, drop-paste, take-take, take_at, take_all, take-append-add, take-append-le}
use lib.Seq.{take-add, drop_at, drop-drop, drop-append-add, drop-append-le, length-take-le, set_split, append_snoc}

module _ {A : Type 0} where
  pub paste_same : (d v w : List A) (at n : ℕ) → take n v ≡ take n w → paste d at v n ≡ paste d at w n
  paste_same d v w at n e = ap (λ (r : List A). take at d ++ r ++ drop (at + n) d) e

  pub paste_take : (d : List A) (at : ℕ) (s : List A) (n : ℕ) → paste d at (take n s) n ≡ paste d at s n
  paste_take d at s n = paste_same d (take n s) s at n (take-take n n s (le_refl n))

  pub paste_front : (d v : List A) (n : ℕ) → length v ≡ n → paste d 0 v n ≡ v ++ drop n d
  paste_front d v n e = ap₂ (λ (r : List A) (k : ℕ). r ++ drop k d) (take_all n v (le_of_eq e)) (zero-add n)

  pub paste_after : (d : List A) (at : ℕ) (s : List A) (n k : ℕ) → at ≤ length d → n ≤ length s
      → drop (at + n + k) (paste d at s n) ≡ drop (at + n + k) d
  paste_after d at s n k h l =
      sym (drop-drop k (at + n) (paste d at s n)) ∙ ap (drop k) (drop-paste d at s n h l) ∙ drop-drop k (at + n) d

  pub paste_append : (d : List A) (at : ℕ) (v : List A) (m : ℕ) (w : List A) (n : ℕ) → at ≤ length d → length v ≡ m
      → paste (paste d at v m) (at + m) w n ≡ paste d at (v ++ w) (m + n)
  paste_append d at v m w n h e =
      let l : m ≤ length v = omega arith in
      ap₂ (λ (p q : List A). p ++ take n w ++ q) (take-paste d at v m h l)
      (paste_after d at v m n h l ∙ ap (λ (k : ℕ). drop k d) (add_assoc at m n))
      ∙ ap (λ (r : List A). r ++ drop (at + (m + n)) d)
      (append_assoc (take at d) (take m v) (take n w) ∙ ap (λ (r : List A). take at d ++ r) both)
    where
      both : take m v ++ take n w ≡ take (m + n) (v ++ w)
      both = ap (λ (r : List A). r ++ take n w) (take_all m v (le_of_eq e))
          ∙ sym (take-append-add v w n)
          ∙ ap (λ (k : ℕ). take (k + n) (v ++ w)) e

  pub paste_on : (old v w mid new : List A) (at m k n : ℕ) → at ≤ length old → m ≤ length v
      → mid ≡ paste old at v m → new ≡ paste mid k w n → k ≡ at + m → take n w ≡ take n (drop m v)
      → new ≡ paste old at v (m + n)
  paste_on old v w mid new at m k n h l em en ek e =
      let t : length (take m v) ≡ m = length-take-le m v l in
      en
      ∙ ap₂ (λ (d : List A) (i : ℕ). paste d i w n) (em ∙ sym (paste_take old at v m)) ek
      ∙ paste_append old at (take m v) m w n h t
      ∙ paste_same old (take m v ++ w) v at (m + n)
      (ap (λ (i : ℕ). take (i + n) (take m v ++ w)) (sym t)
      ∙ take-append-add (take m v) w n
      ∙ ap (λ (r : List A). take m v ++ r) e
      ∙ sym (take-add m n v))

  pub paste_inside : (p q r v : List A) (at n : ℕ) → at + n ≤ length q
      → paste (p ++ (q ++ r)) (length p + at) v n ≡ p ++ (paste q at v n ++ r)
  paste_inside p q r v at n h =
      ap₂ (λ (a b : List A). a ++ take n v ++ b)
      (take-append-add p (q ++ r) at ∙ ap (λ (a : List A). p ++ a) (take-append-le at q r (omega arith)))
      (ap (λ (k : ℕ). drop k (p ++ (q ++ r))) (add_assoc (length p) at n)
      ∙ drop-append-add p (q ++ r) (at + n)
      ∙ drop-append-le (at + n) q r h)
      ∙ simp append_assoc

  pub set_as_paste : (d : List A) (at : ℕ) (a : A) → at < length d → set d at a ≡ paste d at (a ∷ []) 1
  set_as_paste d at a h =
      set_split d at a h
      ∙ sym (append_snoc (take at d) a (drop (suc at) d))
      ∙ ap (λ (k : ℕ). take at d ++ (a ∷ []) ++ drop k d) (sym (add-one at))

  pub paste_before : (d : List A) (at : ℕ) (s : List A) (n k : ℕ) → k ≤ at → at ≤ length d → take k (paste d at s n) ≡ take k d
  paste_before d at s n k h l =
      let t : k ≤ length (take at d) = subst (λ (j : ℕ). k ≤ j) (sym (length-take-le at d l)) h in
      ap (take k) (append_assoc (take at d) (take n s) (drop (at + n) d))
      ∙ take-append-le k (take at d) (take n s ++ drop (at + n) d) t
      ∙ take-take k at d h

  pub paste_here : (d : List A) (at : ℕ) (s : List A) (n : ℕ) → at ≤ length d → n ≤ length s
      → take n (drop at (paste d at s n)) ≡ take n s
  paste_here d at s n h l =
      ap (take n)
      (ap (drop at) (append_assoc (take at d) (take n s) (drop (at + n) d))
      ∙ drop_at (take at d) (take n s ++ drop (at + n) d) at (length-take-le at d h))
      ∙ take_at (take n s) (drop (at + n) d) n (length-take-le n s l)
