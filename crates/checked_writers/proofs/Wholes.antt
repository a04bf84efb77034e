-- Records put together from bit 0 of an output on, piece by piece.
--
--   sum_length sum_whole            a tag, zero padding, and n bits of a payload at the end of w bits
--   product_length product_whole    m bits of one run and the rest of w bits of another
-- Assumes nothing.
use mathlib.Core.Path.{◌≡◌, refl, sym, ap, ap₂, ◌∙◌}
use mathlib.Core.Bool.{Bool, false}
use mathlib.Core.List.{List, [], ◌∷◌, ◌++◌}
use Prim.Native.Nat.{ℕ, ◌+◌, ◌-◌, ◌≤◌, ◌<◌, zero-le}
use native.Mathlib.Nat.{zero-add}
use native.Mathlib.Omega.{arith}
use lib.ListN.{length, set, take, length-append, length-replicate}
use lib.Seq.{paste, length-take-le}
use Rattle.meaning.specs.Bits.{zeros}
use Rattle.meaning.proofs.Pasted.{paste_take, paste_append, set_as_paste}

-- The next piece, after one that begins at bit 0.
next : (old v : List Bool) (m : ℕ) (s : List Bool) (n : ℕ) → length v ≡ m → paste (paste old 0 v m) m s n ≡ paste old 0 (v ++ take n s) (m + n)
next old v m s n h =
    sym (paste_take (paste old 0 v m) m s n)
    ∙ ap (λ (i : ℕ). paste (paste old 0 v m) i (take n s) n) (sym (zero-add m))
    ∙ paste_append old 0 v m (take n s) n zero-le h

module _ (g : Bool) (w n : ℕ) (s : List Bool) (fits : n < w) (there : n ≤ length s) where
  pub sum_length : length (g ∷ (zeros (w - 1 - n) ++ take n s)) ≡ w
  sum_length =
      omega (
        arith,
        length-append (zeros (w - 1 - n)) (take n s),
        length-replicate (w - 1 - n) false,
        length-take-le n s there,
      )

  -- The tag is set in `old`, the padding cleared after it, and the payload copied.
  pub sum_whole : (old b c d : List Bool) → 0 < length old
      → b ≡ set old 0 g
      → c ≡ paste b 1 (zeros (w - 1 - n)) (w - 1 - n)
      → d ≡ paste c (w - n) s n
      → d ≡ paste old 0 (g ∷ (zeros (w - 1 - n) ++ take n s)) w
  sum_whole old b c d h eb ec ed =
      let k : ℕ = w - 1 - n in
      let front : length (g ∷ zeros k) ≡ 1 + k = omega (arith, length-replicate k false) in
      let at : w - n ≡ 1 + k = omega arith in
      let all : 1 + k + n ≡ w = omega arith in
      ed
      ∙ ap₂ (λ (x : List Bool) (i : ℕ). paste x i s n)
      (ec ∙ ap (λ (x : List Bool). paste x 1 (zeros k) k) (eb ∙ set_as_paste old 0 g h) ∙ paste_append old 0 (g ∷ []) 1 (zeros k) k zero-le refl)
      at
      ∙ next old (g ∷ zeros k) (1 + k) s n front
      ∙ ap (paste old 0 (g ∷ (zeros k ++ take n s))) all

module _ (w m : ℕ) (s r : List Bool) (fits : m ≤ w) (first : m ≤ length s) (second : w - m ≤ length r) where
  pub product_length : length (take m s ++ take (w - m) r) ≡ w
  product_length =
      omega (arith, length-append (take m s) (take (w - m) r), length-take-le m s first, length-take-le (w - m) r second)

  -- The first part is copied to the beginning of `old`, and the second after it.
  pub product_whole : (old b c : List Bool)
      → b ≡ paste old 0 s m
      → c ≡ paste b m r (w - m)
      → c ≡ paste old 0 (take m s ++ take (w - m) r) w
  product_whole old b c eb ec =
      let all : m + (w - m) ≡ w = omega arith in
      ec
      ∙ ap (λ (x : List Bool). paste x m r (w - m)) (eb ∙ sym (paste_take old 0 s m))
      ∙ next old (take m s) m r (w - m) (length-take-le m s first)
      ∙ ap (paste old 0 (take m s ++ take (w - m) r)) all
