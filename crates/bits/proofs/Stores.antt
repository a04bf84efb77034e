-- What storing bytes does to the bits.
--
--   set_part          n bits of one byte change
--   set_whole         one byte changes
--   byte_step         one turn of a loop that writes the next eight bits of a run to the next byte
--   bits_of_paste     whole bytes change
use mathlib.Core.Path.{◌≡◌, sym, ap, ap₂, ◌∙◌}
use mathlib.Core.Bool.{Bool}
use mathlib.Core.List.{List, ◌∷◌, ◌++◌, append-nil}
use Prim.Native.Nat.{ℕ, suc, ◌+◌, ◌*◌, ◌≤◌, ◌<◌}
use native.Mathlib.Nat.{add-zero, le_of_eq}
use native.Mathlib.Omega.{arith}
use lib.ListN.{length, get_or, set, take, drop, length-take, drop_of_length-le}
use lib.Seq.{paste, set_split, split_at}
use Rattle.meaning.specs.Bits.{to_bits, bits_of}
use Rattle.bits.proofs.Numbers.{length_to_bits}
use Rattle.bits.proofs.OfBytes.{length_bits_of, bits_of_append, take_bits_of, drop_bits_of}
use Rattle.bits.proofs.Parts.{take_own}
use Rattle.meaning.proofs.Pasted.{paste_front, paste_inside, paste_on}

-- The bits of the bytes before byte i, of byte i, and of those after it.
around : (s : List ℕ) (i : ℕ) → i < length s
    → bits_of s ≡ bits_of (take i s) ++ (to_bits 8 (get_or s i 0) ++ bits_of (drop (suc i) s))
unfolding bits_of
around s i h = ap bits_of (split_at s i 0 h) ∙ bits_of_append (take i s) (get_or s i 0 ∷ drop (suc i) s)

-- Byte i becomes x, which differs in n bits from bit j on.
pub set_part : (s : List ℕ) (i j n x : ℕ) (v : List Bool) → i < length s → j + n ≤ 8
    → to_bits 8 x ≡ paste (to_bits 8 (get_or s i 0)) j v n
    → bits_of (set s i x) ≡ paste (bits_of s) (8 * i + j) v n
unfolding bits_of
set_part s i j n x v h l e =
    let old : List Bool = to_bits 8 (get_or s i 0) in
    let front : length (bits_of (take i s)) ≡ 8 * i = omega (arith, length_bits_of (take i s), length-take i s) in
    ap bits_of (set_split s i x h)
    ∙ bits_of_append (take i s) (x ∷ drop (suc i) s)
    ∙ ap (λ (r : List Bool). bits_of (take i s) ++ (r ++ bits_of (drop (suc i) s))) e
    ∙ sym (paste_inside (bits_of (take i s)) old (bits_of (drop (suc i) s)) v j n (omega (arith, length_to_bits 8 (get_or s i 0))))
    ∙ ap₂ (λ (d : List Bool) (k : ℕ). paste d (k + j) v n) (sym (around s i h)) front

pub set_whole : (s : List ℕ) (i x : ℕ) → i < length s → bits_of (set s i x) ≡ paste (bits_of s) (8 * i) (to_bits 8 x) 8
set_whole s i x h =
    let old : List Bool = to_bits 8 (get_or s i 0) in
    set_part s i 0 8 x (to_bits 8 x) h (omega arith)
    (sym
    (paste_front old (to_bits 8 x) 8 (length_to_bits 8 x)
    ∙ ap (λ (r : List Bool). to_bits 8 x ++ r) (drop_of_length-le old (le_of_eq (length_to_bits 8 (get_or s i 0))))
    ∙ append-nil (to_bits 8 x)))
    ∙ ap (λ (k : ℕ). paste (bits_of s) k (to_bits 8 x) 8) (add-zero (8 * i))

-- The first t bytes of v stand from byte j on, and x is the next.
pub byte_step : (old v : List Bool) (d : List ℕ) (j t x : ℕ) → j + t < length d → 8 * j ≤ length old → 8 * t ≤ length v
    → bits_of d ≡ paste old (8 * j) v (8 * t)
    → to_bits 8 x ≡ take 8 (drop (8 * t) v)
    → bits_of (set d (j + t) x) ≡ paste old (8 * j) v (8 * (t + 1))
byte_step old v d j t x h lo lv e f =
    let here : 8 * (j + t) ≡ 8 * j + 8 * t = omega arith in
    let next : 8 * t + 8 ≡ 8 * (t + 1) = omega arith in
    paste_on old v (to_bits 8 x) (bits_of d) (bits_of (set d (j + t) x)) (8 * j) (8 * t) (8 * (j + t)) 8 lo lv e (set_whole d (j + t) x h) here
    (take_own 8 x ∙ f)
    ∙ ap (paste old (8 * j) v) next

-- The k bytes from byte j on become those of s.
pub bits_of_paste : (d s : List ℕ) (j k : ℕ) → bits_of (paste d j s k) ≡ paste (bits_of d) (8 * j) (bits_of s) (8 * k)
bits_of_paste d s j k =
    let after : 8 * (j + k) ≡ 8 * j + 8 * k = omega arith in
    bits_of_append (take j d ++ take k s) (drop (j + k) d)
    ∙ ap₂ (λ (p q : List Bool). p ++ q)
    (bits_of_append (take j d) (take k s) ∙ ap₂ (λ (p q : List Bool). p ++ q) (sym (take_bits_of j d)) (sym (take_bits_of k s)))
    (sym (drop_bits_of (j + k) d) ∙ ap (λ (i : ℕ). drop i (bits_of d)) after)
