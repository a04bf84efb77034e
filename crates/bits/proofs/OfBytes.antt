-- Laws of `bits_of`, the bits of bytes.
--
--   length_bits_of length_by_bits     eight bits a byte, so bytes with equally many bits are equally many
--   get_d_bits_of set_bits_of         one bit, and one bit set
--   bits_of_append take_bits_of drop_bits_of
--   bits_of_zeros                     bytes that are all zero
--   tail part part_lent               the bits from bit o on, in the bytes from byte o / 8 on
--   byte_bits                         the eight bits of one byte
--   bits_of_injective                 bytes are what their bits say
--   are_bytes                         what the checker knows of a lent slice of u8, as `Bytes`
--   bytes_append bytes_drop bytes_take
use mathlib.Core.Path.{◌≡◌, refl, sym, ap, ap₂, ◌∙◌, subst}
use mathlib.Core.Bool.{Bool, false}
use mathlib.Core.List.{List, [], ◌∷◌, ◌++◌, append_assoc}
use Prim.Native.Nat.{ℕ, zero, suc, ◌+◌, ◌-◌, ◌*◌, ◌/◌, ◌%◌, ◌^◌, ◌<◌, zero-le, suc-le-suc}
use native.Mathlib.Nat.{zero-div, le_of_eq, le_of_suc-le-suc}
use native.Mathlib.Omega.{arith}
use lib.ListN.{length, get_or, set, take, drop, length-append, length-take, length-drop, replicate, replicate-append-replicate}
use lib.Seq.{set-append_left, drop-drop, drop-cons, take_all, ext_get_or, get_or-drop, get_or-take}
use mir.Syntax.{w8}
use mir.Val.{Fits}
use Rattle.meaning.specs.Bits.{odd, to_bits, bits_of, zeros}
use Rattle.meaning.specs.Checked.{Bytes}
use Rattle.bits.proofs.Numbers.{length_to_bits, to_bits_injective, to_bits_zero}

-- Eight more, as the definitions that recurse eight times see it.
eight_more : (k : ℕ) → 8 * suc k ≡ suc (suc (suc (suc (suc (suc (suc (suc (8 * k))))))))
eight_more k = omega arith

pub length_bits_of : (s : List ℕ) → length (bits_of s) ≡ 8 * length s
unfolding bits_of
length_bits_of [] = refl
length_bits_of (b ∷ s) = omega (arith, length-append (to_bits 8 b) (bits_of s), length_to_bits 8 b, length_bits_of s)

pub length_by_bits : (s t : List ℕ) → length (bits_of s) ≡ length (bits_of t) → length s ≡ length t
length_by_bits s t e = omega (arith, length_bits_of s, length_bits_of t)

pub get_d_bits_of : (s : List ℕ) (at : ℕ) → get_or (bits_of s) at false ≡ odd (get_or s (at / 8) 0 / 2 ^ (7 - at % 8))
unfolding bits_of to_bits odd
get_d_bits_of [] at = ap odd (sym (zero-div (2 ^ (7 - at % 8))))
get_d_bits_of (b ∷ s) zero = refl
get_d_bits_of (b ∷ s) (suc zero) = refl
get_d_bits_of (b ∷ s) (suc (suc zero)) = refl
get_d_bits_of (b ∷ s) (suc (suc (suc zero))) = refl
get_d_bits_of (b ∷ s) (suc (suc (suc (suc zero)))) = refl
get_d_bits_of (b ∷ s) (suc (suc (suc (suc (suc zero))))) = refl
get_d_bits_of (b ∷ s) (suc (suc (suc (suc (suc (suc zero)))))) = refl
get_d_bits_of (b ∷ s) (suc (suc (suc (suc (suc (suc (suc zero))))))) = refl
get_d_bits_of (b ∷ s) (suc (suc (suc (suc (suc (suc (suc (suc at)))))))) =
    let up : ℕ = suc (suc (suc (suc (suc (suc (suc (suc at))))))) in
    let q : suc (at / 8) ≡ up / 8 = omega arith in
    let r : at % 8 ≡ up % 8 = omega arith in
    get_d_bits_of s at ∙ ap₂ (λ (i j : ℕ). odd (get_or (b ∷ s) i 0 / 2 ^ (7 - j))) q r

-- Setting a bit past a byte sets it in what follows the byte.
set_past : (y : ℕ) (v : List Bool) (k : ℕ) (b : Bool)
    → to_bits 8 y ++ set v k b ≡ set (to_bits 8 y ++ v) (suc (suc (suc (suc (suc (suc (suc (suc k)))))))) b
unfolding to_bits
set_past y v k b = refl

-- Bit j of byte i set, where byte i becomes x.
set_byte : (s : List ℕ) (i j x : ℕ) (b : Bool) → i < length s → j < 8 → to_bits 8 x ≡ set (to_bits 8 (get_or s i 0)) j b
    → bits_of (set s i x) ≡ set (bits_of s) (8 * i + j) b
unfolding bits_of
set_byte [] i j x b hi hj e = absurd (omega arith)
set_byte (y ∷ s) zero j x b hi hj e =
    let n : j ≡ 8 * 0 + j = omega arith in
    ap (λ (v : List Bool). v ++ bits_of s) e
    ∙ sym (set-append_left (to_bits 8 y) (bits_of s) j b (omega (arith, length_to_bits 8 y)))
    ∙ ap (λ (k : ℕ). set (to_bits 8 y ++ bits_of s) k b) n
set_byte (y ∷ s) (suc i) j x b hi hj e =
    let n : suc (suc (suc (suc (suc (suc (suc (suc (8 * i + j)))))))) ≡ 8 * suc i + j = omega arith in
    ap (λ (v : List Bool). to_bits 8 y ++ v) (set_byte s i j x b (le_of_suc-le-suc hi) hj e)
    ∙ set_past y (bits_of s) (8 * i + j) b
    ∙ ap (λ (k : ℕ). set (to_bits 8 y ++ bits_of s) k b) n

pub set_bits_of : (s : List ℕ) (at x : ℕ) (b : Bool) → at < 8 * length s → to_bits 8 x ≡ set (to_bits 8 (get_or s (at / 8) 0)) (at % 8) b
    → bits_of (set s (at / 8) x) ≡ set (bits_of s) at b
set_bits_of s at x b h e =
    let n : 8 * (at / 8) + at % 8 ≡ at = omega arith in
    set_byte s (at / 8) (at % 8) x b (omega arith) (omega arith) e ∙ ap (λ (k : ℕ). set (bits_of s) k b) n

pub bits_of_append : (s t : List ℕ) → bits_of (s ++ t) ≡ bits_of s ++ bits_of t
unfolding bits_of
bits_of_append [] t = refl
bits_of_append (b ∷ s) t = ap (λ (v : List Bool). to_bits 8 b ++ v) (bits_of_append s t) ∙ sym (append_assoc (to_bits 8 b) (bits_of s) (bits_of t))

pub bits_of_zeros : (k : ℕ) → bits_of (replicate k 0) ≡ zeros (8 * k)
unfolding bits_of
bits_of_zeros zero = refl
bits_of_zeros (suc k) =
    let more : 8 + 8 * k ≡ 8 * suc k = omega arith in
    ap₂ (λ (p q : List Bool). p ++ q) (to_bits_zero 8) (bits_of_zeros k)
    ∙ replicate-append-replicate 8 (8 * k) false
    ∙ ap zeros more

pub drop_bits_of : (k : ℕ) (s : List ℕ) → drop (8 * k) (bits_of s) ≡ bits_of (drop k s)
unfolding bits_of to_bits
drop_bits_of zero s = refl
drop_bits_of (suc k) [] = ap (λ (i : ℕ). drop i []) (eight_more k)
drop_bits_of (suc k) (b ∷ s) = ap (λ (i : ℕ). drop i (to_bits 8 b ++ bits_of s)) (eight_more k) ∙ drop_bits_of k s

pub take_bits_of : (k : ℕ) (s : List ℕ) → take (8 * k) (bits_of s) ≡ bits_of (take k s)
unfolding bits_of to_bits
take_bits_of zero s = refl
take_bits_of (suc k) [] = ap (λ (i : ℕ). take i []) (eight_more k)
take_bits_of (suc k) (b ∷ s) =
    ap (λ (i : ℕ). take i (to_bits 8 b ++ bits_of s)) (eight_more k) ∙ ap (λ (v : List Bool). to_bits 8 b ++ v) (take_bits_of k s)

-- A slice from byte k on, `&s[k..]`, is what is left after k bytes.
pub tail : (k : ℕ) (s : List ℕ) → take (length s - k) (drop k s) ≡ drop k s
tail k s = take_all (length s - k) (drop k s) (le_of_eq (length-drop k s))

-- The bits from bit o on are those from bit o % 8 on of the bytes from byte o / 8 on.
pub part : (o : ℕ) (s : List ℕ) → drop o (bits_of s) ≡ drop (o % 8) (bits_of (drop (o / 8) s))
part o s =
    let n : o ≡ 8 * (o / 8) + o % 8 = omega arith in
    ap (λ (k : ℕ). drop k (bits_of s)) n
    ∙ sym (drop-drop (o % 8) (8 * (o / 8)) (bits_of s))
    ∙ ap (drop (o % 8)) (drop_bits_of (o / 8) s)

-- The same as a caller has it who lends `&bytes[o / 8..]`.
pub part_lent : (o : ℕ) (s : List ℕ) → drop (o % 8) (bits_of (take (length s - o / 8) (drop (o / 8) s))) ≡ drop o (bits_of s)
part_lent o s = ap (λ (t : List ℕ). drop (o % 8) (bits_of t)) (tail (o / 8) s) ∙ sym (part o s)

take_byte : (b : ℕ) (v : List Bool) → take 8 (to_bits 8 b ++ v) ≡ to_bits 8 b
unfolding to_bits
take_byte b v = refl

pub byte_bits : (s : List ℕ) (i : ℕ) → i < length s → take 8 (drop (8 * i) (bits_of s)) ≡ to_bits 8 (get_or s i 0)
unfolding bits_of
byte_bits s i h =
    ap (take 8) (drop_bits_of i s ∙ ap bits_of (drop-cons s i 0 h)) ∙ take_byte (get_or s i 0) (bits_of (drop (suc i) s))

pub bits_of_injective : (s t : List ℕ) → Bytes s → Bytes t → bits_of s ≡ bits_of t → s ≡ t
bits_of_injective s t hs ht e =
    let l : length s ≡ length t = length_by_bits s t (ap length e) in
    ext_get_or 0 s t l
    (λ i h.
    let k : i < length t = omega arith in
    to_bits_injective 8 (get_or s i 0) (get_or t i 0) (hs.below i h) (ht.below i k)
    (sym (byte_bits s i h) ∙ ap (λ (v : List Bool). take 8 (drop (8 * i) v)) e ∙ byte_bits t i k))

pub are_bytes : (s : List ℕ) → ((i : ℕ) → Fits w8 (get_or s i 0)) → Bytes s
are_bytes s known = record { below = λ i h. (known i).fits }

append_below : (s t : List ℕ) → ((i : ℕ) → i < length s → get_or s i 0 < 256) → ((i : ℕ) → i < length t → get_or t i 0 < 256)
    → (i : ℕ) → i < length (s ++ t) → get_or (s ++ t) i 0 < 256
append_below [] t hs ht i h = ht i h
append_below (x ∷ s) t hs ht zero h = hs 0 (suc-le-suc zero-le)
append_below (x ∷ s) t hs ht (suc i) h = append_below s t (λ j l. hs (suc j) (suc-le-suc l)) ht i (le_of_suc-le-suc h)

pub bytes_append : (s t : List ℕ) → Bytes s → Bytes t → Bytes (s ++ t)
bytes_append s t hs ht = record { below = append_below s t hs.below ht.below }

pub bytes_drop : (k : ℕ) (s : List ℕ) → Bytes s → Bytes (drop k s)
bytes_drop k s hs =
    record { below = λ i h. subst (λ (x : ℕ). x < 256) (sym (get_or-drop k s i 0)) (hs.below (k + i) (omega (arith, length-drop k s))) }

pub bytes_take : (k : ℕ) (s : List ℕ) → Bytes s → Bytes (take k s)
bytes_take k s hs =
    record {
      below =
          λ i h.
          subst (λ (x : ℕ). x < 256) (sym (get_or-take k s i 0 (omega (arith, length-take k s))))
          (hs.below i (omega (arith, length-take k s)));
    }
