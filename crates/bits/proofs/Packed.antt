-- Laws of `pack` and `written`: bytes that hold bits, and an output that bits were written to. The last two are what a writer cites at its end.
--
--   to_bits_padded                        the bits of the number that a short list makes: zero after its end
--   length_pack bits_of_pack bytes_pack pack_bits_of
--   length_written bits_of_written bytes_written
--   written_by_bits                       an output is known by its bits
--   finished                              bits pasted at bit 0, and the rest of their last byte cleared
use mathlib.Core.Path.{◌≡◌, refl, sym, ap, ap₂, ◌∙◌}
use mathlib.Core.Bool.{Bool, false}
use mathlib.Core.List.{List, [], ◌∷◌, ◌++◌, append_assoc, append-nil}
use Prim.Native.Nat.{ℕ, zero, suc, ◌+◌, ◌-◌, ◌*◌, ◌≤◌, ◌<◌, zero-le}
use native.Mathlib.Nat.{zero-add, sub-zero, zero-sub, suc-sub-suc, le_of_suc-le-suc}
use native.Mathlib.Decide.{dec_le}
use native.Mathlib.Omega.{arith}
use lib.ListN.{length, get_or, take, drop, length-append, length-drop, drop_of_length-le, take-append-drop}
use lib.ListN.{length-replicate, replicate-append-replicate}
use lib.Pow.{high}
use lib.Seq.{paste, take_all}
use Rattle.meaning.specs.Bits.{odd, to_bits, bits_of, zeros, room, bit, value, pack_to, pack, written}
use Rattle.meaning.specs.Checked.{Bytes}
use Rattle.bits.proofs.Numbers.{to_bits_lower, to_bits_zero, value_below, odd_bit}
use Rattle.bits.proofs.OfBytes.{length_bits_of, bits_of_append, drop_bits_of, bits_of_injective, bytes_append, bytes_drop}
use Rattle.meaning.proofs.Pasted.{paste_front, paste_append}

pub to_bits_padded : (k : ℕ) (v : List Bool) → to_bits k (value k v) ≡ take k v ++ zeros (k - length v)
unfolding value to_bits odd
to_bits_padded zero v = ap zeros (sym (zero-sub (length v)))
to_bits_padded (suc k) [] = to_bits_zero (suc k) ∙ ap zeros (sym (sub-zero (suc k)))
to_bits_padded (suc k) (b ∷ v) =
    ap₂ (λ (c : Bool) (r : List Bool). c ∷ r)
    (ap odd (high (bit b) k (value_below k v)) ∙ odd_bit b)
    (to_bits_lower k (bit b) (value k v) (value_below k v)
    ∙ to_bits_padded k v
    ∙ ap (λ (j : ℕ). take k v ++ zeros j) (sym (suc-sub-suc k (length v))))

-- ---- Packed bits

length_pack_to : (k : ℕ) (v : List Bool) → length (pack_to k v) ≡ k
unfolding pack_to
length_pack_to zero v = refl
length_pack_to (suc k) v = ap suc (length_pack_to k (drop 8 v))

-- A first byte that v fills, and one that it does not.
first_full : (k : ℕ) (v : List Bool) → 8 ≤ length v
    → (take 8 v ++ zeros (8 - length v)) ++ (drop 8 v ++ zeros (8 * k - length (drop 8 v))) ≡ v ++ zeros (8 * suc k - length v)
first_full k v h =
    let e : 8 - length v ≡ 0 = omega arith in
    let f : 8 * k - length (drop 8 v) ≡ 8 * suc k - length v = omega (arith, length-drop 8 v) in
    ap₂ (λ (i j : ℕ). (take 8 v ++ zeros i) ++ (drop 8 v ++ zeros j)) e f
    ∙ ap (λ (r : List Bool). r ++ (drop 8 v ++ zeros (8 * suc k - length v))) (append-nil (take 8 v))
    ∙ sym (append_assoc (take 8 v) (drop 8 v) (zeros (8 * suc k - length v)))
    ∙ ap (λ (r : List Bool). r ++ zeros (8 * suc k - length v)) (take-append-drop 8 v)

first_short : (k : ℕ) (v : List Bool) → length v ≤ 8
    → (take 8 v ++ zeros (8 - length v)) ++ (drop 8 v ++ zeros (8 * k - length (drop 8 v))) ≡ v ++ zeros (8 * suc k - length v)
first_short k v h =
    let f : 8 * k - length (drop 8 v) ≡ 8 * k = omega (arith, length-drop 8 v) in
    let g : 8 - length v + 8 * k ≡ 8 * suc k - length v = omega arith in
    ap₂ (λ (p q : List Bool). (p ++ zeros (8 - length v)) ++ q) (take_all 8 v h)
    (ap₂ (λ (r : List Bool) (j : ℕ). r ++ zeros j) (drop_of_length-le v h) f)
    ∙ append_assoc v (zeros (8 - length v)) (zeros (8 * k))
    ∙ ap (λ (r : List Bool). v ++ r) (replicate-append-replicate (8 - length v) (8 * k) false ∙ ap zeros g)

bits_of_pack_to : (k : ℕ) (v : List Bool) → length v ≤ 8 * k → bits_of (pack_to k v) ≡ v ++ zeros (8 * k - length v)
unfolding bits_of pack_to
bits_of_pack_to zero [] h = refl
bits_of_pack_to zero (b ∷ v) h = absurd (omega arith)
bits_of_pack_to (suc k) v h =
    ap₂ (λ (p q : List Bool). p ++ q) (to_bits_padded 8 v) (bits_of_pack_to k (drop 8 v) (omega (arith, length-drop 8 v)))
    ∙ elim (dec_le 8 (length v)) [ yes full ↦ first_full k v full | no short ↦ first_short k v (omega arith) ]

bytes_pack_to : (k : ℕ) (v : List Bool) (i : ℕ) → i < length (pack_to k v) → get_or (pack_to k v) i 0 < 256
unfolding pack_to
bytes_pack_to zero v i h = absurd (omega arith)
bytes_pack_to (suc k) v zero h = value_below 8 v
bytes_pack_to (suc k) v (suc i) h = bytes_pack_to k (drop 8 v) i (le_of_suc-le-suc h)

pub length_pack : (v : List Bool) → length (pack v) ≡ room (length v)
unfolding pack
length_pack v = length_pack_to (room (length v)) v

pub bits_of_pack : (v : List Bool) → bits_of (pack v) ≡ v ++ zeros (8 * room (length v) - length v)
unfolding pack
bits_of_pack v = bits_of_pack_to (room (length v)) v (omega arith)

pub bytes_pack : (v : List Bool) → Bytes (pack v)
unfolding pack
bytes_pack v = record { below = bytes_pack_to (room (length v)) v }

pub pack_bits_of : (s : List ℕ) → Bytes s → pack (bits_of s) ≡ s
pack_bits_of s h =
    let e : 8 * room (length (bits_of s)) - length (bits_of s) ≡ 0 = omega (arith, length_bits_of s) in
    bits_of_injective (pack (bits_of s)) s (bytes_pack (bits_of s)) h
    (bits_of_pack (bits_of s) ∙ ap (λ (k : ℕ). bits_of s ++ zeros k) e ∙ append-nil (bits_of s))

-- ---- A written output

pub length_written : (v : List Bool) (old : List ℕ) → room (length v) ≤ length old → length (written v old) ≡ length old
unfolding written
length_written v old h =
    omega (arith, length-append (pack v) (drop (room (length v)) old), length_pack v, length-drop (room (length v)) old)

pub bits_of_written : (v : List Bool) (old : List ℕ)
    → bits_of (written v old) ≡ v ++ (zeros (8 * room (length v) - length v) ++ drop (8 * room (length v)) (bits_of old))
unfolding written
bits_of_written v old =
    bits_of_append (pack v) (drop (room (length v)) old)
    ∙ ap₂ (λ (p q : List Bool). p ++ q) (bits_of_pack v) (sym (drop_bits_of (room (length v)) old))
    ∙ append_assoc v (zeros (8 * room (length v) - length v)) (drop (8 * room (length v)) (bits_of old))

pub bytes_written : (v : List Bool) (old : List ℕ) → Bytes old → Bytes (written v old)
unfolding written
bytes_written v old h = bytes_append (pack v) (drop (room (length v)) old) (bytes_pack v) (bytes_drop (room (length v)) old h)

pub written_by_bits : (v : List Bool) (old new : List ℕ) → Bytes old → Bytes new
    → bits_of new ≡ v ++ (zeros (8 * room (length v) - length v) ++ drop (8 * room (length v)) (bits_of old)) → new ≡ written v old
written_by_bits v old new ho hn e = bits_of_injective new (written v old) hn (bytes_written v old ho) (e ∙ sym (bits_of_written v old))

-- The w bits of v pasted over an output at bit 0 give `mid`, and its last byte finished gives `new`.
pub finished : (v : List Bool) (w : ℕ) (old mid new : List ℕ) → length v ≡ w → Bytes old → Bytes new
    → bits_of mid ≡ paste (bits_of old) 0 v w
    → bits_of new ≡ paste (bits_of mid) w (zeros (8 * room w - w)) (8 * room w - w)
    → new ≡ written v old
finished v w old mid new ev ho hn em en =
    let k : ℕ = 8 * room w - w in
    let all : length (v ++ zeros k) ≡ w + k = omega (arith, length-append v (zeros k), length-replicate k false) in
    let end : w + k ≡ 8 * room w = omega arith in
    written_by_bits v old new ho hn
    (en
    ∙ ap₂ (λ (m : List Bool) (i : ℕ). paste m i (zeros k) k) em (sym (zero-add w))
    ∙ paste_append (bits_of old) 0 v w (zeros k) k zero-le ev
    ∙ paste_front (bits_of old) (v ++ zeros k) (w + k) all
    ∙ append_assoc v (zeros k) (drop (w + k) (bits_of old))
    ∙ ap (λ (i : ℕ). v ++ (zeros k ++ drop i (bits_of old))) end
    ∙ ap (λ (n : ℕ). v ++ (zeros (8 * room n - n) ++ drop (8 * room n) (bits_of old))) (sym ev))
