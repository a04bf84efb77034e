-- The data of a buffer can be read off its segments: no two data share a buffer record.
--
--   tag_tells                   the tag of a segment says whether it is present
--   present_tells               a present segment tells the bytes that it holds
--   segments_injective          the segments below k tell data of less than 2^k bytes
--   buffer_injective            a buffer tells its data, within its limit
-- Assumes nothing.
use Prim.Native.Nat.{ℕ, zero, suc, ◌+◌, ◌*◌, ◌/◌, ◌%◌, ◌^◌, ◌<◌}
use mathlib.Core.Path.{◌≡◌, refl, sym, ap, ap₂, ◌∙◌}
use mathlib.Core.Bool.{Bool, true, false, cond, true≢false}
use mathlib.Core.List.{List, [], ◌∷◌, ◌++◌}
use native.Mathlib.Nat.{two-pow-succ, div-lt_iff_lt-mul}
use native.Mathlib.Omega.{arith}
use lib.ListN.{length, take, drop, get_or, length-drop, take-append-drop}
use lib.Pow.{pow_pos}
use lib.Seq.{take_at, drop_at}
use borrow.Author.Tests.{eqb-false}
use Rattle.meaning.specs.Bits.{odd, bits_of, zeros}
use Rattle.meaning.specs.Words.{segment_bits, after_segment, buffer_bits}
use Rattle.meaning.specs.Checked.{Bytes}
use Rattle.bits.proofs.OfBytes.{bits_of_injective, bytes_take, bytes_drop}
use Rattle.words_laws.proofs.Parts.{length_segment, segments, segments_next, parts_begin}

-- The bit of the length that segment k stands for.
abbrev held : ℕ → List ℕ → Bool
held k d = odd (length d / 2 ^ k)

first_bit : (g : Bool) (v w : List Bool) → get_or (cond g (true ∷ v) (false ∷ w)) 0 false ≡ g
first_bit true v w = refl
first_bit false v w = refl

pub tag_tells : (k : ℕ) (a b : List ℕ) → segment_bits k a ≡ segment_bits k b → held k a ≡ held k b
tag_tells k a b e =
    sym (first_bit (held k a) (bits_of (take (2 ^ k) a)) (zeros (8 * 2 ^ k)))
    ∙ ap (λ (v : List Bool). get_or v 0 false) e
    ∙ first_bit (held k b) (bits_of (take (2 ^ k) b)) (zeros (8 * 2 ^ k))

present_rest : (g : Bool) (v w : List Bool) → g ≡ true → drop 1 (cond g (true ∷ v) (false ∷ w)) ≡ v
present_rest true v w h = refl
present_rest false v w h = absurd (true≢false (sym h))

pub present_tells : (k : ℕ) (a b : List ℕ) → Bytes a → Bytes b → held k a ≡ true → held k b ≡ true → segment_bits k a ≡ segment_bits k b
    → take (2 ^ k) a ≡ take (2 ^ k) b
present_tells k a b ha hb pa pb e =
    bits_of_injective (take (2 ^ k) a) (take (2 ^ k) b) (bytes_take (2 ^ k) a ha) (bytes_take (2 ^ k) b hb)
    (sym (present_rest (held k a) (bits_of (take (2 ^ k) a)) (zeros (8 * 2 ^ k)) pa)
    ∙ ap (drop 1) e
    ∙ present_rest (held k b) (bits_of (take (2 ^ k) b)) (zeros (8 * 2 ^ k)) pb)

-- Data of less than twice 2^k bytes whose segment k is absent has less than 2^k; what follows a present one has.
absent_short : (k : ℕ) (d : List ℕ) → length d < 2 ^ suc k → held k d ≡ false → length d < 2 ^ k
unfolding odd
absent_short k d h e =
    let double = two-pow-succ k in
    let two : length d / 2 ^ k < 2 = (div-lt_iff_lt-mul {k = 2 ^ k} {x = length d} {y = 2} (pow_pos k)).1 (omega arith) in
    let f : length d / 2 ^ k % 2 ≡ 1 → ⊥ = eqb-false (length d / 2 ^ k % 2) 1 e in
    let g : length d / 2 ^ k ≡ 1 → ⊥ = λ q. f (omega arith) in
    let one : length d / 2 ^ k < 1 = omega arith in
    let low : length d < 1 * 2 ^ k = (div-lt_iff_lt-mul {k = 2 ^ k} {x = length d} {y = 1} (pow_pos k)).0 one in
    omega arith

present_short : (k : ℕ) (d : List ℕ) → length d < 2 ^ suc k → length (drop (2 ^ k) d) < 2 ^ k
present_short k d h =
    let double = two-pow-succ k in let l = length-drop (2 ^ k) d in let p = pow_pos k in omega arith

no_bytes : (d : List ℕ) → length d < 1 → d ≡ []
no_bytes [] h = refl
no_bytes (x ∷ d) h = absurd (omega arith)

-- The first segment, and the rest, of two buffers with equal bits.
module _ (k : ℕ) (a b : List ℕ) (e : segments (suc k) a ≡ segments (suc k) b) where
  halves : segment_bits k a ++ segments k (after_segment k a) ≡ segment_bits k b ++ segments k (after_segment k b)
  halves = sym (segments_next k a) ∙ e ∙ segments_next k b

  first_same : segment_bits k a ≡ segment_bits k b
  first_same =
      sym (take_at (segment_bits k a) (segments k (after_segment k a)) (1 + 8 * 2 ^ k) (length_segment k a))
      ∙ ap (take (1 + 8 * 2 ^ k)) halves
      ∙ take_at (segment_bits k b) (segments k (after_segment k b)) (1 + 8 * 2 ^ k) (length_segment k b)

  rest_same : segments k (after_segment k a) ≡ segments k (after_segment k b)
  rest_same =
      sym (drop_at (segment_bits k a) (segments k (after_segment k a)) (1 + 8 * 2 ^ k) (length_segment k a))
      ∙ ap (drop (1 + 8 * 2 ^ k)) halves
      ∙ drop_at (segment_bits k b) (segments k (after_segment k b)) (1 + 8 * 2 ^ k) (length_segment k b)

after_present : (k : ℕ) (d : List ℕ) → held k d ≡ true → after_segment k d ≡ drop (2 ^ k) d
after_present k d h = ap (λ (g : Bool). cond g (drop (2 ^ k) d) d) h

after_absent : (k : ℕ) (d : List ℕ) → held k d ≡ false → after_segment k d ≡ d
after_absent k d h = ap (λ (g : Bool). cond g (drop (2 ^ k) d) d) h

pub segments_injective : (k : ℕ) (a b : List ℕ) → length a < 2 ^ k → length b < 2 ^ k → Bytes a → Bytes b → segments k a ≡ segments k b → a ≡ b
segments_injective zero a b la lb ha hb e = no_bytes a la ∙ sym (no_bytes b lb)
segments_injective (suc k) a b la lb ha hb e =
    by_tag (λ c d. segments_injective k c d) (held k a) refl (sym (tag_tells k a b (first_same k a b e)))
  where
    by_tag : ((c d : List ℕ) → length c < 2 ^ k → length d < 2 ^ k → Bytes c → Bytes d → segments k c ≡ segments k d → c ≡ d)
        → (g : Bool) → held k a ≡ g → held k b ≡ held k a → a ≡ b
    by_tag below true pa p =
        let pb : held k b ≡ true = p ∙ pa in
        sym (take-append-drop (2 ^ k) a)
        ∙ ap₂ (λ (x y : List ℕ). x ++ y) (present_tells k a b ha hb pa pb (first_same k a b e))
        (below (drop (2 ^ k) a) (drop (2 ^ k) b) (present_short k a la) (present_short k b lb) (bytes_drop (2 ^ k) a ha) (bytes_drop (2 ^ k) b hb)
        (ap (segments k) (sym (after_present k a pa)) ∙ rest_same k a b e ∙ ap (segments k) (after_present k b pb)))
        ∙ take-append-drop (2 ^ k) b
    by_tag below false pa p =
        let pb : held k b ≡ false = p ∙ pa in
        below a b (absent_short k a la pa) (absent_short k b lb pb) ha hb
        (ap (segments k) (sym (after_absent k a pa)) ∙ rest_same k a b e ∙ ap (segments k) (after_absent k b pb))

pub buffer_injective : (n : ℕ) (a b : List ℕ) → length a < 2 ^ (n + 1) → length b < 2 ^ (n + 1) → Bytes a → Bytes b → buffer_bits n a ≡ buffer_bits n b → a ≡ b
buffer_injective n a b la lb ha hb e = segments_injective (n + 1) a b la lb ha hb (sym (parts_begin n a) ∙ e ∙ parts_begin n b)
