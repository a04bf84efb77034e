-- The segments of a buffer, one after the other.
--
--   held_within                 a present segment's bytes are there
--   present_bits absent_bits    the bits of a segment, by that bit of the length
--   length_segment              a tag and eight bits a byte
--   held_drop held_most         what follows a segment is the data past what it holds, and it holds no more than there is
--   segments segments_next      the segments below k, and the first of them
--   length_buffer buffer_small  as many bits as the buffer type is wide, and how many that is at most
--   parts_begin part_room part_next part_paste parts_end    segments written one after the other, from the first to the last
--   paste_tagged                a tag, and a run after it
-- Assumes nothing.
use Prim.Native.Nat.{ℕ, zero, suc, ◌+◌, ◌*◌, ◌/◌, ◌^◌, ◌≤◌, ◌<◌}
use mathlib.Core.Path.{◌≡◌, refl, sym, ap, ap₂, ◌∙◌}
use mathlib.Core.Bool.{Bool, true, false, cond, false≢true}
use mathlib.Core.List.{List, [], ◌∷◌, ◌++◌, append-nil}
use native.Mathlib.Nat.{div-eq_of_lt, le_of_eq}
use native.Mathlib.Numerals.{one-add, add-one}
use native.Mathlib.Decide.{dec_le}
use native.Mathlib.Omega.{arith}
use lib.ListN.{length, take, drop, set, length-append, length-take, length-drop, length-replicate}
use lib.Seq.{paste, take_all, take_at, drop_at, drop-drop}
use Rattle.meaning.specs.Types.{bits}
use Rattle.meaning.specs.Bits.{odd, bits_of, zeros}
use Rattle.meaning.specs.Words.{segment_bits, after_segment, buffer, buffer_bits}
use Rattle.bits.proofs.OfBytes.{length_bits_of, take_bits_of}
use Rattle.meaning.proofs.Pasted.{paste_take, paste_append, set_as_paste}
use Rattle.meaning.proofs.Powers.{pow_twelve}
use Rattle.meaning.proofs.Buffers.{bits_segment, bits_buffer}
use Rattle.words_laws.specs.Segments.{held_by}
use Rattle.words_laws.proofs.Pieces.{paste_part}

pub held_within : (k x : ℕ) → odd (x / 2 ^ k) ≡ true → 2 ^ k ≤ x
unfolding odd
held_within k x h = elim (dec_le (2 ^ k) x) [ yes there ↦ there | no short ↦ absurd (none (omega arith)) ]
  where
    none : x < 2 ^ k → ⊥
    none l = false≢true (ap odd (sym (div-eq_of_lt l)) ∙ h)

pub present_bits : (k : ℕ) (d : List ℕ) → odd (length d / 2 ^ k) ≡ true → segment_bits k d ≡ true ∷ take (8 * 2 ^ k) (bits_of d)
present_bits k d h =
    ap (λ (b : Bool). cond b (true ∷ bits_of (take (2 ^ k) d)) (false ∷ zeros (8 * 2 ^ k))) h
    ∙ ap (λ (v : List Bool). true ∷ v) (sym (take_bits_of (2 ^ k) d))

pub absent_bits : (k : ℕ) (d : List ℕ) → odd (length d / 2 ^ k) ≡ false → segment_bits k d ≡ zeros (1 + 8 * 2 ^ k)
absent_bits k d h =
    ap (λ (b : Bool). cond b (true ∷ bits_of (take (2 ^ k) d)) (false ∷ zeros (8 * 2 ^ k))) h
    ∙ ap zeros (sym (one-add (8 * 2 ^ k)))

pub length_segment : (k : ℕ) (d : List ℕ) → length (segment_bits k d) ≡ 1 + 8 * 2 ^ k
length_segment k d = by_tag (odd (length d / 2 ^ k)) refl
  where
    by_tag : (b : Bool) → odd (length d / 2 ^ k) ≡ b → length (segment_bits k d) ≡ 1 + 8 * 2 ^ k
    by_tag true h =
        let there = held_within k (length d) h in
        ap length (present_bits k d h) ∙ simp (length-take, length_bits_of) (omega arith)
    by_tag false h = ap length (absent_bits k d h) ∙ length-replicate (1 + 8 * 2 ^ k) false

pub held_drop : (k : ℕ) (d : List ℕ) → drop (held_by k d) d ≡ after_segment k d
held_drop k d = by_tag (odd (length d / 2 ^ k))
  where
    by_tag : (b : Bool) → drop (cond b (2 ^ k) 0) d ≡ cond b (drop (2 ^ k) d) d
    by_tag true = refl
    by_tag false = refl

pub held_most : (k : ℕ) (d : List ℕ) → held_by k d ≤ length d
held_most k d = by_tag (odd (length d / 2 ^ k)) refl
  where
    by_tag : (b : Bool) → odd (length d / 2 ^ k) ≡ b → cond b (2 ^ k) 0 ≤ length d
    by_tag true h = held_within k (length d) h
    by_tag false h = omega arith

-- The segments below k that hold data.
unfoldable pub segments : ℕ → List ℕ → List Bool
segments zero d = []
segments (suc k) d = buffer_bits k d

pub segments_next : (k : ℕ) (d : List ℕ) → segments (suc k) d ≡ segment_bits k d ++ segments k (after_segment k d)
unfolding segments buffer_bits
segments_next zero d = sym (append-nil (segment_bits 0 d))
segments_next (suc k) d = refl

pub length_buffer : (n : ℕ) (d : List ℕ) → length (buffer_bits n d) ≡ bits (buffer n)
unfolding buffer_bits buffer bits
length_buffer zero d = length_segment 0 d ∙ sym (bits_segment 0)
length_buffer (suc n) d =
    length-append (segment_bits (suc n) d) (buffer_bits n (after_segment (suc n) d))
    ∙ ap₂ ◌+◌ (length_segment (suc n) d ∙ sym (bits_segment (suc n))) (length_buffer n (after_segment (suc n) d))

pub buffer_small : (n : ℕ) → n < 13 → bits (buffer n) ≤ 65541
buffer_small n h =
    let b = bits_buffer n in
    let p = pow_twelve n h in
    omega arith

-- One segment of a buffer is written, where those above it are: `at` is how many bits they take, and `done` how many bytes they hold.
module _ (n k at done : ℕ) (held : List ℕ) (h : at ≤ bits (buffer n)) (e : drop at (buffer_bits n held) ≡ segments (suc k) (drop done held)) where
  parted : drop at (buffer_bits n held) ≡ segment_bits k (drop done held) ++ segments k (after_segment k (drop done held))
  parted = e ∙ segments_next k (drop done held)

  pub part_room : at + (1 + 8 * 2 ^ k) ≤ bits (buffer n)
  part_room =
      let l = length-append (segment_bits k (drop done held)) (segments k (after_segment k (drop done held))) in
      let m = length_segment k (drop done held) in
      let d = sym (length-drop at (buffer_bits n held)) ∙ ap length parted in
      let b = length_buffer n held in
      omega arith

  pub part_next : drop (at + (1 + 8 * 2 ^ k)) (buffer_bits n held) ≡ segments k (drop (done + held_by k (drop done held)) held)
  part_next =
      sym (drop-drop (1 + 8 * 2 ^ k) at (buffer_bits n held))
      ∙ ap (drop (1 + 8 * 2 ^ k)) parted
      ∙ drop_at (segment_bits k (drop done held)) (segments k (after_segment k (drop done held))) (1 + 8 * 2 ^ k) (length_segment k (drop done held))
      ∙ ap (segments k) (sym (held_drop k (drop done held)) ∙ drop-drop (held_by k (drop done held)) done held)

  pub part_paste : (old : List Bool)
      → paste (paste old 0 (buffer_bits n held) at) at (segment_bits k (drop done held)) (1 + 8 * 2 ^ k)
      ≡ paste old 0 (buffer_bits n held) (at + (1 + 8 * 2 ^ k))
  part_paste old =
      paste_part old (buffer_bits n held) (segment_bits k (drop done held)) at (1 + 8 * 2 ^ k) (omega (arith, length_buffer n held))
      (take_all (1 + 8 * 2 ^ k) (segment_bits k (drop done held)) (le_of_eq (length_segment k (drop done held)))
      ∙ sym (take_at (segment_bits k (drop done held)) (segments k (after_segment k (drop done held))) (1 + 8 * 2 ^ k) (length_segment k (drop done held)))
      ∙ ap (take (1 + 8 * 2 ^ k)) (sym parted))

-- Before the first segment, and after the last.
pub parts_begin : (n : ℕ) (held : List ℕ) → buffer_bits n held ≡ segments (n + 1) held
unfolding segments
parts_begin n held = ap (λ (k : ℕ). segments k held) (sym (add-one n))

pub parts_end : (n at done : ℕ) (held : List ℕ) → at ≤ bits (buffer n) → drop at (buffer_bits n held) ≡ segments 0 (drop done held) → at ≡ bits (buffer n)
unfolding segments
parts_end n at done held h e =
    let d = sym (length-drop at (buffer_bits n held)) ∙ ap length e in let b = length_buffer n held in omega arith

pub paste_tagged : (d : List Bool) (at : ℕ) (b : Bool) (v : List Bool) (n : ℕ) → at < length d
    → paste (set d at b) (at + 1) v n ≡ paste d at (b ∷ take n v) (1 + n)
paste_tagged d at b v n h =
    sym (paste_take (set d at b) (at + 1) v n)
    ∙ ap (λ (w : List Bool). paste w (at + 1) (take n v) n) (set_as_paste d at b h)
    ∙ paste_append d at (b ∷ []) 1 (take n v) n (omega arith) refl
