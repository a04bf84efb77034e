-- `words_segments::write_buffer` meets its contract. Assumes nothing.
use Prim.Native.Nat.{ℕ, suc, ◌+◌, ◌-◌, ◌*◌, ◌^◌, ◌≤◌, ◌<◌}
use mathlib.Core.Path.{◌≡◌, refl, sym, ap, ap₂, ◌∙◌}
use mathlib.Core.Bool.{Bool}
use mathlib.Core.List.{List}
use native.Mathlib.Omega.{arith}
use lib.ListN.{length, get_or, take, drop, length-drop}
use lib.Seq.{paste, paste-zero}
use Rattle.meaning.specs.Types.{bits}
use Rattle.meaning.specs.Bits.{bits_of}
use Rattle.meaning.specs.Words.{word_widths, segment_bits, buffer, buffer_bits}
use Rattle.meaning.proofs.WordWidths.{word-widths}
use Rattle.bits.proofs.OfBytes.{tail}
use Rattle.words_laws.specs.Segments.{held_by}
use Rattle.words_laws.proofs.Parts.{segments, held_most, buffer_small, parts_begin, part_room, part_next, part_paste, parts_end}
use Rattle.words_segments.proofs.write_buffer.Goals as goal

-- A turn of the loop: i segments are written, and segment n − i is next.
module _ (n i at done : ℕ) (held : List ℕ) (h : n < 13) (l : i ≤ n) (a : at ≤ bits (buffer n)) (d : done ≤ length held)
    (p : drop at (buffer_bits n held) ≡ segments (n + 1 - i) (drop done held)) where
  -- The number of the segment, and the data that is left.
  abbrev k : ℕ
  k = n - i

  abbrev rest : List ℕ
  rest = drop done held

  left : drop at (buffer_bits n held) ≡ segments (suc k) rest
  left =
      let one : n + 1 - i ≡ suc k = omega (arith, l) in
      p ∙ ap (λ (j : ℕ). segments j rest) one

  -- Its end lies within the buffer and within 65,541 bits.
  ends : (at + (1 + 8 * 2 ^ k) ≤ bits (buffer n)) × (bits (buffer n) ≤ 65541)
  ends = (part_room n k at done held a left, buffer_small n h)

  -- How much of the data it holds.
  module _ (m : ℕ) (e : m ≡ held_by k (take (length held - done) rest)) where
    holds : m ≡ held_by k rest
    holds = e ∙ ap (held_by k) (tail done held)

    most : done + m ≤ length held
    most = omega (arith, holds, held_most k rest, length-drop done held, d)

    next : drop (at + (1 + 8 * 2 ^ k)) (buffer_bits n held) ≡ segments (n + 1 - (i + 1)) (drop (done + m) held)
    next =
        let below : k ≡ n + 1 - (i + 1) = omega (arith, l) in
        part_next n k at done held a left ∙ ap₂ (λ (j z : ℕ). segments j (drop (done + z) held)) below (sym holds)

  -- The bits that are written.
  wrote : (old now new : List Bool) → now ≡ paste old 0 (buffer_bits n held) at
      → new ≡ paste now at (segment_bits k (take (length held - done) rest)) (1 + 8 * 2 ^ k)
      → new ≡ paste old 0 (buffer_bits n held) (at + (1 + 8 * 2 ^ k))
  wrote old now new f g =
      g
      ∙ ap₂ (λ (v : List Bool) (z : List ℕ). paste v at (segment_bits k z) (1 + 8 * 2 ^ k)) f (tail done held)
      ∙ part_paste n k at done held a left old

  -- A segment's size.
  size : (w : ℕ) → w ≡ get_or word_widths k 0 → w ≡ 2 ^ k
  size w e = e ∙ word-widths k (omega (arith, h))

pub loop-i-init : goal.loop-i-init
loop-i-init c =
    let a = c.args in
    let all : a.n + 1 ≡ a.n + 1 - 0 = omega arith in (
      refl,
      omega arith,
      omega arith,
      omega arith,
      parts_begin a.n a.held.now ∙ ap (λ (k : ℕ). segments k a.held.now) all,
      paste-zero (bits_of a.out.now) 0 (buffer_bits a.n a.held.now),
    )

pub write_segment-done-requires : goal.write_segment-done-requires
write_segment-done-requires c =
    let a = c.args in
    let l = c.loop-i in
    let v = l.invariant in
    let e = ends a.n l.i l.at l.done a.held.now c.requires.n_bound (omega arith) v.3 v.2 v.4 in
    record { k_bound = omega arith; k_bound_2 = omega arith; run = record { inside = omega arith; counted = omega arith } }

pub overflow_add-done : goal.overflow_add-done
overflow_add-done c =
    let a = c.args in
    let l = c.loop-i in
    let v = l.invariant in
    let m =
    most a.n l.i l.at l.done a.held.now c.requires.n_bound (omega arith) v.3 v.2 v.4 _ c.write_segment-done.ensures.value in
    record { fits = omega arith }

pub overflow_mul-at : goal.overflow_mul-at
overflow_mul-at c =
    let a = c.args in
    let l = c.loop-i in
    let v = l.invariant in
    let w = size a.n l.i l.at l.done a.held.now c.requires.n_bound (omega arith) v.3 v.2 v.4 _ c.word_width.ensures in
    let e = ends a.n l.i l.at l.done a.held.now c.requires.n_bound (omega arith) v.3 v.2 v.4 in
    record { fits = omega arith }

pub overflow_add-at : goal.overflow_add-at
overflow_add-at c =
    let a = c.args in
    let l = c.loop-i in
    let v = l.invariant in
    let w = size a.n l.i l.at l.done a.held.now c.requires.n_bound (omega arith) v.3 v.2 v.4 _ c.word_width.ensures in
    let e = ends a.n l.i l.at l.done a.held.now c.requires.n_bound (omega arith) v.3 v.2 v.4 in
    record { fits = omega arith }

pub overflow_add-at-in-loop-i : goal.overflow_add-at-in-loop-i
overflow_add-at-in-loop-i c =
    let a = c.args in
    let l = c.loop-i in
    let v = l.invariant in
    let w = size a.n l.i l.at l.done a.held.now c.requires.n_bound (omega arith) v.3 v.2 v.4 _ c.word_width.ensures in
    let e = ends a.n l.i l.at l.done a.held.now c.requires.n_bound (omega arith) v.3 v.2 v.4 in
    record { fits = omega arith }

pub loop-i-preserved : goal.loop-i-preserved
loop-i-preserved c =
    let a = c.args in
    let l = c.loop-i in
    let v = l.invariant in
    let n = c.requires.n_bound in
    let w = size a.n l.i l.at l.done a.held.now n (omega arith) v.3 v.2 v.4 _ c.word_width.ensures in
    let e = ends a.n l.i l.at l.done a.held.now n (omega arith) v.3 v.2 v.4 in
    let s = c.write_segment-done.ensures in (
      c.write_segment-done.auto.out ∙ v.0,
      omega arith,
      most a.n l.i l.at l.done a.held.now n (omega arith) v.3 v.2 v.4 _ s.value,
      omega arith,
      ap (λ (z : ℕ). drop (l.at + (1 + 8 * z)) (buffer_bits a.n a.held.now)) w
          ∙ next a.n l.i l.at l.done a.held.now n (omega arith) v.3 v.2 v.4 _ s.value,
      wrote a.n l.i l.at l.done a.held.now n (omega arith) v.3 v.2 v.4 (bits_of a.out.now) _ _ v.5 s.out_after
          ∙ ap (λ (z : ℕ). paste (bits_of a.out.now) 0 (buffer_bits a.n a.held.now) (l.at + (1 + 8 * z))) (sym w),
    )

pub returns : goal.returns
returns c =
    let a = c.args in
    let l = c.loop-i in
    let none : a.n + 1 - l.i ≡ 0 = omega arith in
    let end : l.at ≡ bits (buffer a.n) =
    parts_end a.n l.at l.done a.held.now l.invariant.3
    (l.invariant.4 ∙ ap (λ (k : ℕ). segments k (drop l.done a.held.now)) none) in
    l.invariant.5 ∙ ap (paste (bits_of a.out.now) 0 (buffer_bits a.n a.held.now)) end
