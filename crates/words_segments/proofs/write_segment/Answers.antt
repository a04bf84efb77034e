-- `words_segments::write_segment` meets its contract: a tag and the bytes, or zeros throughout. Assumes nothing.
use Prim.Native.Nat.{ℕ, ◌+◌, ◌*◌, ◌/◌, ◌%◌, ◌^◌, ◌≤◌, ◌<◌}
use mathlib.Core.Path.{◌≡◌, sym, ap, ap₂, ◌∙◌}
use mathlib.Core.Bool.{Bool, true, false, cond}
use mathlib.Core.List.{List}
use native.Mathlib.Omega.{arith}
use lib.Dec.{eqb}
use lib.ListN.{length, get_or}
use lib.Seq.{paste}
use borrow.Author.Tests.{eq-eqb, ne_eqb}
use Rattle.meaning.specs.Bits.{odd, bits_of, zeros}
use Rattle.meaning.specs.Words.{word_widths}
use Rattle.meaning.proofs.Powers.{pow_twelve}
use Rattle.meaning.proofs.WordWidths.{word-widths}
use Rattle.bits.proofs.OfBytes.{length_bits_of}
use Rattle.words_laws.proofs.Parts.{held_within, present_bits, absent_bits, paste_tagged}
use Rattle.words_segments.proofs.write_segment.Goals as goal

-- The size is 2 to the k, which is small.
sized : (k size : ℕ) → k < 13 → size ≡ get_or word_widths k 0 → (size ≡ 2 ^ k) × ((1 ≤ 2 ^ k) × (2 ^ k ≤ 4096))
sized k size h e = (e ∙ word-widths k (omega (arith, h)), pow_twelve k h)

-- What the test says of the length.
bit_set : (x size k : ℕ) → size ≡ 2 ^ k → x / size % 2 ≡ 1 → odd (x / 2 ^ k) ≡ true
unfolding odd
bit_set x size k e h = ap (λ (z : ℕ). eqb (x / z % 2) 1) (sym e) ∙ eq-eqb (x / size % 2) 1 h

bit_clear : (x size k : ℕ) → size ≡ 2 ^ k → (x / size % 2 ≡ 1 → ⊥) → odd (x / 2 ^ k) ≡ false
unfolding odd
bit_clear x size k e h = ap (λ (z : ℕ). eqb (x / z % 2) 1) (sym e) ∙ ne_eqb (x / size % 2) 1 h

pub overflow_mul-run : goal.overflow_mul-run
overflow_mul-run c =
    let e = sized _ _ c.requires.k_bound c.word_width-size.ensures in record { fits = omega arith }

pub overflow_add-whole : goal.overflow_add-whole
overflow_add-whole c =
    let e = sized _ _ c.requires.k_bound c.word_width-size.ensures in record { fits = omega arith }

pub nonzero_div-held : goal.nonzero_div-held
nonzero_div-held c =
    let e = sized _ _ c.requires.k_bound c.word_width-size.ensures in omega arith

pub copy_bits-requires : goal.copy_bits-requires
copy_bits-requires c =
    let a = c.args in
    let e = sized _ _ c.requires.k_bound c.word_width-size.ensures in
    let there = held_within a.k (length a.held.now) (bit_set (length a.held.now) c.word_width-size.result a.k e.0 c.if-held-size-eq1.true) in
    record { run = record { inside = omega arith; counted = omega arith }; run_2 = record { inside = omega (arith, c.put_bit.auto.d); counted = omega arith } }

pub returns-then-held-size-eq1 : goal.returns-then-held-size-eq1
returns-then-held-size-eq1 c =
    let a = c.args in
    let e = (sized _ _ c.requires.k_bound c.word_width-size.ensures).0 in
    let o = bit_set (length a.held.now) c.word_width-size.result a.k e c.if-held-size-eq1.true in record {
      value = e ∙ ap (λ (b : Bool). cond b (2 ^ a.k) 0) (sym o);
      out_after = c.copy_bits.ensures
          ∙ ap₂ (λ (v : List Bool) (z : ℕ). paste v (a.at + 1) (bits_of a.held.now) (8 * z)) c.put_bit.ensures e
          ∙ paste_tagged (bits_of a.out.now) a.at true (bits_of a.held.now) (8 * 2 ^ a.k) (omega (arith, length_bits_of a.out.now))
          ∙ ap (λ (v : List Bool). paste (bits_of a.out.now) a.at v (1 + 8 * 2 ^ a.k)) (sym (present_bits a.k a.held.now o));
    }

pub clear_bits-requires : goal.clear_bits-requires
clear_bits-requires c =
    let e = sized _ _ c.requires.k_bound c.word_width-size.ensures in record { inside = omega arith; counted = omega arith }

pub returns : goal.returns
returns c =
    let a = c.args in
    let e = (sized _ _ c.requires.k_bound c.word_width-size.ensures).0 in
    let o = bit_clear (length a.held.now) c.word_width-size.result a.k e c.if-held-size-eq1.false in record {
      value = ap (λ (b : Bool). cond b (2 ^ a.k) 0) (sym o);
      out_after = c.clear_bits.ensures
          ∙ ap (λ (z : ℕ). paste (bits_of a.out.now) a.at (zeros (1 + 8 * z)) (1 + 8 * z)) e
          ∙ ap (λ (v : List Bool). paste (bits_of a.out.now) a.at v (1 + 8 * 2 ^ a.k)) (sym (absent_bits a.k a.held.now o));
    }
