-- The bits of a hash state, and its parts as views see them.
--
--   kept_bytes                  the data that the buffer holds
--   length_state                as many bits as the hash state's type is wide: 830
--   state_buffer state_count state_midstate     where the buffer, the count and the midstate lie
--   state_whole                 the three parts, written one after the other
-- Assumes nothing.
use Prim.Native.Nat.{ℕ}
use mathlib.Core.Path.{◌≡◌, sym, ap, ◌∙◌}
use mathlib.Core.Bool.{Bool}
use mathlib.Core.List.{List, ◌++◌}
use native.Mathlib.Nat.{le_of_eq}
use native.Mathlib.Omega.{arith}
use lib.ListN.{length, take, drop}
use lib.Seq.{paste, take_all, take_at, drop_at, drop-drop}
use Rattle.meaning.specs.Types.{prod}
use Rattle.meaning.specs.Bits.{to_bits, bits_of}
use Rattle.meaning.specs.Words.{word, buffer, buffer_bits, ctx8, HashState, ctx8_bits}
use Rattle.meaning.proofs.Records.{length_pair}
use Rattle.meaning.proofs.Words.{bits_word}
use Rattle.meaning.proofs.Buffers.{buffer_five, bits_ctx8}
use Rattle.bits.proofs.Numbers.{length_to_bits}
use Rattle.bits.proofs.OfBytes.{length_bits_of}
use Rattle.words_laws.proofs.Pieces.{paste_start, paste_part}
use Rattle.words_laws.proofs.Parts.{length_buffer}

module _ (s : HashState) where
  -- The data that the buffer holds.
  abbrev pub kept_bytes : List ℕ
  kept_bytes = take s.used s.buffered

  length_kept : length (buffer_bits 5 kept_bytes) ≡ 510
  length_kept = length_buffer 5 kept_bytes ∙ buffer_five

  pub state_buffer : take 510 (ctx8_bits s) ≡ buffer_bits 5 kept_bytes
  unfolding ctx8_bits
  state_buffer = take_at (buffer_bits 5 kept_bytes) (to_bits 64 s.counted ++ bits_of s.midstate) 510 length_kept

  state_rest : drop 510 (ctx8_bits s) ≡ to_bits 64 s.counted ++ bits_of s.midstate
  unfolding ctx8_bits
  state_rest = drop_at (buffer_bits 5 kept_bytes) (to_bits 64 s.counted ++ bits_of s.midstate) 510 length_kept

  pub state_count : take 64 (drop 510 (ctx8_bits s)) ≡ to_bits 64 s.counted
  state_count =
      ap (take 64) state_rest ∙ take_at (to_bits 64 s.counted) (bits_of s.midstate) 64 (length_to_bits 64 s.counted)

  pub state_midstate : drop 574 (ctx8_bits s) ≡ bits_of s.midstate
  state_midstate =
      sym (drop-drop 64 510 (ctx8_bits s))
      ∙ ap (drop 64) state_rest
      ∙ drop_at (to_bits 64 s.counted) (bits_of s.midstate) 64 (length_to_bits 64 s.counted)

module _ (s : HashState) (full : length s.midstate ≡ 32) where
  pub length_state : length (ctx8_bits s) ≡ 830
  unfolding ctx8_bits ctx8
  length_state =
      let m : length (bits_of s.midstate) ≡ 256 = omega (arith, length_bits_of s.midstate) in
      length_pair (buffer 5) (prod (word 6) (word 8)) (buffer_bits 5 (kept_bytes s)) (to_bits 64 s.counted ++ bits_of s.midstate)
      (length_buffer 5 (kept_bytes s))
      (length_pair (word 6) (word 8) (to_bits 64 s.counted) (bits_of s.midstate) (length_to_bits 64 s.counted ∙ sym (bits_word 6))
      (m ∙ sym (bits_word 8)))
      ∙ bits_ctx8

  pub state_whole : (old : List Bool)
      → paste (paste (paste old 0 (buffer_bits 5 (kept_bytes s)) 510) 510 (to_bits 64 s.counted) 64) 574 (bits_of s.midstate) 256
      ≡ paste old 0 (ctx8_bits s) 830
  state_whole old =
      let v : List Bool = ctx8_bits s in
      let all : 830 ≡ length v = sym length_state in
      ap (λ (w : List Bool). paste (paste w 510 (to_bits 64 s.counted) 64) 574 (bits_of s.midstate) 256)
      (paste_start old v (buffer_bits 5 (kept_bytes s)) 510
      (take_all 510 (buffer_bits 5 (kept_bytes s)) (le_of_eq (length_kept s)) ∙ sym (state_buffer s)))
      ∙ ap (λ (w : List Bool). paste w 574 (bits_of s.midstate) 256)
      (paste_part old v (to_bits 64 s.counted) 510 64 (omega arith)
      (take_all 64 (to_bits 64 s.counted) (le_of_eq (length_to_bits 64 s.counted)) ∙ sym (state_count s)))
      ∙ paste_part old v (bits_of s.midstate) 574 256 (omega arith) (ap (take 256) (sym (state_midstate s)))
