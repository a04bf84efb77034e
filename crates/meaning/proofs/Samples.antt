-- The marked samples of document 01, M1 to M12, as one statement over one list, each through the definition of the public call that a user
-- would make. Assumes nothing.
use mathlib.Core.Path.{◌≡◌, refl}
use mathlib.Core.Bool.{true, false}
use mathlib.Core.List.{List, [], ◌∷◌, map}
use Prim.Native.Nat.{ℕ}
use Rattle.meaning.specs.Choice.{least, from}
use Rattle.meaning.specs.Types.{same, bits, width, size, padded, least_length}
use Rattle.meaning.specs.Tables.{ty_to, ty_at, class_of, first_bad, first_bad_entry, entry_right, facts_right}
use Rattle.meaning.specs.Files.{table_in, seven_bit_groups, entry_from, entries_from}
use Rattle.meaning.specs.Bits.{odd, to_bits, bits_of, value, pack_to, pack, written}
use Rattle.meaning.specs.Records.{compact, same_bits, order_bits}
use Rattle.meaning.specs.Codecs.{decode_compact, decode_padded}
use Rattle.meaning.specs.Words.{word, word_widths, is_word, as_word, exponent, buffer, buffer_bits, ctx8, ctx8_bits}
use Rattle.meaning.specs.Cuts.{cut}
use Rattle.meaning.specs.Ladder.{refused, accepted, ladder, record_of, Stream, stream_of, record_bits, rest_of}
use Rattle.meaning.specs.TypeCalls.{facts_of_call, same_type_call}
use Rattle.meaning.specs.RecordCalls.{as_left_call, as_product_call, equal_call}
use Rattle.meaning.specs.CodecCalls.{from_compact_call, from_compact_out, to_compact_call, to_compact_out}
use Rattle.meaning.specs.WordCalls.{buffer_call, buffer_out}
use Rattle.meaning.specs.CutCalls.{prune_call, prune_out}
use Rattle.meaning.proofs.Sampling.{table_s, table_b, node-facts, flag, count, place, places, out, Sample, sample, defined, paper, spare, one}

-- A stream of so many bits that begins a byte or is empty.
at : List ℕ → ℕ → Stream
at s n = stream_of s n 0

-- M1 to M12, in the paper's order.
pub samples : List Sample
samples =
    sample (node-facts (facts_of_call table_s 6))
    (node-facts (accepted (record { width_of = 1; size_of = 3; padded_of = false; class_no = 1; kind_of = 1; left_node = 0; right_node = 0; least_of = 1 })))
    ∷ sample (flag (same_type_call table_s 3 8)) (flag (accepted false))
    ∷ sample (node-facts (facts_of_call table_s 5))
    (node-facts (accepted (record { width_of = 3; size_of = 11; padded_of = true; class_no = 5; kind_of = 1; left_node = 1; right_node = 4; least_of = 2 })))
    ∷ sample (node-facts (facts_of_call table_s 7))
    (node-facts (accepted (record { width_of = 4; size_of = 15; padded_of = true; class_no = 7; kind_of = 2; left_node = 5; right_node = 1; least_of = 3 })))
    ∷ sample (count (from_compact_call table_s (at (0x40 ∷ []) 2) 5 spare)) (count (accepted 2))
    ∷ sample (out (from_compact_out table_s (at (0x40 ∷ []) 2) 5 spare)) (out (0x20 ∷ 0xFF ∷ []))
    ∷ sample (count (from_compact_call table_s (at (0xC0 ∷ []) 3) 5 spare)) (count (accepted 3))
    ∷ sample (out (from_compact_out table_s (at (0xC0 ∷ []) 3) 5 spare)) (out (0xC0 ∷ 0xFF ∷ []))
    ∷ sample (count (from_compact_call table_s (at (0xC0 ∷ []) 2) 5 spare)) (count (refused 8 0))
    ∷ sample (out (from_compact_out table_s (at (0xC0 ∷ []) 2) 5 spare)) (out spare)
    ∷ sample (count (from_compact_call table_s (at (0x60 ∷ []) 3) 7 spare)) (count (accepted 3))
    ∷ sample (out (from_compact_out table_s (at (0x60 ∷ []) 3) 7 spare)) (out (0x30 ∷ 0xFF ∷ []))
    ∷ sample (count (from_compact_call table_s (at [] 0) 2 spare)) (count (accepted 0))
    ∷ sample (out (from_compact_out table_s (at [] 0) 2 spare)) (out spare)
    ∷ sample (count (from_compact_call table_s (at [] 0) 1 spare)) (count (refused 8 0))
    ∷ sample (out (from_compact_out table_s (at [] 0) 1 spare)) (out spare)
    ∷ sample (place (as_left_call table_s (one 0x60 5))) (place (accepted (record { offset = 2; node = 1 })))
    ∷ sample (flag (equal_call table_s (record_of (0x60 ∷ []) 2 1) (one 0x80 1))) (flag (accepted true))
    ∷ sample (count (prune_call table_s (one 0x60 5) 9 spare)) (count (accepted 2))
    ∷ sample (out (prune_out table_s (one 0x60 5) 9 spare)) (out (0x40 ∷ 0xFF ∷ []))
    ∷ sample (count (prune_call table_s (one 0x40 9) 5 spare)) (count (accepted 3))
    ∷ sample (out (prune_out table_s (one 0x40 9) 5 spare)) (out (0x20 ∷ 0xFF ∷ []))
    ∷ sample (count (prune_call table_s (one 0x60 5) 5 spare)) (count (accepted 3))
    ∷ sample (out (prune_out table_s (one 0x60 5) 5 spare)) (out (0x60 ∷ 0xFF ∷ []))
    ∷ sample (count (to_compact_call table_s (one 0x40 9) spare)) (count (accepted 2))
    ∷ sample (out (to_compact_out table_s (one 0x40 9) spare)) (out (0x40 ∷ 0xFF ∷ []))
    ∷ sample (count (to_compact_call table_s (one 0x20 5) spare)) (count (accepted 2))
    ∷ sample (out (to_compact_out table_s (one 0x20 5) spare)) (out (0x40 ∷ 0xFF ∷ []))
    ∷ sample (count (to_compact_call table_s (one 0x60 5) spare)) (count (accepted 2))
    ∷ sample (out (to_compact_out table_s (one 0x60 5) spare)) (out (0x40 ∷ 0xFF ∷ []))
    ∷ sample (count (prune_call table_s (one 0xC0 4) 1 spare)) (count (refused 7 0))
    ∷ sample (out (prune_out table_s (one 0xC0 4) 1 spare)) (out spare)
    ∷ sample (places (as_product_call table_s (one 0xC0 4)))
    (places (accepted (record { first = record { offset = 0; node = 1 }; second = record { offset = 1; node = 1 } })))
    ∷ sample (places (as_product_call table_s (one 0x80 4)))
    (places (accepted (record { first = record { offset = 0; node = 1 }; second = record { offset = 1; node = 1 } })))
    ∷ sample (flag (equal_call table_s (one 0xC0 1) (one 0x80 1))) (flag (accepted true))
    ∷ sample (count (buffer_call table_b 0 (0xA5 ∷ []) 6 spare)) (count (accepted 9))
    ∷ sample (out (buffer_out table_b 0 (0xA5 ∷ []) 6 spare)) (out (0xD2 ∷ 0x80 ∷ []))
    ∷ []

-- The definitions say what the paper says.
pub marked : map defined samples ≡ map paper samples
unfolding samples at defined paper table_s table_b spare least from same bits width size padded least_length ty_to ty_at class_of first_bad first_bad_entry entry_right facts_right table_in seven_bit_groups entry_from entries_from odd to_bits bits_of value pack_to pack written compact same_bits order_bits decode_compact decode_padded word word_widths is_word as_word exponent buffer buffer_bits ctx8 ctx8_bits cut ladder record_bits rest_of
marked = refl
