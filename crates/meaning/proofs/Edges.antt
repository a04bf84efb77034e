-- Edges that the marked samples do not reach, computed by the definitions: each would show a wrong reading of document 01, or of
-- document 02, which has the groups and the least length.
--
--   file_edges table_edges byte_edges   files; tables; each byte of a group
--   record_edges word_edges least_edges  records; words, buffers and the hash state; least compact lengths
--   file_edges_hold table_edges_hold byte_edges_hold record_edges_hold word_edges_hold least_edges_hold  the definitions say what the paper says
-- Assumes nothing.
use mathlib.Core.Path.{◌≡◌, refl}
use mathlib.Core.Bool.{true, false}
use mathlib.Core.List.{List, [], ◌∷◌, ◌++◌, map}
use Prim.Native.Nat.{Ordering}
use Prim.Native.Nat.{ℕ, ◌+◌, ◌^◌, ◌-◌}
use lib.ListN.{length, drop, replicate, get_or, set}
use Rattle.meaning.specs.Choice.{least, from}
use Rattle.meaning.specs.Types.{top, stop, unit, sum, same, bits, width, size, padded, least_length}
use Rattle.meaning.specs.Tables.{Table, table, columns, facts, ty_to, ty_at, class_of, first_bad, first_bad_entry, entry_right, facts_right}
use Rattle.meaning.specs.Groups.{low, low_bytes, fact_in}
use Rattle.meaning.specs.Files.{table_in, seven_bit_groups, entry_from, entries_from}
use Rattle.meaning.specs.Bits.{odd, to_bits, bits_of, value, pack_to, pack, written}
use Rattle.meaning.specs.Records.{compact, same_bits, order_bits}
use Rattle.meaning.specs.Codecs.{decode_compact, decode_padded}
use Rattle.meaning.specs.Words.{word, word_widths, is_word, as_word, exponent, buffer, buffer_bits, ctx8, ctx8_bits}
use Rattle.meaning.specs.Cuts.{cut}
use Rattle.meaning.specs.Ladder.{refused, accepted, ladder, record_of, stream_of, record_bits, rest_of}
use Rattle.meaning.specs.TypeCalls.{group_of, groups_of, check_table_call, fill_facts_call, fill_facts_out, read_table_call, read_table_groups_out, pad_left_call, pad_right_call, as_word_call, word_width_call, buffer_width_call, is_buffer8_call}
use Rattle.meaning.specs.RecordCalls.{as_left_call, as_right_call, as_product_call, equal_call, compare_call, padded_len_call, unit_call, left_call, left_out, right_call, right_out, none_call, some_out, product_call, product_out}
use Rattle.meaning.specs.CodecCalls.{from_compact_call, from_padded_call, from_padded_out, to_padded_out}
use Rattle.meaning.specs.WordCalls.{number_call, number_out, bytes_call, bytes_out, array_call, join_call, join_out, word_read_call, buffer_call, buffer_out, ctx8_call}
use Rattle.meaning.specs.CutCalls.{prune_call, prune_out}
use Rattle.meaning.specs.OldLayout.{columns_table, fill_columns}
use Rattle.meaning.proofs.Sampling.{table_s, table_b, done, flag, count, number, order, place, places, out, Sample, sample, defined, paper, spare, one}

-- Faults of a file, each with its place; a sound file with no room answers 9.
pub file_edges : List Sample
file_edges =
    sample (count (read_table_call ([]) (columns [] [] []) [])) (count (refused 1 0))
    ∷ sample (count (read_table_call (0x80 ∷ []) (columns [] [] []) [])) (count (refused 1 0))
    ∷ sample (count (read_table_call (0x80 ∷ 0x00 ∷ []) (columns [] [] []) [])) (count (refused 1 0))
    ∷ sample (count (read_table_call (0x81 ∷ 0x00 ∷ []) (columns [] [] []) [])) (count (refused 1 0))
    ∷ sample (count (read_table_call (0x81 ∷ 0x80 ∷ 0x01 ∷ []) (columns [] [] []) [])) (count (refused 1 0))
    ∷ sample (count (read_table_call (0x00 ∷ []) (columns [] [] []) [])) (count (refused 1 0))
    ∷ sample (count (read_table_call (0x80 ∷ 0x08 ∷ []) (columns [] [] []) [])) (count (refused 1 2))
    ∷ sample (count (read_table_call (0x81 ∷ 0x08 ∷ []) (columns [] [] []) [])) (count (refused 1 0))
    ∷ sample (count (read_table_call (0x01 ∷ []) (columns [] [] []) [])) (count (refused 1 1))
    ∷ sample (count (read_table_call (0x01 ∷ 0x00 ∷ 0x00 ∷ []) (columns [] [] []) [])) (count (refused 1 2))
    ∷ sample (count (read_table_call (0x01 ∷ 0x03 ∷ []) (columns [] [] []) [])) (count (refused 1 1))
    ∷ sample (count (read_table_call (0x01 ∷ 0x01 ∷ []) (columns [] [] []) [])) (count (refused 1 2))
    ∷ sample (count (read_table_call (0x01 ∷ 0x01 ∷ 0x00 ∷ []) (columns [] [] []) [])) (count (refused 1 2))
    ∷ sample (count (read_table_call (0x02 ∷ 0x00 ∷ 0x01 ∷ 0x00 ∷ []) (columns [] [] []) [])) (count (refused 1 4))
    ∷ sample (count (read_table_call (0x02 ∷ 0x00 ∷ 0x01 ∷ 0x00 ∷ 0x80 ∷ []) (columns [] [] []) [])) (count (refused 1 4))
    ∷ sample (count (read_table_call (0x02 ∷ 0x00 ∷ 0x01 ∷ 0x00 ∷ 0x01 ∷ []) (columns [] [] []) [])) (count (refused 1 4))
    ∷ sample (count (read_table_call (0x02 ∷ 0x00 ∷ 0x01 ∷ 0x00 ∷ 0x00 ∷ 0xFF ∷ 0xFF ∷ []) (columns [] [] []) [])) (count (refused 1 5))
    ∷ sample (count (read_table_call (0x01 ∷ 0x80 ∷ 0x00 ∷ []) (columns [] [] []) [])) (count (refused 1 1))
    ∷ sample (count (read_table_call (0x01 ∷ 0xFF ∷ 0x7F ∷ []) (columns [] [] []) [])) (count (refused 1 1))
    ∷ sample (count (read_table_call (0x02 ∷ 0x00 ∷ 0x02 ∷ 0x80 ∷ 0x80 ∷ []) (columns [] [] []) [])) (count (refused 1 3))
    ∷ sample (count (read_table_call (0x01 ∷ 0x00 ∷ []) (columns [] [] []) [])) (count (refused 9 0))
    ∷ []

pub file_edges_hold : map defined file_edges ≡ map paper file_edges
unfolding file_edges defined paper table_s table_b spare least from same bits width size padded least_length ty_to ty_at class_of first_bad first_bad_entry entry_right facts_right table_in seven_bit_groups entry_from entries_from odd to_bits bits_of value pack_to pack written compact same_bits order_bits decode_compact decode_padded word word_widths is_word as_word exponent buffer buffer_bits ctx8 ctx8_bits cut ladder record_bits rest_of
file_edges_hold = refl

-- The group of a unit, byte by byte: width, size, padded, class, least length; and a group with these bytes at its edges (unit + unit:
-- 1 0 3 0 0 1 0 1 0).
unit_group : List ℕ
unit_group = 0 ∷ 0 ∷ 0 ∷ 0 ∷ 0 ∷ 0 ∷ 0 ∷ 0 ∷ 1 ∷ 0 ∷ 0 ∷ 0 ∷ 0 ∷ 0 ∷ 0 ∷ 0 ∷ 0 ∷ 0 ∷ 0 ∷ 0 ∷ 0 ∷ 0 ∷ 0 ∷ 0 ∷ 0 ∷ 0 ∷ 0 ∷ []

group_with : (wide_low wide_high_lem size_low size-high padded-byte Class-Low class-high least-low least-high : ℕ) → List ℕ
group_with w x s z p c h l m =
    w ∷ 0 ∷ 0 ∷ 0 ∷ 0 ∷ 0 ∷ 0 ∷ x ∷ s ∷ 0 ∷ 0 ∷ 0 ∷ 0 ∷ 0 ∷ 0 ∷ z ∷ p ∷ c ∷ h ∷ l ∷ 0 ∷ 0 ∷ 0 ∷ 0 ∷ 0 ∷ 0 ∷ m ∷ []

-- Unit and unit + unit, with these facts for the second.
abbrev two : List ℕ → ℕ → Table
two last n = table (0 ∷ 1 ∷ []) (0 ∷ 0 ∷ []) (0 ∷ 0 ∷ []) (unit_group ++ last) n

-- Counts, columns, entries and groups that are wrong, each with its place; bytes past the count's groups, which nobody judges.
pub table_edges : List Sample
table_edges =
    sample (done (check_table_call (two (group_with 1 0 3 0 0 1 0 1 0) 2))) (done (accepted tt))
    ∷ sample (done (check_table_call (two (group_with 1 0 3 0 0 1 0 1 0) 1))) (done (accepted tt))
    ∷ sample (done (check_table_call (two (group_with 1 0 3 0 0 1 0 1 0) 0))) (done (refused 1 0))
    ∷ sample (done (check_table_call (two (group_with 1 0 3 0 0 1 0 1 0) 3))) (done (refused 1 0))
    ∷ sample (done (check_table_call (two (group_with 1 0 3 0 0 1 0 1 0) (2 ^ 64 - 1)))) (done (refused 1 0))
    ∷ sample (done (check_table_call (table (0 ∷ 3 ∷ []) (0 ∷ 0 ∷ []) (0 ∷ 0 ∷ []) (unit_group ++ group_with 1 0 3 0 0 1 0 1 0) 2))) (done (refused 1 1))
    ∷ sample (done (check_table_call (table (0 ∷ 1 ∷ []) (1 ∷ 0 ∷ []) (0 ∷ 0 ∷ []) (unit_group ++ group_with 1 0 3 0 0 1 0 1 0) 2))) (done (refused 1 0))
    ∷ sample (done (check_table_call (table (0 ∷ 1 ∷ []) (0 ∷ 0 ∷ []) (1 ∷ 0 ∷ []) (unit_group ++ group_with 1 0 3 0 0 1 0 1 0) 2))) (done (refused 1 0))
    ∷ sample (done (check_table_call (table (0 ∷ 1 ∷ []) (0 ∷ 0 ∷ []) (0 ∷ 1 ∷ []) (unit_group ++ group_with 1 0 3 0 0 1 0 1 0) 2))) (done (refused 1 1))
    ∷ sample (done (check_table_call (two (group_with 2 0 3 0 0 1 0 1 0) 2))) (done (refused 1 1))
    ∷ sample (done (check_table_call (two (group_with 1 1 3 0 0 1 0 1 0) 2))) (done (refused 1 1))
    ∷ sample (done (check_table_call (two (group_with 1 0 9 0 0 1 0 1 0) 2))) (done (refused 1 1))
    ∷ sample (done (check_table_call (two (group_with 1 0 3 1 0 1 0 1 0) 2))) (done (refused 1 1))
    ∷ sample (done (check_table_call (two (group_with 1 0 3 0 2 1 0 1 0) 2))) (done (refused 1 1))
    ∷ sample (done (check_table_call (two (group_with 1 0 3 0 0 0 0 1 0) 2))) (done (refused 1 1))
    ∷ sample (done (check_table_call (two (group_with 1 0 3 0 0 1 1 1 0) 2))) (done (refused 1 1))
    ∷ sample (done (check_table_call (two (group_with 1 0 3 0 0 1 0 0 0) 2))) (done (refused 1 1))
    ∷ sample (done (check_table_call (two (group_with 1 0 3 0 0 1 0 2 0) 2))) (done (refused 1 1))
    ∷ sample (done (check_table_call (two (group_with 1 0 3 0 0 1 0 1 1) 2))) (done (refused 1 1))
    ∷ sample (done (check_table_call (table (0 ∷ 1 ∷ []) (0 ∷ 0 ∷ []) (0 ∷ 0 ∷ []) (group_with 0 0 2 0 0 0 0 0 0 ++ group_with 1 0 9 0 0 1 0 1 0) 2))) (done (refused 1 0))
    ∷ sample (done (check_table_call (two [] 2))) (done (refused 1 0))
    ∷ sample (done (check_table_call (two (1 ∷ 0 ∷ 0 ∷ 0 ∷ 0 ∷ 0 ∷ 0 ∷ 0 ∷ 3 ∷ 0 ∷ 0 ∷ 0 ∷ 0 ∷ 0 ∷ 0 ∷ 0 ∷ 0 ∷ 1 ∷ 0 ∷ 1 ∷ 0 ∷ 0 ∷ 0 ∷ 0 ∷ 0 ∷ 0 ∷ []) 2))) (done (refused 1 0))
    ∷ sample (done (check_table_call (two (9 ∷ 9 ∷ []) 1))) (done (accepted tt))
    ∷ sample (done (check_table_call (two (group_with 1 0 3 0 0 1 0 1 0 ++ (9 ∷ [])) 2))) (done (accepted tt))
    ∷ sample (done (check_table_call (columns_table (0 ∷ 1 ∷ []) (0 ∷ 0 ∷ []) (0 ∷ 0 ∷ []) (0 ∷ 1 ∷ []) (1 ∷ 3 ∷ []) (0 ∷ 0 ∷ []) (0 ∷ 1 ∷ []) (0 ∷ 1 ∷ []) 2))) (done (accepted tt))
    ∷ sample (done (check_table_call (columns_table (0 ∷ 1 ∷ []) (0 ∷ 0 ∷ []) (0 ∷ 0 ∷ []) (0 ∷ []) (1 ∷ 3 ∷ []) (0 ∷ 0 ∷ []) (0 ∷ 1 ∷ []) (0 ∷ 1 ∷ []) 2))) (done (refused 1 0))
    ∷ sample (done (check_table_call (columns_table (0 ∷ 1 ∷ []) (0 ∷ 0 ∷ []) (0 ∷ 0 ∷ []) (0 ∷ 1 ∷ []) (1 ∷ 3 ∷ []) (0 ∷ 0 ∷ []) (0 ∷ 1 ∷ []) (0 ∷ []) 2))) (done (refused 1 0))
    ∷ sample (done (fill_columns (columns (0 ∷ []) (0 ∷ []) (0 ∷ [])) 1 (facts [] [] [] [] []))) (done (refused 9 0))
    ∷ sample (done (fill_facts_call (columns (0 ∷ []) (0 ∷ []) (0 ∷ [])) 1 [])) (done (refused 9 0))
    ∷ sample (done (fill_facts_call (columns (0 ∷ []) (0 ∷ []) (0 ∷ [])) 1 (drop 1 unit_group))) (done (refused 9 0))
    ∷ sample (done (fill_facts_call (columns (0 ∷ []) (5 ∷ []) (0 ∷ [])) 1 [])) (done (refused 1 0))
    ∷ sample (out (fill_facts_out (columns (0 ∷ 1 ∷ []) (0 ∷ 0 ∷ []) (0 ∷ 0 ∷ [])) 2 (replicate 56 7))) (out (unit_group ++ (group_with 1 0 3 0 0 1 0 1 0 ++ (7 ∷ 7 ∷ []))))
    ∷ sample (out (fill_facts_out (columns (0 ∷ 1 ∷ []) (0 ∷ 0 ∷ []) (0 ∷ 0 ∷ [])) 2 (7 ∷ 7 ∷ []))) (out (7 ∷ 7 ∷ []))
    ∷ sample (count (read_table_call (0x01 ∷ 0x03 ∷ []) (columns (9 ∷ []) (9 ∷ []) (9 ∷ [])) (replicate 28 7))) (count (refused 1 1))
    ∷ sample (out (read_table_groups_out (0x01 ∷ 0x03 ∷ []) (columns (9 ∷ []) (9 ∷ []) (9 ∷ [])) (replicate 28 7))) (out (replicate 28 7))
    ∷ sample (count (read_table_call (0x01 ∷ 0x00 ∷ []) (columns (9 ∷ []) (9 ∷ []) (9 ∷ [])) (replicate 26 7))) (count (refused 9 0))
    ∷ sample (out (read_table_groups_out (0x01 ∷ 0x00 ∷ []) (columns (9 ∷ []) (9 ∷ []) (9 ∷ [])) (replicate 26 7))) (out (replicate 26 7))
    ∷ sample (count (read_table_call (0x02 ∷ 0x00 ∷ 0x01 ∷ 0x00 ∷ 0x00 ∷ []) (columns (9 ∷ 9 ∷ []) (9 ∷ 9 ∷ []) (9 ∷ 9 ∷ [])) (replicate 56 7))) (count (accepted 2))
    ∷ sample (out (read_table_groups_out (0x02 ∷ 0x00 ∷ 0x01 ∷ 0x00 ∷ 0x00 ∷ []) (columns (9 ∷ 9 ∷ []) (9 ∷ 9 ∷ []) (9 ∷ 9 ∷ [])) (replicate 56 7))) (out (unit_group ++ (group_with 1 0 3 0 0 1 0 1 0 ++ (7 ∷ 7 ∷ []))))
    ∷ sample (number (low 8 (1 ∷ 2 ∷ 3 ∷ 4 ∷ 5 ∷ 6 ∷ 7 ∷ 8 ∷ []))) (number 0x0807060504030201)
    ∷ sample (out (low_bytes 8 0x0807060504030201)) (out (1 ∷ 2 ∷ 3 ∷ 4 ∷ 5 ∷ 6 ∷ 7 ∷ 8 ∷ []))
    ∷ []

pub table_edges_hold : map defined table_edges ≡ map paper table_edges
unfolding table_edges unit_group group_with defined paper low low_bytes fact_in group_of groups_of least from same width size padded least_length ty_to ty_at class_of first_bad first_bad_entry entry_right facts_right table_in seven_bit_groups entry_from entries_from ladder
table_edges_hold = refl

-- Unit and unit + unit, with byte i of the second group greater by one: whichever byte it is, it is told, at that node.
pub byte_edges : List Sample
byte_edges =
    map (λ i. sample (done (check_table_call (two (set (group_with 1 0 3 0 0 1 0 1 0) i (get_or (group_with 1 0 3 0 0 1 0 1 0) i 0 + 1)) 2))) (done (refused 1 1))) (from 0 27)

pub byte_edges_hold : map defined byte_edges ≡ map paper byte_edges
unfolding byte_edges unit_group group_with defined paper low fact_in least from same width size padded least_length ty_to ty_at class_of first_bad entry_right facts_right ladder
byte_edges_hold = refl

-- Tables of a few nodes, whose facts are numbers: each call over them judges those few.
-- Unit and unit × unit, which is as empty but no unit.
unfoldable table_e : Table
table_e = columns_table (0 ∷ 2 ∷ []) (0 ∷ 0 ∷ []) (0 ∷ 0 ∷ []) (0 ∷ 0 ∷ []) (1 ∷ 3 ∷ []) (0 ∷ 0 ∷ []) (0 ∷ 1 ∷ []) (0 ∷ 0 ∷ []) 2

-- Unit, 2, 2 again, unit + 2, 2 + unit and 2 × 2.
unfoldable table_o : Table
table_o =
    columns_table (0 ∷ 1 ∷ 1 ∷ 1 ∷ 1 ∷ 2 ∷ []) (0 ∷ 0 ∷ 0 ∷ 0 ∷ 1 ∷ 1 ∷ []) (0 ∷ 0 ∷ 0 ∷ 1 ∷ 0 ∷ 1 ∷ []) (0 ∷ 1 ∷ 1 ∷ 2 ∷ 2 ∷ 2 ∷ [])
    (1 ∷ 3 ∷ 3 ∷ 5 ∷ 5 ∷ 7 ∷ []) (0 ∷ 0 ∷ 0 ∷ 1 ∷ 1 ∷ 0 ∷ []) (0 ∷ 1 ∷ 1 ∷ 3 ∷ 4 ∷ 5 ∷ []) (0 ∷ 1 ∷ 1 ∷ 1 ∷ 1 ∷ 2 ∷ []) 6

-- Unit, 2, 2 × 2, 2 + (2 × 2), which is padded, and the product of that and 2.
unfoldable table_p : Table
table_p =
    columns_table (0 ∷ 1 ∷ 2 ∷ 1 ∷ 2 ∷ []) (0 ∷ 0 ∷ 1 ∷ 1 ∷ 3 ∷ []) (0 ∷ 0 ∷ 1 ∷ 2 ∷ 1 ∷ []) (0 ∷ 1 ∷ 2 ∷ 3 ∷ 4 ∷ []) (1 ∷ 3 ∷ 7 ∷ 11 ∷ 15 ∷ [])
    (0 ∷ 0 ∷ 0 ∷ 1 ∷ 1 ∷ []) (0 ∷ 1 ∷ 2 ∷ 3 ∷ 4 ∷ []) (0 ∷ 1 ∷ 2 ∷ 2 ∷ 3 ∷ []) 5

-- Bounds, views, equality and order, padding, constructors, both codecs and cuts at their edges.
pub record_edges : List Sample
record_edges =
    sample (count (padded_len_call table_e (record_of [] 0 0))) (count (accepted 0))
    ∷ sample (count (padded_len_call table_e (record_of [] 1 0))) (count (refused 5 0))
    ∷ sample (count (padded_len_call table_e (record_of [] (2 ^ 64 - 1) 1))) (count (refused 5 0))
    ∷ sample (count (padded_len_call table_e (record_of (0 ∷ []) 8 1))) (count (accepted 0))
    ∷ sample (count (padded_len_call table_o (record_of (0 ∷ []) 8 1))) (count (refused 5 0))
    ∷ sample (count (padded_len_call table_p (record_of [] 99 5))) (count (refused 2 0))
    ∷ sample (order (compare_call table_p (one 0x60 2) (one 0x40 2))) (order (accepted Ordering.eq))
    ∷ sample (order (compare_call table_p (one 0x80 2) (one 0x40 2))) (order (accepted Ordering.gt))
    ∷ sample (order (compare_call table_o (one 0x80 2) (one 0x80 1))) (order (accepted Ordering.eq))
    ∷ sample (order (compare_call table_o (one 0x80 3) (one 0x00 4))) (order (accepted Ordering.lt))
    ∷ sample (place (as_right_call table_p (one 0x60 3))) (place (refused 7 0))
    ∷ sample (place (as_right_call table_o (one 0xC0 3))) (place (accepted (record { offset = 1; node = 1 })))
    ∷ sample (place (as_left_call table_p (one 0x60 2))) (place (refused 7 0))
    ∷ sample (out (left_out table_p (record_of (0x20 ∷ []) 2 1) 3 (0xFF ∷ 0xEE ∷ []))) (out (0x20 ∷ 0xEE ∷ []))
    ∷ sample (count (none_call table_o 3 [])) (count (refused 9 0))
    ∷ sample (count (none_call table_o 4 [])) (count (refused 7 0))
    ∷ sample (out (some_out table_o (one 0x80 2) 3 spare)) (out (0xC0 ∷ 0xFF ∷ []))
    ∷ sample (count (unit_call table_e 0 [])) (count (accepted 0))
    ∷ sample (count (unit_call table_e 1 [])) (count (refused 7 0))
    ∷ sample (out (product_out table_p (one 0x20 3) (one 0x80 1) 4 spare)) (out (0x30 ∷ 0xFF ∷ []))
    ∷ sample (count (product_call table_p (one 0x80 1) (one 0x20 3) 4 spare)) (count (refused 7 0))
    ∷ sample (count (from_compact_call table_e (stream_of [] 1 0) 0 [])) (count (refused 5 0))
    ∷ sample (count (from_compact_call table_e (stream_of (0x00 ∷ []) 4 5) 0 [])) (count (refused 5 0))
    ∷ sample (count (from_compact_call table_e (stream_of (0x00 ∷ []) 8 8) 0 [])) (count (accepted 8))
    ∷ sample (count (from_padded_call table_p (stream_of (0x60 ∷ []) 3 0) 3 [])) (count (refused 9 0))
    ∷ sample (count (from_padded_call table_p (stream_of (0x60 ∷ []) 2 0) 3 [])) (count (refused 8 0))
    ∷ sample (count (from_padded_call table_p (stream_of (0x63 ∷ []) 8 5) 3 spare)) (count (accepted 8))
    ∷ sample (out (from_padded_out table_p (stream_of (0x63 ∷ []) 8 5) 3 spare)) (out (0x60 ∷ 0xFF ∷ []))
    ∷ sample (count (from_padded_call table_p (stream_of (0x60 ∷ []) 8 6) 3 [])) (count (refused 8 0))
    ∷ sample (count (from_compact_call table_p (stream_of (0x60 ∷ []) (2 ^ 64 - 1) 0) 3 [])) (count (refused 5 0))
    ∷ sample (count (from_compact_call table_p (stream_of (0x60 ∷ []) 8 (2 ^ 64 - 1)) 3 [])) (count (refused 5 0))
    ∷ sample (out (to_padded_out table_p (record_of (0x33 ∷ []) 1 3) spare)) (out (0x60 ∷ 0xFF ∷ []))
    ∷ sample (count (prune_call table_e (one 0x00 0) 1 spare)) (count (refused 7 0))
    ∷ sample (count (prune_call table_e (one 0x00 1) 0 [])) (count (accepted 0))
    ∷ sample (out (prune_out table_p (one 0xF0 4) 4 spare)) (out (0xF0 ∷ 0xFF ∷ []))
    ∷ sample (count (prune_call table_p (one 0x70 4) 5 spare)) (count (refused 2 0))
    ∷ sample (flag (equal_call table_s (one 0x80 1) (one 0x00 1))) (flag (accepted false))
    ∷ sample (flag (equal_call table_s (one 0x80 3) (one 0x80 8))) (flag (accepted false))
    ∷ sample (place (as_right_call table_s (one 0xC0 5))) (place (accepted (record { offset = 1; node = 4 })))
    ∷ sample (place (as_right_call table_s (one 0x80 8))) (place (accepted (record { offset = 2; node = 0 })))
    ∷ sample (places (as_product_call table_s (one 0x30 7)))
    (places (accepted (record { first = record { offset = 0; node = 5 }; second = record { offset = 3; node = 1 } })))
    ∷ sample (count (left_call table_s (one 0x80 3) 5 spare)) (count (refused 7 0))
    ∷ sample (count (right_call table_s (one 0xC0 4) 5 spare)) (count (accepted 3))
    ∷ sample (out (right_out table_s (one 0xC0 4) 5 spare)) (out (0xE0 ∷ 0xFF ∷ []))
    ∷ sample (count (pad_left_call table_s 1 4)) (count (accepted 1))
    ∷ sample (count (pad_right_call table_s 1 4)) (count (accepted 0))
    ∷ []

pub record_edges_hold : map defined record_edges ≡ map paper record_edges
unfolding record_edges defined paper table_s table_e table_o table_p spare least from same bits width size padded least_length ty_to ty_at class_of first_bad first_bad_entry entry_right facts_right table_in seven_bit_groups entry_from entries_from odd to_bits bits_of value pack_to pack written compact same_bits order_bits decode_compact decode_padded word word_widths is_word as_word exponent buffer buffer_bits ctx8 ctx8_bits cut ladder record_bits rest_of
record_edges_hold = refl

-- The words of table B alone.
unfoldable table_w : Table
table_w = record { columns = table_b.columns; facts = table_b.facts; count = 6 }

-- Words, byte arrays, joins, buffers and the hash state at their edges.
pub word_edges : List Sample
word_edges =
    sample (count (word_width_call 31)) (count (accepted (2 ^ 31)))
    ∷ sample (count (word_width_call 32)) (count (refused 6 0))
    ∷ sample (count (word_width_call (2 ^ 64 - 1))) (count (refused 6 0))
    ∷ sample (count (buffer_width_call 5)) (count (accepted 510))
    ∷ sample (count (buffer_width_call 12)) (count (accepted 65541))
    ∷ sample (count (buffer_width_call 13)) (count (refused 6 0))
    ∷ sample (flag (is_buffer8_call table_b 8 1)) (flag (accepted true))
    ∷ sample (flag (is_buffer8_call table_e 1 12)) (flag (accepted false))
    ∷ sample (flag (is_buffer8_call table_e 1 13)) (flag (refused 6 0))
    ∷ sample (number (bits ctx8)) (number 830)
    ∷ sample (number (exponent 0)) (number 29)
    ∷ sample (number (exponent 1)) (number 0)
    ∷ sample (number (exponent 3)) (number 29)
    ∷ sample (number (exponent (2 ^ 28))) (number 28)
    ∷ sample (number (exponent (2 ^ 29))) (number 29)
    ∷ sample (count (as_word_call table_o 3)) (count (refused 7 0))
    ∷ sample (count (as_word_call table_o 5)) (count (accepted 1))
    ∷ sample (count (as_word_call table_o 2)) (count (accepted 0))
    ∷ sample (count (as_word_call table_o 0)) (count (refused 7 0))
    ∷ sample (count (as_word_call table_o 6)) (count (refused 2 0))
    ∷ sample (count (number_call table_o 0 2 1 [])) (count (refused 6 0))
    ∷ sample (count (number_call table_o 1 4 5 [])) (count (refused 6 0))
    ∷ sample (count (number_call table_o 1 4 99 [])) (count (refused 2 0))
    ∷ sample (count (number_call table_o 1 3 3 [])) (count (refused 7 0))
    ∷ sample (count (number_call table_o 1 3 5 [])) (count (refused 9 0))
    ∷ sample (out (number_out table_o 1 2 5 spare)) (out (0x80 ∷ 0xFF ∷ []))
    ∷ sample (count (bytes_call table_w 3 [] 4 spare)) (count (refused 6 0))
    ∷ sample (out (bytes_out table_w 4 (0x12 ∷ 0x34 ∷ []) 5 spare)) (out (0x12 ∷ 0x34 ∷ []))
    ∷ sample (count (array_call table_w [] 4 [])) (count (refused 6 0))
    ∷ sample (count (array_call table_w (1 ∷ 2 ∷ 3 ∷ []) 4 [])) (count (refused 6 0))
    ∷ sample (count (array_call table_w (1 ∷ []) 3 [])) (count (refused 7 0))
    ∷ sample (count (join_call table_o (one 0x80 1) (one 0x80 2) 5 spare)) (count (accepted 2))
    ∷ sample (out (join_out table_o (one 0x80 1) (record_of (0x40 ∷ []) 1 2) 5 spare)) (out (0xC0 ∷ 0xFF ∷ []))
    ∷ sample (count (join_call table_o (one 0x80 3) (one 0x80 3) 5 spare)) (count (refused 7 0))
    ∷ sample (out (join_out table_w (one 0x12 4) (one 0x34 4) 5 spare)) (out (0x12 ∷ 0x34 ∷ []))
    ∷ sample (count (word_read_call table_o (stream_of (0x60 ∷ []) 8 0) 32 3 [])) (count (refused 6 0))
    ∷ sample (count (word_read_call table_o (stream_of (0x60 ∷ []) 8 0) 1 3 [])) (count (refused 7 0))
    ∷ sample (count (word_read_call table_o (stream_of (0x60 ∷ []) 8 7) 1 5 [])) (count (refused 8 0))
    ∷ sample (count (word_read_call table_o (stream_of (0x60 ∷ []) 8 6) 1 5 [])) (count (refused 9 0))
    ∷ sample (count (word_read_call table_o (stream_of (0x60 ∷ []) 8 6) 1 5 spare)) (count (accepted 8))
    ∷ sample (count (word_read_call table_o (stream_of (0x60 ∷ []) 9 6) 77 5 spare)) (count (refused 5 0))
    ∷ sample (count (buffer_call table_b (2 ^ 64 - 1) (1 ∷ []) 4 [])) (count (refused 6 0))
    ∷ sample (count (buffer_call table_b 0 (1 ∷ 2 ∷ []) 6 spare)) (count (refused 6 0))
    ∷ sample (out (buffer_out table_b 1 (0xFF ∷ []) 8 (9 ∷ 9 ∷ 9 ∷ 9 ∷ []))) (out (0x00 ∷ 0x00 ∷ 0x7F ∷ 0xC0 ∷ []))
    ∷ sample (out (pack (compact (buffer 1) (buffer_bits 1 (0xFF ∷ []))))) (out (0x7F ∷ 0xC0 ∷ []))
    ∷ sample (out (buffer_out table_b 1 (0x01 ∷ 0x02 ∷ 0x03 ∷ []) 8 (9 ∷ 9 ∷ 9 ∷ 9 ∷ []))) (out (0x80 ∷ 0x81 ∷ 0x40 ∷ 0xC0 ∷ []))
    ∷ sample (count (ctx8_call table_b (record { midstate = replicate 32 255; counted = 1; buffered = replicate 63 7; used = 64 }) 8 [])) (count (refused 6 0))
    ∷ sample (out (pack (drop 510 (ctx8_bits (record { midstate = 0xAB ∷ []; counted = 1; buffered = []; used = 0 })))))
    (out (0 ∷ 0 ∷ 0 ∷ 0 ∷ 0 ∷ 0 ∷ 0 ∷ 1 ∷ 0xAB ∷ []))
    ∷ sample (number top) (number 18446744073709551615)
    ∷ sample (number (stop top 1)) (number top)
    ∷ sample (number (length (ctx8_bits (record { midstate = replicate 32 255; counted = 1; buffered = replicate 63 7; used = 0 })))) (number 830)
    ∷ []

pub word_edges_hold : map defined word_edges ≡ map paper word_edges
unfolding word_edges defined paper table_e table_o table_w table_b spare least from same bits width size padded least_length ty_to ty_at class_of first_bad first_bad_entry entry_right facts_right table_in seven_bit_groups entry_from entries_from odd to_bits bits_of value pack_to pack written compact same_bits order_bits decode_compact decode_padded word word_widths is_word as_word exponent buffer buffer_bits ctx8 ctx8_bits cut ladder record_bits rest_of
word_edges_hold = refl

-- Least compact lengths: of a word, a buffer and the hash state, and of sums whose narrower side has the greater one.
pub least_edges : List Sample
least_edges =
    sample (number (least_length (word 4))) (number 16)
    ∷ sample (number (least_length (sum (word 1) (sum unit (word 2))))) (number 2)
    ∷ sample (number (least_length (sum (sum unit (word 3)) (word 2)))) (number 2)
    ∷ sample (number (least_length (buffer 12))) (number 13)
    ∷ sample (number (least_length ctx8)) (number 326)
    ∷ []

pub least_edges_hold : map defined least_edges ≡ map paper least_edges
unfolding least_edges defined paper least_length word buffer ctx8
least_edges_hold = refl
