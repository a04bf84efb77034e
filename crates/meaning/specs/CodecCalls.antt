-- The calls of the two codecs.
--
--   reads read_out              a reader's answer and output, from what it decodes
--   read_rungs write_rungs      1 to 5 of a reader, and of a writer
--   compact_in padded_in        what a reader decodes
--   compact_bits                what the compact writer writes
--   from_compact_call from_padded_call to_compact_call to_padded_call, and the same with `_out` for the output
use Rattle.std.specs.Prelude.{ℕ, ◌+◌, Bool, List, [], ◌∷◌, ◌++◌}
use Rattle.meaning.specs.Tables.{Table}
use Rattle.meaning.specs.Bits.{written}
use Rattle.meaning.specs.Records.{compact}
use Rattle.meaning.specs.Codecs.{Decoded, decode_compact, decode_padded, is_early, decoded_record, consumed}
use Rattle.meaning.specs.Ladder.{Answer, Rung, rung, ladder, kept, Record, Stream, type_at, type_of, record_bits, rest_of, named, stream_fits, room_for, makes, made}
use Rattle.meaning.specs.RecordCalls.{handed}

-- A reader's answer: after its other rungs 8 for a stream that ends early, then 9; accepted, the next position.
abbrev pub reads : List Rung → Stream → Decoded → List ℕ → Answer ℕ
reads rs s d out = ladder (rs ++ (rung (is_early d) 8 0 ∷ room_for (decoded_record d) out)) (s.position + consumed d)

-- A reader's output: the record that was read, from bit 0 on.
abbrev pub read_out : List Rung → Stream → Decoded → List ℕ → List ℕ
read_out rs s d out = kept (reads rs s d out) out (written (decoded_record d) out)

-- 1 to 5 of a reader.
abbrev pub read_rungs : Table → Stream → ℕ → List Rung
read_rungs t s node = named t (node ∷ []) ++ stream_fits s

-- What `from_compact_bits` decodes.
abbrev pub compact_in : Table → Stream → ℕ → Decoded
compact_in t s node = decode_compact (type_at t node) (rest_of s)

-- What `from_padded_bits` decodes.
abbrev pub padded_in : Table → Stream → ℕ → Decoded
padded_in t s node = decode_padded (type_at t node) (rest_of s)

-- 1 to 5 of a writer.
abbrev pub write_rungs : Table → Record → List Rung
write_rungs t r = handed t (r ∷ []) []

-- What `to_compact_bits` writes.
abbrev pub compact_bits : Table → Record → List Bool
compact_bits t r = compact (type_of t r) (record_bits t r)

-- `from_compact_bits`: the answer.
abbrev pub from_compact_call : Table → Stream → ℕ → List ℕ → Answer ℕ
from_compact_call t s node out = reads (read_rungs t s node) s (compact_in t s node) out

-- `from_compact_bits`: the output.
abbrev pub from_compact_out : Table → Stream → ℕ → List ℕ → List ℕ
from_compact_out t s node out = read_out (read_rungs t s node) s (compact_in t s node) out

-- `from_padded_bits`: the answer.
abbrev pub from_padded_call : Table → Stream → ℕ → List ℕ → Answer ℕ
from_padded_call t s node out = reads (read_rungs t s node) s (padded_in t s node) out

-- `from_padded_bits`: the output.
abbrev pub from_padded_out : Table → Stream → ℕ → List ℕ → List ℕ
from_padded_out t s node out = read_out (read_rungs t s node) s (padded_in t s node) out

-- `to_compact_bits`: the answer.
abbrev pub to_compact_call : Table → Record → List ℕ → Answer ℕ
to_compact_call t r out = makes (write_rungs t r) (compact_bits t r) out

-- `to_compact_bits`: the output.
abbrev pub to_compact_out : Table → Record → List ℕ → List ℕ
to_compact_out t r out = made (write_rungs t r) (compact_bits t r) out

-- `to_padded_bits` writes the record's own bits: the answer.
abbrev pub to_padded_call : Table → Record → List ℕ → Answer ℕ
to_padded_call t r out = makes (write_rungs t r) (record_bits t r) out

-- `to_padded_bits`: the output.
abbrev pub to_padded_out : Table → Record → List ℕ → List ℕ
to_padded_out t r out = made (write_rungs t r) (record_bits t r) out
