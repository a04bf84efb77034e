-- The rungs of every public call are in the order of their numbers: document 01, "If several apply, the smallest number is answered." A law a
-- call: its answer is the ladder of these rungs, and their numbers never fall.
--
--   InOrder in_order            an answer that is the ladder of these rungs, whose numbers never fall
--   in_order_refuses            it refuses with a number and a place exactly if its first rung that holds has them
--   in_order_smallest           it answers a number exactly if a rung with it holds and none with a smaller one does
--   in_order_placed             and a place with it exactly if that is the place of the first of the rungs with this number that holds
--   asked reading               the rungs of a question about types; of a reader
--   Own asks_never widths_never     a question's own rungs; no question about types answers 3 or 4
--   entries_filled groups_filled  the rungs of `fill_facts`: 1, and 9
--   file_read columns_read      the rungs of `read_table`: 1, and 9
-- and the law of each call:
--   read_table_order fill_facts_order check_table_order
--   facts_of_order same_type_order is_unit_order is_empty_order type_as_sum_order type_as_product_order pad_left_order pad_right_order
--   as_word_order word_width_order buffer_width_order is_buffer8_order is_ctx8_order
--   as_left_order as_right_order as_product_order equal_order compare_order compact_len_order padded_len_order
--   unit_order left_order right_order product_order none_order some_order zero_order
--   number_order (u1 u2 u4) bytes_order (u8 … u512) array_order (from_byte_array) join_order (word_product) word_read_order (word_from_bits)
--   buffer_order ctx8_order from_range_order (whatever is made after these rungs: ctx8 of slices, as `exports` has it)
--   from_compact_order from_padded_order to_compact_order to_padded_order prune_order
-- Assumes nothing.
use Prim.Native.Nat.{ℕ, ◌^◌}
use mathlib.Core.Path.{◌≡◌, refl, sym, ◌∙◌}
use mathlib.Core.Logic.{◌↔◌}
use mathlib.Core.Bool.{Bool, true, not, ◌&&◌}
use mathlib.Core.List.{List, [], ◌∷◌, ◌++◌}
use lib.ListN.{length, get_or}
use lib.Dec.{ltb}
use Rattle.meaning.specs.Types.{bits, is_sum, is_prod}
use Rattle.meaning.specs.Tables.{Columns, Table, count_right, columns_reach, groups_reach, first_bad_entry}
use Rattle.meaning.specs.Files.{Reading, faulty, found, Entry, table_in}
use Rattle.meaning.specs.Bits.{to_bits, bits_of}
use Rattle.meaning.specs.Records.{tag}
use Rattle.meaning.specs.Codecs.{Decoded, is_early, decoded_record}
use Rattle.meaning.specs.Words.{HashState, word_widths, as_word, buffer, buffer_bits, ctx8_bits}
use Rattle.meaning.specs.Ladder.{Answer, refused, Rung, rung, ladder, Record, Stream, type_at, type_of, record_bits}
use Rattle.meaning.specs.Ladder.{sound, present, ranged, shaped, room_for, makes}
use Rattle.meaning.specs.TypeCalls as types
use Rattle.meaning.specs.RecordCalls as records
use Rattle.meaning.specs.RecordCalls.{handed, addressed}
use Rattle.meaning.specs.CodecCalls as codecs
use Rattle.meaning.specs.WordCalls as words
use Rattle.meaning.specs.CutCalls as cuts
use Rattle.meaning.proofs.Refusals.{First, FirstOf, Holds, NoneBelow, ladder_refuses, ordered, smallest_answered, smallest_placed, without_unanswered}

-- The answer x is the ladder of these rungs over some value, and their numbers never fall.
pub record InOrder {A : Type 0} (x : Answer A) (rungs : List Rung) : Type 0 where
  pub value : A
  pub is_ladder : x ≡ ladder rungs value
  pub never_fall : ordered rungs ≡ true

pub in_order : {A : Type 0} {x : Answer A} {rungs : List Rung} (a : A) → x ≡ ladder rungs a → ordered rungs ≡ true → InOrder x rungs
in_order a e o = record { value = a; is_ladder = e; never_fall = o }

pub in_order_refuses : {A : Type 0} {x : Answer A} {rungs : List Rung} → InOrder x rungs → (n p : ℕ) → (x ≡ refused n p) ↔ First rungs n p
in_order_refuses {rungs = rungs} o n p =
    let l = ladder_refuses rungs o.value n p in
    (λ e. l.0 (sym o.is_ladder ∙ e), λ f. o.is_ladder ∙ l.1 f)

pub in_order_smallest : {A : Type 0} {x : Answer A} {rungs : List Rung} → InOrder x rungs → (n : ℕ)
    → ((p : ℕ) × (x ≡ refused n p)) ↔ (((p : ℕ) × Holds rungs n p) × NoneBelow rungs n)
in_order_smallest {rungs = rungs} o n =
    let l = smallest_answered rungs o.value n o.never_fall in (
      λ e. l.0 (e.0, sym o.is_ladder ∙ e.1),
      λ s. let f = l.1 s in (f.0, o.is_ladder ∙ f.1),
    )

pub in_order_placed : {A : Type 0} {x : Answer A} {rungs : List Rung} → InOrder x rungs → (n p : ℕ)
    → (x ≡ refused n p) ↔ (FirstOf rungs n p × NoneBelow rungs n)
in_order_placed {rungs = rungs} o n p =
    let l = smallest_placed rungs o.value n p o.never_fall in
    (λ e. l.0 (sym o.is_ladder ∙ e), λ s. o.is_ladder ∙ l.1 s)

-- The rungs of a question about types, with its own last.
abbrev pub asked : Table → List ℕ → List Rung → List Rung
asked t ns own = sound t ++ (present t ns ++ own)

-- What a question asks after 1 and 2: nothing, a range or a shape.
pub data Own : List Rung → Type 0 where
  nothing : Own []
  range : (b : Bool) → Own (ranged b)
  shape : (b : Bool) → Own (shaped b)

pub asks_never : {A : Type 0} (t : Table) (ns : List ℕ) {own : List Rung} → Own own → (a : A) (p : ℕ)
    → (types.asks t ns own a ≡ refused 3 p → ⊥) × (types.asks t ns own a ≡ refused 4 p → ⊥)
asks_never t ns nothing a p = (without_unanswered (asked t ns []) a 3 p refl, without_unanswered (asked t ns []) a 4 p refl)
asks_never t ns (range b) a p =
    (without_unanswered (asked t ns (ranged b)) a 3 p refl, without_unanswered (asked t ns (ranged b)) a 4 p refl)
asks_never t ns (shape b) a p =
    (without_unanswered (asked t ns (shaped b)) a 3 p refl, without_unanswered (asked t ns (shaped b)) a 4 p refl)

-- Of the questions that name no node.
pub widths_never : (n p : ℕ) → ((types.word_width_call n ≡ refused 3 p → ⊥) × (types.word_width_call n ≡ refused 4 p → ⊥))
    × ((types.buffer_width_call n ≡ refused 3 p → ⊥) × (types.buffer_width_call n ≡ refused 4 p → ⊥))
widths_never n p = (
  (without_unanswered (ranged (ltb n 32)) (get_or word_widths n 0) 3 p refl, without_unanswered (ranged (ltb n 32)) (get_or word_widths n 0) 4 p refl),
  (without_unanswered (ranged (ltb n 13)) (bits (buffer n)) 3 p refl, without_unanswered (ranged (ltb n 13)) (bits (buffer n)) 4 p refl),
)

-- The rungs of a reader that decodes d.
abbrev pub reading : List Rung → Decoded → List ℕ → List Rung
reading rs d out = rs ++ (rung (is_early d) 8 0 ∷ room_for (decoded_record d) out)

-- `fill_facts`: 1.
abbrev pub entries_filled : Columns → ℕ → List Rung
entries_filled c n = rung (not (count_right n && columns_reach c n)) 1 0 ∷ rung (ltb (first_bad_entry c n) n) 1 (first_bad_entry c n) ∷ []

-- `fill_facts`: 9.
abbrev pub groups_filled : ℕ → List ℕ → List Rung
groups_filled n gs = rung (not (groups_reach gs n)) 9 0 ∷ []

pub fill_facts_order : (c : Columns) (n : ℕ) (gs : List ℕ) → InOrder (types.fill_facts_call c n gs) (entries_filled c n ++ groups_filled n gs)
fill_facts_order c n gs = in_order _ refl refl

-- `read_table`: 1.
abbrev pub file_read : Reading (List Entry) → List Rung
file_read r = types.file_rung r ∷ []

-- `read_table`: 9.
abbrev pub columns_read : Reading (List Entry) → Columns → List ℕ → List Rung
columns_read r c gs = rung (not (columns_reach c (length (types.entries_in r)) && groups_reach gs (length (types.entries_in r)))) 9 0 ∷ []

pub read_table_order : (file : List ℕ) (c : Columns) (gs : List ℕ)
    → InOrder (types.read_table_call file c gs) (file_read (table_in file) ++ columns_read (table_in file) c gs)
read_table_order file c gs = in_order _ refl (go (table_in file))
  where
    go : (r : Reading (List Entry)) → ordered (file_read r ++ columns_read r c gs) ≡ true
    go (faulty p) = refl
    go (found es at) = refl

pub word_width_order : (n : ℕ) → InOrder (types.word_width_call n) (ranged (ltb n 32))
word_width_order n = in_order _ refl refl

pub buffer_width_order : (n : ℕ) → InOrder (types.buffer_width_call n) (ranged (ltb n 13))
buffer_width_order n = in_order _ refl refl

module _ (t : Table) where
  pub check_table_order : InOrder (types.check_table_call t) (sound t)
  check_table_order = in_order _ refl refl

  pub facts_of_order : (n : ℕ) → InOrder (types.facts_of_call t n) (asked t (n ∷ []) [])
  facts_of_order n = in_order _ refl refl

  pub same_type_order : (a b : ℕ) → InOrder (types.same_type_call t a b) (asked t (a ∷ b ∷ []) [])
  same_type_order a b = in_order _ refl refl

  pub is_unit_order : (n : ℕ) → InOrder (types.is_unit_call t n) (asked t (n ∷ []) [])
  is_unit_order n = in_order _ refl refl

  pub is_empty_order : (n : ℕ) → InOrder (types.is_empty_call t n) (asked t (n ∷ []) [])
  is_empty_order n = in_order _ refl refl

  pub type_as_sum_order : (n : ℕ) → InOrder (types.type_as_sum_call t n) (asked t (n ∷ []) (shaped (is_sum (type_at t n))))
  type_as_sum_order n = in_order _ refl refl

  pub type_as_product_order : (n : ℕ) → InOrder (types.type_as_product_call t n) (asked t (n ∷ []) (shaped (is_prod (type_at t n))))
  type_as_product_order n = in_order _ refl refl

  pub pad_left_order : (a b : ℕ) → InOrder (types.pad_left_call t a b) (asked t (a ∷ b ∷ []) [])
  pad_left_order a b = in_order _ refl refl

  pub pad_right_order : (a b : ℕ) → InOrder (types.pad_right_call t a b) (asked t (a ∷ b ∷ []) [])
  pad_right_order a b = in_order _ refl refl

  pub as_word_order : (n : ℕ) → InOrder (types.as_word_call t n) (asked t (n ∷ []) (shaped (ltb (as_word (type_at t n)) 32)))
  as_word_order n = in_order _ refl refl

  pub is_buffer8_order : (a n : ℕ) → InOrder (types.is_buffer8_call t a n) (asked t (a ∷ []) (ranged (ltb n 13)))
  is_buffer8_order a n = in_order _ refl refl

  pub is_ctx8_order : (a : ℕ) → InOrder (types.is_ctx8_call t a) (asked t (a ∷ []) [])
  is_ctx8_order a = in_order _ refl refl

  pub as_left_order : (r : Record)
      → InOrder (records.as_left_call t r) (handed t (r ∷ []) [] ++ (addressed t r ++ shaped (is_sum (type_of t r) && not (tag (record_bits t r)))))
  as_left_order r = in_order _ refl refl

  pub as_right_order : (r : Record)
      → InOrder (records.as_right_call t r) (handed t (r ∷ []) [] ++ (addressed t r ++ shaped (is_sum (type_of t r) && tag (record_bits t r))))
  as_right_order r = in_order _ refl refl

  pub as_product_order : (r : Record) → InOrder (records.as_product_call t r) (handed t (r ∷ []) [] ++ (addressed t r ++ shaped (is_prod (type_of t r))))
  as_product_order r = in_order _ refl refl

  pub equal_order : (a b : Record) → InOrder (records.equal_call t a b) (handed t (a ∷ b ∷ []) [])
  equal_order a b = in_order _ refl refl

  pub compare_order : (a b : Record) → InOrder (records.compare_call t a b) (handed t (a ∷ b ∷ []) [])
  compare_order a b = in_order _ refl refl

  pub compact_len_order : (r : Record) → InOrder (records.compact_len_call t r) (handed t (r ∷ []) [])
  compact_len_order r = in_order _ refl refl

  pub padded_len_order : (r : Record) → InOrder (records.padded_len_call t r) (handed t (r ∷ []) [])
  padded_len_order r = in_order _ refl refl

  pub unit_order : (result : ℕ) (out : List ℕ) → InOrder (records.unit_call t result out) (records.unit_rungs t result ++ room_for [] out)
  unit_order result out = in_order _ refl refl

  pub left_order : (p : Record) (result : ℕ) (out : List ℕ)
      → InOrder (records.left_call t p result out) (records.left_rungs t p result ++ room_for (records.left_bits t p result) out)
  left_order p result out = in_order _ refl refl

  pub right_order : (p : Record) (result : ℕ) (out : List ℕ)
      → InOrder (records.right_call t p result out) (records.right_rungs t p result ++ room_for (records.right_bits t p result) out)
  right_order p result out = in_order _ refl refl

  pub product_order : (a b : Record) (result : ℕ) (out : List ℕ)
      → InOrder (records.product_call t a b result out) (records.product_rungs t a b result ++ room_for (records.product_bits t a b) out)
  product_order a b result out = in_order _ refl refl

  pub none_order : (result : ℕ) (out : List ℕ)
      → InOrder (records.none_call t result out) (records.none_rungs t result ++ room_for (records.none_bits t result) out)
  none_order result out = in_order _ refl refl

  pub some_order : (p : Record) (result : ℕ) (out : List ℕ)
      → InOrder (records.some_call t p result out) (records.some_rungs t p result ++ room_for (records.some_bits t p result) out)
  some_order p result out = in_order _ refl refl

  pub zero_order : (result : ℕ) (out : List ℕ)
      → InOrder (records.zero_call t result out) (records.zero_rungs t result ++ room_for (records.zero_bits t result) out)
  zero_order result out = in_order _ refl refl

  pub number_order : (n x result : ℕ) (out : List ℕ)
      → InOrder (words.number_call t n x result out) (words.number_rungs t n x result ++ room_for (to_bits (2 ^ n) x) out)
  number_order n x result out = in_order _ refl refl

  pub bytes_order : (n : ℕ) (given : List ℕ) (result : ℕ) (out : List ℕ)
      → InOrder (words.bytes_call t n given result out) (words.bytes_rungs t n given result ++ room_for (bits_of given) out)
  bytes_order n given result out = in_order _ refl refl

  pub array_order : (given : List ℕ) (result : ℕ) (out : List ℕ)
      → InOrder (words.array_call t given result out) (words.array_rungs t given result ++ room_for (bits_of given) out)
  array_order given result out = in_order _ refl refl

  pub join_order : (a b : Record) (result : ℕ) (out : List ℕ)
      → InOrder (words.join_call t a b result out) (words.join_rungs t a b result ++ room_for (records.product_bits t a b) out)
  join_order a b result out = in_order _ refl refl

  pub word_read_order : (s : Stream) (n node : ℕ) (out : List ℕ)
      → InOrder (words.word_read_call t s n node out) (reading (words.word_read_rungs t s n node) (codecs.padded_in t s node) out)
  word_read_order s n node out = in_order _ refl refl

  pub buffer_order : (n : ℕ) (held : List ℕ) (result : ℕ) (out : List ℕ)
      → InOrder (words.buffer_call t n held result out) (words.buffer_rungs t n held result ++ room_for (buffer_bits n held) out)
  buffer_order n held result out = in_order _ refl refl

  pub ctx8_order : (s : HashState) (result : ℕ) (out : List ℕ)
      → InOrder (words.ctx8_call t s result out) (words.ctx8_rungs t s result ++ room_for (ctx8_bits s) out)
  ctx8_order s result out = in_order _ refl refl

  pub from_range_order : (result : ℕ) (in_range right : Bool) (v : List Bool) (out : List ℕ)
      → InOrder (makes (words.from_range t result in_range right) v out) (words.from_range t result in_range right ++ room_for v out)
  from_range_order result in_range right v out = in_order _ refl refl

  pub from_compact_order : (s : Stream) (node : ℕ) (out : List ℕ)
      → InOrder (codecs.from_compact_call t s node out) (reading (codecs.read_rungs t s node) (codecs.compact_in t s node) out)
  from_compact_order s node out = in_order _ refl refl

  pub from_padded_order : (s : Stream) (node : ℕ) (out : List ℕ)
      → InOrder (codecs.from_padded_call t s node out) (reading (codecs.read_rungs t s node) (codecs.padded_in t s node) out)
  from_padded_order s node out = in_order _ refl refl

  pub to_compact_order : (r : Record) (out : List ℕ)
      → InOrder (codecs.to_compact_call t r out) (codecs.write_rungs t r ++ room_for (codecs.compact_bits t r) out)
  to_compact_order r out = in_order _ refl refl

  pub to_padded_order : (r : Record) (out : List ℕ) → InOrder (codecs.to_padded_call t r out) (codecs.write_rungs t r ++ room_for (record_bits t r) out)
  to_padded_order r out = in_order _ refl refl

  pub prune_order : (r : Record) (target : ℕ) (out : List ℕ)
      → InOrder (cuts.prune_call t r target out) (cuts.prune_rungs t r target ++ room_for (cuts.cut_bits (cuts.cut_of t r target)) out)
  prune_order r target out = in_order _ refl refl
