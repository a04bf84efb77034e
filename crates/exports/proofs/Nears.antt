-- Every call's refusals are near: number and place fit 64 bits. A law a call; those of `fill_facts` and `read_table` stand in
-- `Places` and `Offsets`. Assumes nothing.
use Prim.Native.Nat.{ℕ}
use mathlib.Core.Path.{refl}
use mathlib.Core.List.{List}
use Rattle.meaning.specs.Tables.{Table}
use Rattle.meaning.specs.Ladder.{Record, Stream}
use Rattle.meaning.specs.TypeCalls as types
use Rattle.meaning.specs.RecordCalls as records
use Rattle.meaning.specs.WordCalls as words
use Rattle.meaning.specs.CodecCalls as codecs
use Rattle.meaning.specs.CutCalls as cuts
use Rattle.exports_answers.specs.Codes.{Near}
use Rattle.exports.specs.Handed.{ctx8_handed}
use Rattle.exports.proofs.Places.{flat_near, sound_near}

pub check_table_near : (t : Table) → Near (types.check_table_call t)
check_table_near t = sound_near t _ _ refl

pub facts_of_near : (t : Table) (n : ℕ) → Near (types.facts_of_call t n)
facts_of_near t n = sound_near t _ _ refl

pub same_type_near : (t : Table) (a b : ℕ) → Near (types.same_type_call t a b)
same_type_near t a b = sound_near t _ _ refl

pub is_unit_near : (t : Table) (n : ℕ) → Near (types.is_unit_call t n)
is_unit_near t n = sound_near t _ _ refl

pub is_empty_near : (t : Table) (n : ℕ) → Near (types.is_empty_call t n)
is_empty_near t n = sound_near t _ _ refl

pub type_as_sum_near : (t : Table) (n : ℕ) → Near (types.type_as_sum_call t n)
type_as_sum_near t n = sound_near t _ _ refl

pub type_as_product_near : (t : Table) (n : ℕ) → Near (types.type_as_product_call t n)
type_as_product_near t n = sound_near t _ _ refl

pub pad_left_near : (t : Table) (a b : ℕ) → Near (types.pad_left_call t a b)
pad_left_near t a b = sound_near t _ _ refl

pub pad_right_near : (t : Table) (a b : ℕ) → Near (types.pad_right_call t a b)
pad_right_near t a b = sound_near t _ _ refl

pub as_word_near : (t : Table) (n : ℕ) → Near (types.as_word_call t n)
as_word_near t n = sound_near t _ _ refl

pub word_width_near : (n : ℕ) → Near (types.word_width_call n)
word_width_near n = flat_near _ _ refl

pub buffer_width_near : (n : ℕ) → Near (types.buffer_width_call n)
buffer_width_near n = flat_near _ _ refl

pub is_buffer8_near : (t : Table) (a n : ℕ) → Near (types.is_buffer8_call t a n)
is_buffer8_near t a n = sound_near t _ _ refl

pub is_ctx8_near : (t : Table) (a : ℕ) → Near (types.is_ctx8_call t a)
is_ctx8_near t a = sound_near t _ _ refl

pub as_left_near : (t : Table) (r : Record) → Near (records.as_left_call t r)
as_left_near t r = sound_near t _ _ refl

pub as_right_near : (t : Table) (r : Record) → Near (records.as_right_call t r)
as_right_near t r = sound_near t _ _ refl

pub as_product_near : (t : Table) (r : Record) → Near (records.as_product_call t r)
as_product_near t r = sound_near t _ _ refl

pub equal_near : (t : Table) (a b : Record) → Near (records.equal_call t a b)
equal_near t a b = sound_near t _ _ refl

pub compare_near : (t : Table) (a b : Record) → Near (records.compare_call t a b)
compare_near t a b = sound_near t _ _ refl

pub compact_len_near : (t : Table) (r : Record) → Near (records.compact_len_call t r)
compact_len_near t r = sound_near t _ _ refl

pub padded_len_near : (t : Table) (r : Record) → Near (records.padded_len_call t r)
padded_len_near t r = sound_near t _ _ refl

pub unit_near : (t : Table) (result : ℕ) (out : List ℕ) → Near (records.unit_call t result out)
unit_near t result out = sound_near t _ _ refl

pub left_near : (t : Table) (p : Record) (result : ℕ) (out : List ℕ) → Near (records.left_call t p result out)
left_near t p result out = sound_near t _ _ refl

pub right_near : (t : Table) (p : Record) (result : ℕ) (out : List ℕ) → Near (records.right_call t p result out)
right_near t p result out = sound_near t _ _ refl

pub product_near : (t : Table) (a b : Record) (result : ℕ) (out : List ℕ) → Near (records.product_call t a b result out)
product_near t a b result out = sound_near t _ _ refl

pub none_near : (t : Table) (result : ℕ) (out : List ℕ) → Near (records.none_call t result out)
none_near t result out = sound_near t _ _ refl

pub some_near : (t : Table) (p : Record) (result : ℕ) (out : List ℕ) → Near (records.some_call t p result out)
some_near t p result out = sound_near t _ _ refl

pub zero_near : (t : Table) (result : ℕ) (out : List ℕ) → Near (records.zero_call t result out)
zero_near t result out = sound_near t _ _ refl

pub number_near : (t : Table) (n x : ℕ) (result : ℕ) (out : List ℕ) → Near (words.number_call t n x result out)
number_near t n x result out = sound_near t _ _ refl

pub bytes_near : (t : Table) (n : ℕ) (given : List ℕ) (result : ℕ) (out : List ℕ) → Near (words.bytes_call t n given result out)
bytes_near t n given result out = sound_near t _ _ refl

pub array_near : (t : Table) (given : List ℕ) (result : ℕ) (out : List ℕ) → Near (words.array_call t given result out)
array_near t given result out = sound_near t _ _ refl

pub join_near : (t : Table) (a b : Record) (result : ℕ) (out : List ℕ) → Near (words.join_call t a b result out)
join_near t a b result out = sound_near t _ _ refl

pub word_read_near : (t : Table) (s : Stream) (n node : ℕ) (out : List ℕ) → Near (words.word_read_call t s n node out)
word_read_near t s n node out = sound_near t _ _ refl

pub buffer_near : (t : Table) (n : ℕ) (held : List ℕ) (result : ℕ) (out : List ℕ) → Near (words.buffer_call t n held result out)
buffer_near t n held result out = sound_near t _ _ refl

pub ctx8_near : (t : Table) (m : List ℕ) (k : ℕ) (b : List ℕ) (result : ℕ) (out : List ℕ) → Near (ctx8_handed t m k b result out)
ctx8_near t m k b result out = sound_near t _ _ refl

pub from_compact_near : (t : Table) (s : Stream) (node : ℕ) (out : List ℕ) → Near (codecs.from_compact_call t s node out)
from_compact_near t s node out = sound_near t _ _ refl

pub from_padded_near : (t : Table) (s : Stream) (node : ℕ) (out : List ℕ) → Near (codecs.from_padded_call t s node out)
from_padded_near t s node out = sound_near t _ _ refl

pub to_compact_near : (t : Table) (r : Record) (out : List ℕ) → Near (codecs.to_compact_call t r out)
to_compact_near t r out = sound_near t _ _ refl

pub to_padded_near : (t : Table) (r : Record) (out : List ℕ) → Near (codecs.to_padded_call t r out)
to_padded_near t r out = sound_near t _ _ refl

pub prune_near : (t : Table) (r : Record) (target : ℕ) (out : List ℕ) → Near (cuts.prune_call t r target out)
prune_near t r target out = sound_near t _ _ refl
