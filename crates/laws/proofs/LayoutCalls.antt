-- K9, a law a call. Two tables have the same columns and count, and facts in two layouts that hold the same (`SameFacts`), sound or not: every
-- call answers both the same, number and place included, and leaves the same in each lent buffer. What C's calls answer with, and the numbers
-- and entries that they store, are functions of this answer and of what was lent alone (`exports_answers`, specs/Codes), so they are equal with it.
--
--   answer_same                 any ladder that begins with rung 1
--   kept_same                   a buffer that stays as it stood where such a ladder refuses
-- and, law, definition (same: the answer; out-same: the output) and exported call:
--   check_table_same                         check_table_call                          check_table
--   facts_of_same                            facts_of_call                             facts_of
--   same_type_same                           same_type_call                            same_type
--   is_unit_same                             is_unit_call                              is_unit
--   is_empty_same                            is_empty_call                             is_empty
--   type_as_sum_same                         type_as_sum_call                           type_as_sum
--   type_as_product_same                     type_as_product_call                       type_as_product
--   pad_left_same                            pad_left_call                             pad_left
--   pad_right_same                           pad_right_call                            pad_right
--   as_word_same                             as_word_call                              as_word
--   is_buffer8_same                          is_buffer8_call                           is_buffer8
--   is_ctx8_same                             is_ctx8_call                              is_ctx8
--   as_left_same                             as_left_call                              as_left
--   as_right_same                            as_right_call                             as_right
--   as_product_same                          as_product_call                           as_product
--   equal_same                               equal_call                               equal
--   compare_same                             compare_call                             compare
--   compact_len_same                         compact_len_call                          compact_len
--   padded_len_same                          padded_len_call                           padded_len
--   unit_same unit_out_same                  unit_call unit_out                        unit
--   left_same left_out_same                  left_call left_out                        left
--   right_same right_out_same                right_call right_out                      right
--   product_same product_out_same            product_call product_out                  product
--   none_same none_out_same                  none_call none_out                        none
--   some_same some_out_same                  some_call some_out                        some
--   zero_same zero_out_same                  zero_call zero_out                        zero
--   number_same number_out_same              number_call number_out                    u1 u2 u4
--   bytes_same bytes_out_same                bytes_call bytes_out                      u8 u16 u32 u64 u128 u256 u512
--   array_same array_out_same                array_call array_out                      from_byte_array
--   join_same join_out_same                  join_call join_out                        word_product
--   word_read_same word_read_out_same        word_read_call word_read_out                word_from_bits
--   buffer_same buffer_out_same              buffer_call buffer_out                    buffer8_two_n_plus_one
--   ctx8_same ctx8_out_same                  ctx8_call ctx8_out                        ctx8 of a struct
--   from_range_same from_range_out_same      from_range                               whatever is made after these rungs: ctx8 of slices, as `exports` has it
--   from_compact_same from_compact_out_same  from_compact_call from_compact_out          from_compact_bits
--   from_padded_same from_padded_out_same    from_padded_call from_padded_out            from_padded_bits
--   to_compact_same to_compact_out_same      to_compact_call to_compact_out              to_compact_bits
--   to_padded_same to_padded_out_same        to_padded_call to_padded_out                to_padded_bits
--   prune_same prune_out_same                prune_call prune_out                      prune
-- These are all exported calls but four. `word_width` and `buffer_width` are handed no table; `fill_facts` and `read_table` stand in
-- `LayoutFills`. Assumes nothing.
use Prim.Native.Nat.{ℕ}
use mathlib.Core.Path.{◌≡◌, refl, ap, sym, ◌∙◌}
use mathlib.Core.Bool.{Bool}
use mathlib.Core.List.{List, ◌++◌}
use Rattle.meaning.specs.Tables.{Columns, Facts, Table}
use Rattle.meaning.specs.Words.{HashState}
use Rattle.meaning.specs.Ladder.{Answer, Rung, ladder, kept, Record, Stream, record_bits, sound, makes, made}
use Rattle.meaning.specs.TypeCalls as types
use Rattle.meaning.specs.RecordCalls as records
use Rattle.meaning.specs.CodecCalls as codecs
use Rattle.meaning.specs.WordCalls as words
use Rattle.meaning.specs.CutCalls as cuts
use Rattle.laws.proofs.Layouts.{SameFacts, table_with, answers_same}

module _ (c : Columns) (n : ℕ) (f g : Facts) (same : SameFacts n f g) where
  -- The table with its facts in one layout, and in the other.
  abbrev pub one : Table
  one = table_with c n f

  abbrev pub other : Table
  other = table_with c n g

  pub answer_same : {A : Type 0} (rs : List Rung) (a : A) {x y : Answer A} → x ≡ ladder (sound one ++ rs) a → y ≡ ladder (sound other ++ rs) a → x ≡ y
  answer_same rs a p q = p ∙ answers_same c n f g same rs a ∙ sym q

  pub kept_same : {A : Type 0} (rs : List Rung) (a : A) (before after : List ℕ) {x y : List ℕ}
      → x ≡ kept (ladder (sound one ++ rs) a) before after → y ≡ kept (ladder (sound other ++ rs) a) before after → x ≡ y
  kept_same rs a before after p q = p ∙ ap (λ z. kept z before after) (answers_same c n f g same rs a) ∙ sym q

  pub check_table_same : types.check_table_call one ≡ types.check_table_call other
  check_table_same = answer_same _ _ refl refl

  pub facts_of_same : (k : ℕ) → types.facts_of_call one k ≡ types.facts_of_call other k
  facts_of_same k = answer_same _ _ refl refl

  pub same_type_same : (a b : ℕ) → types.same_type_call one a b ≡ types.same_type_call other a b
  same_type_same a b = answer_same _ _ refl refl

  pub is_unit_same : (k : ℕ) → types.is_unit_call one k ≡ types.is_unit_call other k
  is_unit_same k = answer_same _ _ refl refl

  pub is_empty_same : (k : ℕ) → types.is_empty_call one k ≡ types.is_empty_call other k
  is_empty_same k = answer_same _ _ refl refl

  pub type_as_sum_same : (k : ℕ) → types.type_as_sum_call one k ≡ types.type_as_sum_call other k
  type_as_sum_same k = answer_same _ _ refl refl

  pub type_as_product_same : (k : ℕ) → types.type_as_product_call one k ≡ types.type_as_product_call other k
  type_as_product_same k = answer_same _ _ refl refl

  pub pad_left_same : (a b : ℕ) → types.pad_left_call one a b ≡ types.pad_left_call other a b
  pad_left_same a b = answer_same _ _ refl refl

  pub pad_right_same : (a b : ℕ) → types.pad_right_call one a b ≡ types.pad_right_call other a b
  pad_right_same a b = answer_same _ _ refl refl

  pub as_word_same : (k : ℕ) → types.as_word_call one k ≡ types.as_word_call other k
  as_word_same k = answer_same _ _ refl refl

  pub is_buffer8_same : (a k : ℕ) → types.is_buffer8_call one a k ≡ types.is_buffer8_call other a k
  is_buffer8_same a k = answer_same _ _ refl refl

  pub is_ctx8_same : (k : ℕ) → types.is_ctx8_call one k ≡ types.is_ctx8_call other k
  is_ctx8_same k = answer_same _ _ refl refl

  pub as_left_same : (r : Record) → records.as_left_call one r ≡ records.as_left_call other r
  unfolding record_bits
  as_left_same r = answer_same _ _ refl refl

  pub as_right_same : (r : Record) → records.as_right_call one r ≡ records.as_right_call other r
  unfolding record_bits
  as_right_same r = answer_same _ _ refl refl

  pub as_product_same : (r : Record) → records.as_product_call one r ≡ records.as_product_call other r
  as_product_same r = answer_same _ _ refl refl

  pub equal_same : (a b : Record) → records.equal_call one a b ≡ records.equal_call other a b
  unfolding record_bits
  equal_same a b = answer_same _ _ refl refl

  pub compare_same : (a b : Record) → records.compare_call one a b ≡ records.compare_call other a b
  unfolding record_bits
  compare_same a b = answer_same _ _ refl refl

  pub compact_len_same : (r : Record) → records.compact_len_call one r ≡ records.compact_len_call other r
  unfolding record_bits
  compact_len_same r = answer_same _ _ refl refl

  pub padded_len_same : (r : Record) → records.padded_len_call one r ≡ records.padded_len_call other r
  padded_len_same r = answer_same _ _ refl refl

  pub unit_same : (result : ℕ) (out : List ℕ) → records.unit_call one result out ≡ records.unit_call other result out
  unit_same result out = answer_same _ _ refl refl

  pub unit_out_same : (result : ℕ) (out : List ℕ) → records.unit_out one result out ≡ records.unit_out other result out
  unit_out_same result out = kept_same _ _ _ _ refl refl

  pub left_same : (p : Record) (result : ℕ) (out : List ℕ) → records.left_call one p result out ≡ records.left_call other p result out
  unfolding record_bits
  left_same p result out = answer_same _ _ refl refl

  pub left_out_same : (p : Record) (result : ℕ) (out : List ℕ) → records.left_out one p result out ≡ records.left_out other p result out
  unfolding record_bits
  left_out_same p result out = kept_same _ _ _ _ refl refl

  pub right_same : (p : Record) (result : ℕ) (out : List ℕ) → records.right_call one p result out ≡ records.right_call other p result out
  unfolding record_bits
  right_same p result out = answer_same _ _ refl refl

  pub right_out_same : (p : Record) (result : ℕ) (out : List ℕ) → records.right_out one p result out ≡ records.right_out other p result out
  unfolding record_bits
  right_out_same p result out = kept_same _ _ _ _ refl refl

  pub product_same : (a b : Record) (result : ℕ) (out : List ℕ) → records.product_call one a b result out ≡ records.product_call other a b result out
  unfolding record_bits
  product_same a b result out = answer_same _ _ refl refl

  pub product_out_same : (a b : Record) (result : ℕ) (out : List ℕ) → records.product_out one a b result out ≡ records.product_out other a b result out
  unfolding record_bits
  product_out_same a b result out = kept_same _ _ _ _ refl refl

  pub none_same : (result : ℕ) (out : List ℕ) → records.none_call one result out ≡ records.none_call other result out
  none_same result out = answer_same _ _ refl refl

  pub none_out_same : (result : ℕ) (out : List ℕ) → records.none_out one result out ≡ records.none_out other result out
  none_out_same result out = kept_same _ _ _ _ refl refl

  pub some_same : (p : Record) (result : ℕ) (out : List ℕ) → records.some_call one p result out ≡ records.some_call other p result out
  unfolding record_bits
  some_same p result out = answer_same _ _ refl refl

  pub some_out_same : (p : Record) (result : ℕ) (out : List ℕ) → records.some_out one p result out ≡ records.some_out other p result out
  unfolding record_bits
  some_out_same p result out = kept_same _ _ _ _ refl refl

  pub zero_same : (result : ℕ) (out : List ℕ) → records.zero_call one result out ≡ records.zero_call other result out
  zero_same result out = answer_same _ _ refl refl

  pub zero_out_same : (result : ℕ) (out : List ℕ) → records.zero_out one result out ≡ records.zero_out other result out
  zero_out_same result out = kept_same _ _ _ _ refl refl

  pub number_same : (m x : ℕ) (result : ℕ) (out : List ℕ) → words.number_call one m x result out ≡ words.number_call other m x result out
  number_same m x result out = answer_same _ _ refl refl

  pub number_out_same : (m x : ℕ) (result : ℕ) (out : List ℕ) → words.number_out one m x result out ≡ words.number_out other m x result out
  number_out_same m x result out = kept_same _ _ _ _ refl refl

  pub bytes_same : (m : ℕ) (given : List ℕ) (result : ℕ) (out : List ℕ) → words.bytes_call one m given result out ≡ words.bytes_call other m given result out
  bytes_same m given result out = answer_same _ _ refl refl

  pub bytes_out_same : (m : ℕ) (given : List ℕ) (result : ℕ) (out : List ℕ) → words.bytes_out one m given result out ≡ words.bytes_out other m given result out
  bytes_out_same m given result out = kept_same _ _ _ _ refl refl

  pub array_same : (given : List ℕ) (result : ℕ) (out : List ℕ) → words.array_call one given result out ≡ words.array_call other given result out
  array_same given result out = answer_same _ _ refl refl

  pub array_out_same : (given : List ℕ) (result : ℕ) (out : List ℕ) → words.array_out one given result out ≡ words.array_out other given result out
  array_out_same given result out = kept_same _ _ _ _ refl refl

  pub join_same : (a b : Record) (result : ℕ) (out : List ℕ) → words.join_call one a b result out ≡ words.join_call other a b result out
  unfolding record_bits
  join_same a b result out = answer_same _ _ refl refl

  pub join_out_same : (a b : Record) (result : ℕ) (out : List ℕ) → words.join_out one a b result out ≡ words.join_out other a b result out
  unfolding record_bits
  join_out_same a b result out = kept_same _ _ _ _ refl refl

  pub word_read_same : (s : Stream) (m k : ℕ) (out : List ℕ) → words.word_read_call one s m k out ≡ words.word_read_call other s m k out
  word_read_same s m k out = answer_same _ _ refl refl

  pub word_read_out_same : (s : Stream) (m k : ℕ) (out : List ℕ) → words.word_read_out one s m k out ≡ words.word_read_out other s m k out
  word_read_out_same s m k out = kept_same _ _ _ _ refl refl

  pub buffer_same : (m : ℕ) (held : List ℕ) (result : ℕ) (out : List ℕ) → words.buffer_call one m held result out ≡ words.buffer_call other m held result out
  buffer_same m held result out = answer_same _ _ refl refl

  pub buffer_out_same : (m : ℕ) (held : List ℕ) (result : ℕ) (out : List ℕ) → words.buffer_out one m held result out ≡ words.buffer_out other m held result out
  buffer_out_same m held result out = kept_same _ _ _ _ refl refl

  pub ctx8_same : (s : HashState) (result : ℕ) (out : List ℕ) → words.ctx8_call one s result out ≡ words.ctx8_call other s result out
  ctx8_same s result out = answer_same _ _ refl refl

  pub ctx8_out_same : (s : HashState) (result : ℕ) (out : List ℕ) → words.ctx8_out one s result out ≡ words.ctx8_out other s result out
  ctx8_out_same s result out = kept_same _ _ _ _ refl refl

  pub from_range_same : (result : ℕ) (in_range right : Bool) (v : List Bool) (out : List ℕ)
      → makes (words.from_range one result in_range right) v out ≡ makes (words.from_range other result in_range right) v out
  from_range_same result in_range right v out = answer_same _ _ refl refl

  pub from_range_out_same : (result : ℕ) (in_range right : Bool) (v : List Bool) (out : List ℕ)
      → made (words.from_range one result in_range right) v out ≡ made (words.from_range other result in_range right) v out
  from_range_out_same result in_range right v out = kept_same _ _ _ _ refl refl

  pub from_compact_same : (s : Stream) (k : ℕ) (out : List ℕ) → codecs.from_compact_call one s k out ≡ codecs.from_compact_call other s k out
  from_compact_same s k out = answer_same _ _ refl refl

  pub from_compact_out_same : (s : Stream) (k : ℕ) (out : List ℕ) → codecs.from_compact_out one s k out ≡ codecs.from_compact_out other s k out
  from_compact_out_same s k out = kept_same _ _ _ _ refl refl

  pub from_padded_same : (s : Stream) (k : ℕ) (out : List ℕ) → codecs.from_padded_call one s k out ≡ codecs.from_padded_call other s k out
  from_padded_same s k out = answer_same _ _ refl refl

  pub from_padded_out_same : (s : Stream) (k : ℕ) (out : List ℕ) → codecs.from_padded_out one s k out ≡ codecs.from_padded_out other s k out
  from_padded_out_same s k out = kept_same _ _ _ _ refl refl

  pub to_compact_same : (r : Record) (out : List ℕ) → codecs.to_compact_call one r out ≡ codecs.to_compact_call other r out
  unfolding record_bits
  to_compact_same r out = answer_same _ _ refl refl

  pub to_compact_out_same : (r : Record) (out : List ℕ) → codecs.to_compact_out one r out ≡ codecs.to_compact_out other r out
  unfolding record_bits
  to_compact_out_same r out = kept_same _ _ _ _ refl refl

  pub to_padded_same : (r : Record) (out : List ℕ) → codecs.to_padded_call one r out ≡ codecs.to_padded_call other r out
  unfolding record_bits
  to_padded_same r out = answer_same _ _ refl refl

  pub to_padded_out_same : (r : Record) (out : List ℕ) → codecs.to_padded_out one r out ≡ codecs.to_padded_out other r out
  unfolding record_bits
  to_padded_out_same r out = kept_same _ _ _ _ refl refl

  pub prune_same : (r : Record) (target : ℕ) (out : List ℕ) → cuts.prune_call one r target out ≡ cuts.prune_call other r target out
  unfolding record_bits
  prune_same r target out = answer_same _ _ refl refl

  pub prune_out_same : (r : Record) (target : ℕ) (out : List ℕ) → cuts.prune_out one r target out ≡ cuts.prune_out other r target out
  unfolding record_bits
  prune_out_same r target out = kept_same _ _ _ _ refl refl
