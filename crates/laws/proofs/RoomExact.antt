-- 9 is exact: each call that writes answers 9 exactly if none of its other rungs refuses and the output is shorter than the whole result needs.
-- Of a maker that is not said to go by a width, these are the bits that it makes; where its other rungs pass they are as many as the result is
-- wide, by `length_in_left`, `length_in_right`, `length_pair` of meaning and `length_buffer`, `length_state` of words_laws.
--
--   Short makes_nine            of a call that makes bits
--   makes_nine_wide             the same by a width, which the bits have if the other rungs pass
--   nothing_never_nine          a call that makes no bits never answers 9
--   ShortRead reads_nine        of a call that reads a stream that does not end early, by the width that every record read has
--   fill_facts_nine             of `fill_facts`: too few bytes for the groups
--   read_table_nine             of `read_table`: a column or the groups don't reach the file's count
-- and the law of each other call:
--   unit_never_nine zero_nine (by the width of the result) left_nine right_nine none_nine some_nine product_nine
--   number_nine (u1 u2 u4) bytes_nine (u8 … u512) array_nine (from_byte_array) join_nine (word_product)
--   buffer_nine ctx8_nine from_range_nine (whatever is made after these rungs: ctx8 of slices, as `exports` has it)
--   to_compact_nine to_padded_nine prune_nine (by the width of the target: `prune_nine_wide` of the crate prune)
--   from_compact_nine from_padded_nine word_read_nine (word_from_bits): by the width of the node's type
-- Assumes nothing.
use Prim.Native.Nat.{ℕ, ◌+◌, ◌*◌, ◌<◌, ◌^◌, zero-le}
use mathlib.Core.Path.{◌≡◌, refl, sym, ap, ◌∙◌, subst}
use mathlib.Core.Logic.{◌↔◌}
use mathlib.Core.Bool.{Bool, true, false, not, ◌&&◌}
use mathlib.Core.List.{List, [], ◌∷◌, ◌++◌, append_assoc}
use lib.ListN.{length, length-replicate}
use lib.Dec.{ltb}
use borrow.Author.Tests.{ltb-true, lt-ltb, le-ltb, leb-false, lt-leb, not-true}
use Rattle.meaning.specs.Types.{bits}
use Rattle.meaning.specs.Groups.{group_size}
use Rattle.meaning.specs.Tables.{Columns, Table, columns_reach, groups_reach}
use Rattle.meaning.specs.Files.{Reading, faulty, found, Entry, table_in}
use Rattle.meaning.specs.Bits.{to_bits, bits_of, room}
use Rattle.meaning.specs.Codecs.{Decoded, decoded, is_early, decoded_record, consumed}
use Rattle.meaning.specs.Words.{HashState, buffer_bits, ctx8_bits}
use Rattle.meaning.specs.Ladder.{refused, accepted, Rung, rung, ladder, Record, Stream, type_at, record_bits, rest_of, room_for, makes}
use Rattle.meaning.specs.TypeCalls as types
use Rattle.meaning.specs.RecordCalls as records
use Rattle.meaning.specs.CodecCalls as codecs
use Rattle.meaning.specs.CodecCalls.{reads}
use Rattle.meaning.specs.WordCalls as words
use Rattle.meaning.specs.CutCalls as cuts
use Rattle.meaning.proofs.Ladders.{ladder_pass, ladder_fails, ladder_parts, ladder_clear}
use Rattle.meaning.proofs.Refusals.{without, without_both, without_unanswered, answered_alone}
use Rattle.laws.proofs.CodecRoundTrips.{compact_read_write, padded_read_write}
use Rattle.laws.proofs.CodecExact.{decoded_test}
use Rattle.laws.proofs.RungOrder.{entries_filled, file_read}

-- The other rungs pass, and the output is shorter than n bits need.
pub record Short (rs : List Rung) (n : ℕ) (out : List ℕ) : Type 0 where
  pub others_pass : ladder rs (tt {0}) ≡ accepted (tt {0})
  pub too_short : length out < room n

pub makes_nine_wide : (rs : List Rung) (v : List Bool) (n : ℕ) (out : List ℕ) → without 9 rs ≡ true
    → (ladder rs (tt {0}) ≡ accepted (tt {0}) → length v ≡ n) → (makes rs v out ≡ refused 9 0) ↔ Short rs n out
makes_nine_wide rs v n out w wide =
    let a = answered_alone rs (ltb (length out) (room (length v))) 9 0 [] (length v) w refl in (
      λ e.
          let h = a.0 e in
          record {
            others_pass = h.0;
            too_short = subst (λ (k : ℕ). length out < room k) (wide h.0) (ltb-true (length out) (room (length v)) h.1);
          },
      λ s.
          let l = subst (λ (k : ℕ). length out < room k) (sym (wide s.others_pass)) s.too_short in
          a.1 (s.others_pass, lt-ltb (length out) (room (length v)) l),
    )

pub makes_nine : (rs : List Rung) (v : List Bool) (out : List ℕ) → without 9 rs ≡ true → (makes rs v out ≡ refused 9 0) ↔ Short rs (length v) out
makes_nine rs v out w = makes_nine_wide rs v (length v) out w (λ h. refl)

-- No output is shorter than no bits need.
pub nothing_never_nine : (rs : List Rung) (out : List ℕ) (p : ℕ) → without 9 rs ≡ true → makes rs [] out ≡ refused 9 p → ⊥
unfolding ladder
nothing_never_nine rs out p w e = without_unanswered rs 0 9 p w (sym (last_fails rs) ∙ e)
  where
    last_fails : (rs : List Rung) → makes rs [] out ≡ ladder rs 0
    last_fails [] = ladder_fails (ltb (length out) (room 0)) 9 0 [] 0 (le-ltb (length out) (room 0) zero-le)
    last_fails (rung true m q ∷ rs) = refl
    last_fails (rung false m q ∷ rs) = last_fails rs

-- The other rungs pass, the stream doesn't end early, and the output is shorter than n bits need.
pub record ShortRead (rs : List Rung) (d : Decoded) (n : ℕ) (out : List ℕ) : Type 0 where
  pub others_pass : ladder rs (tt {0}) ≡ accepted (tt {0})
  pub whole : is_early d ≡ false
  pub too_short : length out < room n

pub reads_nine : (rs : List Rung) (s : Stream) (d : Decoded) (n : ℕ) (out : List ℕ) → without 9 rs ≡ true
    → (d ≡ decoded (decoded_record d) (consumed d) → length (decoded_record d) ≡ n) → (reads rs s d out ≡ refused 9 0) ↔ ShortRead rs d n out
unfolding ladder
reads_nine rs s d n out w wide =
    let eight = rung (is_early d) 8 0 ∷ [] in
    let next = s.position + consumed d in
    let same = ap (λ (x : List Rung). ladder x next) (append_assoc rs eight (room_for (decoded_record d) out)) in
    let a = answered_alone (rs ++ eight) (ltb (length out) (room (length (decoded_record d)))) 9 0 [] next (without_both 9 rs eight w refl) refl in (
      λ e.
          let h = a.0 (same ∙ e) in
          let parts = ladder_parts rs eight (tt {0}) (tt {0}) (tt {0}) h.0 in
          let read = (ladder_clear (is_early d) 8 0 [] (tt {0}) (tt {0}) parts.1).0 in
          let l = ltb-true (length out) (room (length (decoded_record d))) h.1 in
          record {
            others_pass = parts.0;
            whole = read;
            too_short = subst (λ (k : ℕ). length out < room k) (wide ((decoded_test d).0 read)) l;
          },
      λ f.
          let l = subst (λ (k : ℕ). length out < room k) (sym (wide ((decoded_test d).0 f.whole))) f.too_short in
          sym same
          ∙ a.1 (
            ladder_pass rs eight (tt {0}) (tt {0}) (tt {0}) f.others_pass ∙ ladder_fails (is_early d) 8 0 [] (tt {0}) f.whole,
            lt-ltb (length out) (room (length (decoded_record d))) l,
          ),
    )

pub fill_facts_nine : (c : Columns) (n : ℕ) (gs : List ℕ)
    → (types.fill_facts_call c n gs ≡ refused 9 0)
    ↔ ((ladder (entries_filled c n) (tt {0}) ≡ accepted (tt {0})) × (length gs < group_size * n))
fill_facts_nine c n gs =
    let a = answered_alone (entries_filled c n) (not (groups_reach gs n)) 9 0 [] (tt {0}) refl refl in (
      λ e. ((a.0 e).0, leb-false (group_size * n) (length gs) (not-true (groups_reach gs n) (a.0 e).1)),
      λ s. a.1 (s.0, ap not (lt-leb (group_size * n) (length gs) s.1)),
    )

pub read_table_nine : (file : List ℕ) (c : Columns) (gs : List ℕ)
    → (types.read_table_call file c gs ≡ refused 9 0)
    ↔ ((ladder (file_read (table_in file)) (tt {0}) ≡ accepted (tt {0}))
    × ((columns_reach c (length (types.entries_in (table_in file))) && groups_reach gs (length (types.entries_in (table_in file)))) ≡ false))
read_table_nine file c gs =
    let n = length (types.entries_in (table_in file)) in
    let a = answered_alone (file_read (table_in file)) (not (columns_reach c n && groups_reach gs n)) 9 0 [] n (go (table_in file)) refl in
    (λ e. ((a.0 e).0, not-true (columns_reach c n && groups_reach gs n) (a.0 e).1), λ s. a.1 (s.0, ap not s.1))
  where
    go : (r : Reading (List Entry)) → without 9 (file_read r) ≡ true
    go (faulty p) = refl
    go (found es at) = refl

module _ (t : Table) where
  pub unit_never_nine : (result : ℕ) (out : List ℕ) (p : ℕ) → records.unit_call t result out ≡ refused 9 p → ⊥
  unit_never_nine result out p = nothing_never_nine (records.unit_rungs t result) out p refl

  pub zero_nine : (result : ℕ) (out : List ℕ)
      → (records.zero_call t result out ≡ refused 9 0) ↔ Short (records.zero_rungs t result) (bits (type_at t result)) out
  zero_nine result out = makes_nine_wide _ (records.zero_bits t result) _ _ refl (λ h. length-replicate (bits (type_at t result)) false)

  pub left_nine : (p : Record) (result : ℕ) (out : List ℕ)
      → (records.left_call t p result out ≡ refused 9 0) ↔ Short (records.left_rungs t p result) (length (records.left_bits t p result)) out
  left_nine p result out = makes_nine _ (records.left_bits t p result) _ refl

  pub right_nine : (p : Record) (result : ℕ) (out : List ℕ)
      → (records.right_call t p result out ≡ refused 9 0) ↔ Short (records.right_rungs t p result) (length (records.right_bits t p result)) out
  right_nine p result out = makes_nine _ (records.right_bits t p result) _ refl

  pub none_nine : (result : ℕ) (out : List ℕ)
      → (records.none_call t result out ≡ refused 9 0) ↔ Short (records.none_rungs t result) (length (records.none_bits t result)) out
  none_nine result out = makes_nine _ (records.none_bits t result) _ refl

  pub some_nine : (p : Record) (result : ℕ) (out : List ℕ)
      → (records.some_call t p result out ≡ refused 9 0) ↔ Short (records.some_rungs t p result) (length (records.some_bits t p result)) out
  some_nine p result out = makes_nine _ (records.some_bits t p result) _ refl

  pub product_nine : (a b : Record) (result : ℕ) (out : List ℕ)
      → (records.product_call t a b result out ≡ refused 9 0) ↔ Short (records.product_rungs t a b result) (length (records.product_bits t a b)) out
  product_nine a b result out = makes_nine _ (records.product_bits t a b) _ refl

  pub number_nine : (n x result : ℕ) (out : List ℕ)
      → (words.number_call t n x result out ≡ refused 9 0) ↔ Short (words.number_rungs t n x result) (length (to_bits (2 ^ n) x)) out
  number_nine n x result out = makes_nine _ (to_bits (2 ^ n) x) _ refl

  pub bytes_nine : (n : ℕ) (given : List ℕ) (result : ℕ) (out : List ℕ)
      → (words.bytes_call t n given result out ≡ refused 9 0) ↔ Short (words.bytes_rungs t n given result) (length (bits_of given)) out
  bytes_nine n given result out = makes_nine _ (bits_of given) _ refl

  pub array_nine : (given : List ℕ) (result : ℕ) (out : List ℕ)
      → (words.array_call t given result out ≡ refused 9 0) ↔ Short (words.array_rungs t given result) (length (bits_of given)) out
  array_nine given result out = makes_nine _ (bits_of given) _ refl

  pub join_nine : (a b : Record) (result : ℕ) (out : List ℕ)
      → (words.join_call t a b result out ≡ refused 9 0) ↔ Short (words.join_rungs t a b result) (length (records.product_bits t a b)) out
  join_nine a b result out = makes_nine _ (records.product_bits t a b) _ refl

  pub buffer_nine : (n : ℕ) (held : List ℕ) (result : ℕ) (out : List ℕ)
      → (words.buffer_call t n held result out ≡ refused 9 0) ↔ Short (words.buffer_rungs t n held result) (length (buffer_bits n held)) out
  buffer_nine n held result out = makes_nine _ (buffer_bits n held) _ refl

  pub ctx8_nine : (s : HashState) (result : ℕ) (out : List ℕ)
      → (words.ctx8_call t s result out ≡ refused 9 0) ↔ Short (words.ctx8_rungs t s result) (length (ctx8_bits s)) out
  ctx8_nine s result out = makes_nine _ (ctx8_bits s) _ refl

  pub from_range_nine : (result : ℕ) (in_range right : Bool) (v : List Bool) (out : List ℕ)
      → (makes (words.from_range t result in_range right) v out ≡ refused 9 0) ↔ Short (words.from_range t result in_range right) (length v) out
  from_range_nine result in_range right v out = makes_nine _ v _ refl

  pub to_compact_nine : (r : Record) (out : List ℕ)
      → (codecs.to_compact_call t r out ≡ refused 9 0) ↔ Short (codecs.write_rungs t r) (length (codecs.compact_bits t r)) out
  to_compact_nine r out = makes_nine _ (codecs.compact_bits t r) _ refl

  pub to_padded_nine : (r : Record) (out : List ℕ) → (codecs.to_padded_call t r out ≡ refused 9 0) ↔ Short (codecs.write_rungs t r) (length (record_bits t r)) out
  to_padded_nine r out = makes_nine _ (record_bits t r) _ refl

  pub prune_nine : (r : Record) (target : ℕ) (out : List ℕ)
      → (cuts.prune_call t r target out ≡ refused 9 0) ↔ Short (cuts.prune_rungs t r target) (length (cuts.cut_bits (cuts.cut_of t r target))) out
  prune_nine r target out = makes_nine _ (cuts.cut_bits (cuts.cut_of t r target)) _ refl

  pub from_compact_nine : (s : Stream) (node : ℕ) (out : List ℕ)
      → (codecs.from_compact_call t s node out ≡ refused 9 0)
      ↔ ShortRead (codecs.read_rungs t s node) (codecs.compact_in t s node) (bits (type_at t node)) out
  from_compact_nine s node out =
      reads_nine (codecs.read_rungs t s node) s (codecs.compact_in t s node) (bits (type_at t node)) out refl
      (λ e. (compact_read_write (type_at t node) (rest_of s) _ _ e).as_wide)

  pub from_padded_nine : (s : Stream) (node : ℕ) (out : List ℕ)
      → (codecs.from_padded_call t s node out ≡ refused 9 0)
      ↔ ShortRead (codecs.read_rungs t s node) (codecs.padded_in t s node) (bits (type_at t node)) out
  from_padded_nine s node out =
      reads_nine (codecs.read_rungs t s node) s (codecs.padded_in t s node) (bits (type_at t node)) out refl
      (λ e. (padded_read_write (type_at t node) (rest_of s) _ _ e).as_wide)

  pub word_read_nine : (s : Stream) (n node : ℕ) (out : List ℕ)
      → (words.word_read_call t s n node out ≡ refused 9 0)
      ↔ ShortRead (words.word_read_rungs t s n node) (codecs.padded_in t s node) (bits (type_at t node)) out
  word_read_nine s n node out =
      reads_nine (words.word_read_rungs t s n node) s (codecs.padded_in t s node) (bits (type_at t node)) out refl
      (λ e. (padded_read_write (type_at t node) (rest_of s) _ _ e).as_wide)
