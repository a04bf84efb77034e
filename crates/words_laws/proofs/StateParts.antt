-- The parts of a hash state, seen by views, are what was given.
--
--   StateParts state_parts      the buffer, the count and the midstate of `ctx8`, seen by `as_product` of the record and of its right part
--   Proper                      what a hash state's types promise: bytes, a 64-bit count, at most 63 bytes that are used
--   SameParts                   two hash states hold the same data, count and midstate
--   state_injective             so no two hash states share a record: the bits tell the data held, the count and the midstate
-- Assumes nothing.
use Prim.Native.Nat.{ℕ, ◌+◌, ◌*◌, ◌^◌, ◌≤◌, ◌<◌}
use mathlib.Core.Path.{◌≡◌, sym, ap, ap₂, ◌∙◌}
use mathlib.Core.Bool.{Bool, true}
use mathlib.Core.List.{List, [], ◌∷◌}
use native.Mathlib.Omega.{arith}
use lib.Dec.{leb}
use lib.ListN.{length, take, drop, length-take}
use lib.Seq.{drop-drop}
use Rattle.meaning.specs.Types.{prod, same, bits, top, is_prod}
use Rattle.meaning.specs.Tables.{Table, left, right}
use Rattle.meaning.specs.Bits.{to_bits, bits_of}
use Rattle.meaning.specs.Words.{word, buffer, buffer_bits, ctx8, HashState, ctx8_bits}
use Rattle.meaning.specs.Ladder.{accepted, ladder, record_of, type_at, record_bits, named}
use Rattle.meaning.specs.RecordCalls.{as_product_call}
use Rattle.meaning.specs.WordCalls.{ctx8_call, ctx8_out, ctx8_rungs}
use Rattle.meaning.specs.Checked.{Bytes}
use Rattle.meaning.proofs.Types.{same_eq}
use Rattle.meaning.proofs.Records.{bits_prod}
use Rattle.meaning.proofs.Words.{bits_word}
use Rattle.meaning.proofs.Buffers.{buffer_five, bits_ctx8}
use Rattle.bits.proofs.Numbers.{to_bits_injective}
use Rattle.bits.proofs.OfBytes.{bits_of_injective, bytes_take}
use Rattle.checked.specs.Passed.{Named}
use Rattle.checked.proofs.Passed.{named_passed}
use Rattle.checked.proofs.Made.{Accepted, accepts, made_length, made_record}
use Rattle.checked.proofs.Shaped.{range_accepted}
use Rattle.checked.proofs.SideTypes.{prod_sides, prod_named}
use Rattle.words_laws.proofs.Distinct.{buffer_injective}
use Rattle.words_laws.proofs.Halves.{places}
use Rattle.words_laws.proofs.Hashed.{length_state, state_buffer, state_count, state_midstate}
use Rattle.words_laws.proofs.Views.{product_seen, left-bits, right-bits}

-- The three parts of a hash state in an output: the views that lead to them, and their bits.
pub record StateParts (t : Table) (s : HashState) (result : ℕ) (new : List ℕ) : Type 0 where
  pub outer : as_product_call t (record_of new 0 result) ≡ accepted (places 0 (left t.columns result) 510 (right t.columns result))
  pub inner : as_product_call t (record_of new 510 (right t.columns result))
      ≡ accepted (places 510 (left t.columns (right t.columns result)) 574 (right t.columns (right t.columns result)))
  pub held : record_bits t (record_of new 0 (left t.columns result)) ≡ buffer_bits 5 (take s.used s.buffered)
  pub count : record_bits t (record_of new 510 (left t.columns (right t.columns result))) ≡ to_bits 64 s.counted
  pub middle : record_bits t (record_of new 574 (right t.columns (right t.columns result))) ≡ bits_of s.midstate

module _ (t : Table) (s : HashState) (full : length s.midstate ≡ 32) (result : ℕ) (out : List ℕ) (w : ℕ)
    (h : ctx8_call t s result out ≡ accepted w) where
  abbrev new : List ℕ
  new = ctx8_out t s result out

  -- The node of the count and the midstate.
  abbrev rest : ℕ
  rest = right t.columns result

  did : Accepted (ctx8_rungs t s result) (ctx8_bits s) out w
  did = accepts (ctx8_rungs t s result) (ctx8_bits s) out w h

  passed : (ladder (named t (result ∷ [])) (tt {0}) ≡ accepted (tt {0})) × (leb s.used 63 ≡ true) × (same (type_at t result) ctx8 ≡ true)
  passed = range_accepted (named t (result ∷ [])) (leb s.used 63) (same (type_at t result) ctx8) did.clear

  whole : Named t result
  whole = (named_passed t (result ∷ []) passed.0).1.0

  is_state : type_at t result ≡ ctx8
  is_state = same_eq (type_at t result) ctx8 passed.2

  type : type_at t result ≡ prod (buffer 5) (prod (word 6) (word 8))
  unfolding ctx8
  type = is_state

  wide : bits (type_at t result) ≡ 830
  wide = ap bits is_state ∙ bits_ctx8

  room_there : 104 ≤ length new
  room_there =
      let l = made_length (ctx8_rungs t s result) (ctx8_bits s) out w h in
      let e = length_state s full in
      let r = did.roomy in
      omega arith

  ends : 0 + bits (type_at t result) ≤ 8 * length new
  ends = let e = wide in let r = room_there in omega arith

  low : 0 + bits (type_at t result) ≤ top
  low = let e = wide in omega arith

  record_is : record_bits t (record_of new 0 result) ≡ ctx8_bits s
  record_is = made_record t result (ctx8_rungs t s result) (ctx8_bits s) out w h (wide ∙ sym (length_state s full))

  -- The right part: its type, its width and its bits.
  rest_whole : Named t rest
  rest_whole = (prod_named t result whole (ap is_prod type)).1

  rest_type : type_at t rest ≡ prod (word 6) (word 8)
  rest_type = (prod_sides t result whole (buffer 5) (prod (word 6) (word 8)) type).1

  rest_wide : bits (type_at t rest) ≡ 320
  rest_wide = ap bits rest_type ∙ bits_prod (word 6) (word 8) ∙ ap₂ ◌+◌ (bits_word 6) (bits_word 8)

  rest_ends : 510 + bits (type_at t rest) ≤ 8 * length new
  rest_ends = let e = rest_wide in let r = room_there in omega arith

  rest_low : 510 + bits (type_at t rest) ≤ top
  rest_low = let e = rest_wide in omega arith

  rest_is : record_bits t (record_of new 510 rest) ≡ drop 510 (ctx8_bits s)
  rest_is =
      ap (λ (k : ℕ). record_bits t (record_of new (0 + k) rest)) (sym buffer_five)
      ∙ right-bits t result whole (buffer 5) (prod (word 6) (word 8)) type new 0 ends low
      ∙ ap₂ drop buffer_five record_is

  pub state_parts : StateParts t s result new
  state_parts =
      record {
        outer =
            product_seen t result whole (buffer 5) (prod (word 6) (word 8)) type new 0 ends low
            ∙ ap (λ (k : ℕ). accepted (places 0 (left t.columns result) (0 + k) rest)) buffer_five;
        inner =
            product_seen t rest rest_whole (word 6) (word 8) rest_type new 510 rest_ends rest_low
            ∙ ap (λ (k : ℕ). accepted (places 510 (left t.columns rest) (510 + k) (right t.columns rest))) (bits_word 6);
        held =
            left-bits t result whole (buffer 5) (prod (word 6) (word 8)) type new 0 ends low
            ∙ ap₂ take buffer_five record_is
            ∙ state_buffer s;
        count =
            left-bits t rest rest_whole (word 6) (word 8) rest_type new 510 rest_ends rest_low
            ∙ ap₂ take (bits_word 6) rest_is
            ∙ state_count s;
        middle =
            ap (λ (k : ℕ). record_bits t (record_of new (510 + k) (right t.columns rest))) (sym (bits_word 6))
            ∙ right-bits t rest rest_whole (word 6) (word 8) rest_type new 510 rest_ends rest_low
            ∙ ap₂ drop (bits_word 6) rest_is
            ∙ drop-drop 64 510 (ctx8_bits s)
            ∙ state_midstate s;
      }

-- What a hash state's types promise: bytes, a 64-bit count, and at most 63 bytes that are used.
pub record Proper (s : HashState) : Type 0 where
  pub few : s.used ≤ 63
  pub counts : s.counted < 2 ^ 64
  pub buffered_bytes : Bytes s.buffered
  pub midstate_bytes : Bytes s.midstate

-- Two states hold the same.
pub record SameParts (s r : HashState) : Type 0 where
  pub held : take s.used s.buffered ≡ take r.used r.buffered
  pub count : s.counted ≡ r.counted
  pub middle : s.midstate ≡ r.midstate

pub state_injective : (s r : HashState) → Proper s → Proper r → ctx8_bits s ≡ ctx8_bits r → SameParts s r
state_injective s r p q e =
    record {
      held =
          buffer_injective 5 (take s.used s.buffered) (take r.used r.buffered) (limited s p) (limited r q)
          (bytes_take s.used s.buffered p.buffered_bytes)
          (bytes_take r.used r.buffered q.buffered_bytes)
          (sym (state_buffer s) ∙ ap (take 510) e ∙ state_buffer r);
      count =
          to_bits_injective 64 s.counted r.counted p.counts q.counts
          (sym (state_count s) ∙ ap (λ (v : List Bool). take 64 (drop 510 v)) e ∙ state_count r);
      middle =
          bits_of_injective s.midstate r.midstate p.midstate_bytes q.midstate_bytes
          (sym (state_midstate s) ∙ ap (drop 574) e ∙ state_midstate r);
    }
  where
    limited : (z : HashState) → Proper z → length (take z.used z.buffered) < 2 ^ (5 + 1)
    limited z y = let f = y.few in let l = length-take z.used z.buffered in omega arith
