-- The halves of a join, seen by `as_product`, are the two words.
--
--   places                      an answer of `as_product`
--   Halves join_halves          where the two words of `word_product` are seen, their types and their bits
-- Assumes nothing.
use Prim.Native.Nat.{ℕ, ◌+◌, ◌*◌, ◌≤◌}
use mathlib.Core.Path.{◌≡◌, sym, ap, ap₂, ◌∙◌}
use mathlib.Core.Bool.{true}
use mathlib.Core.List.{List, [], ◌∷◌, ◌++◌}
use native.Mathlib.Omega.{arith}
use lib.ListN.{length, take, drop, length-append}
use lib.Seq.{take_at, drop_at}
use Rattle.meaning.specs.Types.{prod, bits, top}
use Rattle.meaning.specs.Tables.{Table, left, right}
use Rattle.meaning.specs.Words.{joins}
use Rattle.meaning.specs.Ladder.{accepted, Rung, ladder, Record, record_of, type_at, type_of, record_bits}
use Rattle.meaning.specs.RecordCalls.{handed, as_product_call, Spots, product_bits}
use Rattle.meaning.specs.WordCalls.{join_call, join_out, join_rungs}
use Rattle.meaning.proofs.Records.{bits_prod}
use Rattle.checked.specs.Passed.{Named}
use Rattle.checked.proofs.Passed.{handed_passed}
use Rattle.checked.proofs.Made.{Accepted, accepts, made_length, made_record}
use Rattle.checked.proofs.Shaped.{shape_accepted}
use Rattle.checked.proofs.SideTypes.{prod_sides}
use Rattle.bits.proofs.Lent.{record_length}
use Rattle.words_laws.proofs.Joins.{join_types}
use Rattle.words_laws.proofs.Views.{product_seen, left-bits, right-bits}

-- The answer of `as_product`: two places.
abbrev pub places : ℕ → ℕ → ℕ → ℕ → Spots
places o n p m = record { first = record { offset = o; node = n }; second = record { offset = p; node = m } }

-- Two records seen in a third: where they are, their types and their bits.
pub record Halves (t : Table) (a b : Record) (result : ℕ) (new : List ℕ) : Type 0 where
  pub seen : as_product_call t (record_of new 0 result)
      ≡ accepted (places 0 (left t.columns result) (0 + bits (type_of t a)) (right t.columns result))
  pub first_type : type_at t (left t.columns result) ≡ type_of t a
  pub second_type : type_at t (right t.columns result) ≡ type_of t b
  pub first_bits : record_bits t (record_of new 0 (left t.columns result)) ≡ record_bits t a
  pub second_bits : record_bits t (record_of new (0 + bits (type_of t a)) (right t.columns result)) ≡ record_bits t b

pub join_halves : (t : Table) (a b : Record) (result : ℕ) (out : List ℕ) (w : ℕ) → join_call t a b result out ≡ accepted w
    → Halves t a b result (join_out t a b result out)
join_halves t a b result out w h =
    record {
      seen = product_seen t result whole (type_of t a) (type_of t b) type (join_out t a b result out) 0 ends low;
      first_type = (prod_sides t result whole (type_of t a) (type_of t b) type).0;
      second_type = (prod_sides t result whole (type_of t a) (type_of t b) type).1;
      first_bits =
          left-bits t result whole (type_of t a) (type_of t b) type (join_out t a b result out) 0 ends low
          ∙ ap (take (bits (type_of t a))) record_is
          ∙ take_at (record_bits t a) (record_bits t b) (bits (type_of t a)) length_a;
      second_bits =
          right-bits t result whole (type_of t a) (type_of t b) type (join_out t a b result out) 0 ends low
          ∙ ap (drop (bits (type_of t a))) record_is
          ∙ drop_at (record_bits t a) (record_bits t b) (bits (type_of t a)) length_a;
    }
  where
    first : List Rung
    first = handed t (a ∷ b ∷ []) (result ∷ [])

    did : Accepted (join_rungs t a b result) (product_bits t a b) out w
    did = accepts (join_rungs t a b result) (product_bits t a b) out w h

    passed : (ladder first (tt {0}) ≡ accepted (tt {0})) × (joins (type_of t a) (type_of t b) (type_at t result) ≡ true)
    passed = shape_accepted first (joins (type_of t a) (type_of t b) (type_at t result)) did.clear

    whole : Named t result
    whole = (handed_passed t (a ∷ b ∷ []) (result ∷ []) passed.0).1.0

    type : type_at t result ≡ prod (type_of t a) (type_of t b)
    type = (join_types (type_of t a) (type_of t b) (type_at t result) passed.1).1

    length_a : length (record_bits t a) ≡ bits (type_of t a)
    length_a = record_length t a (handed_passed t (a ∷ b ∷ []) (result ∷ []) passed.0).0.0.ends

    length_b : length (record_bits t b) ≡ bits (type_of t b)
    length_b = record_length t b (handed_passed t (a ∷ b ∷ []) (result ∷ []) passed.0).0.1.0.ends

    wide : bits (type_at t result) ≡ length (product_bits t a b)
    wide =
        ap bits type ∙ bits_prod (type_of t a) (type_of t b) ∙ sym (length-append (record_bits t a) (record_bits t b) ∙ ap₂ ◌+◌ length_a length_b)

    ends : 0 + bits (type_at t result) ≤ 8 * length (join_out t a b result out)
    ends =
        let l = made_length (join_rungs t a b result) (product_bits t a b) out w h in
        let e = wide in
        let r = did.roomy in
        omega arith

    low : 0 + bits (type_at t result) ≤ top
    low = let n = whole.narrow in omega arith

    record_is : record_bits t (record_of (join_out t a b result out) 0 result) ≡ record_bits t a ++ record_bits t b
    record_is = made_record t result (join_rungs t a b result) (product_bits t a b) out w h wide
