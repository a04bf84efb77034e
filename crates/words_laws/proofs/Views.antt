-- A product in an output, as `as_product` sees it: its parts lie one after the other, and their bits are those of the parts.
--
--   product_seen                the answer of `as_product`
--   left-bits right-bits        the own bits of the two views
-- Assumes nothing.
use Prim.Native.Nat.{ℕ, ◌+◌, ◌*◌, ◌-◌, ◌≤◌}
use mathlib.Core.Path.{◌≡◌, sym, ap, ◌∙◌}
use mathlib.Core.Bool.{not}
use mathlib.Core.List.{List, [], ◌∷◌, ◌++◌}
use native.Mathlib.Omega.{arith}
use lib.Dec.{ltb}
use lib.ListN.{length, take, drop}
use borrow.Author.Tests.{le-ltb}
use Rattle.meaning.specs.Types.{Ty, prod, bits, top, is_prod, left_side}
use Rattle.meaning.specs.Tables.{Table, left, right}
use Rattle.meaning.specs.Bits.{bits_of}
use Rattle.meaning.specs.Records.{first_of, second_of}
use Rattle.meaning.specs.Ladder.{accepted, Rung, ladder, Record, record_of, type_at, record_bits, shaped}
use Rattle.meaning.specs.RecordCalls.{handed, addressed, as_product_call, Spots}
use Rattle.meaning.proofs.Ladders.{ladder_pass, ladder_fails}
use Rattle.meaning.proofs.Records.{bits_prod}
use Rattle.bits.proofs.Runs.{take_run, drop_run}
use Rattle.checked.specs.Passed.{Named}
use Rattle.checked.proofs.Passes.{held_passes}
use Rattle.checked.proofs.SideTypes.{prod_sides}

module _ (t : Table) (n : ℕ) (a : Named t n) (x y : Ty) (e : type_at t n ≡ prod x y) where
  whole : bits (type_at t n) ≡ bits x + bits y
  whole = ap bits e ∙ bits_prod x y

  -- The record lies within its bytes, at an offset that leaves room for its views' offsets.
  module _ (bytes : List ℕ) (o : ℕ) (ends : o + bits (type_at t n) ≤ 8 * length bytes) (low : o + bits (type_at t n) ≤ top) where
    pub product_seen : as_product_call t (record_of bytes o n)
        ≡ accepted
        (record {
          first = record { offset = o; node = left t.columns n };
          second = record { offset = o + bits x; node = right t.columns n };
        })
    unfolding ladder
    product_seen =
        let r : Record = record_of bytes o n in
        let v : Spots =
        record {
          first = record { offset = o; node = left t.columns n };
          second = record { offset = o + bits (left_side (type_at t n)); node = right t.columns n };
        } in
        let last : List Rung = shaped (is_prod (type_at t n)) in
        ladder_pass (handed t (r ∷ []) []) (addressed t r ++ last) (tt {0}) (tt {0}) v (held_passes t r (record { named = a; ends = ends }))
        ∙ ladder_fails (ltb top (o + bits (type_at t n))) 5 0 last v (le-ltb top (o + bits (type_at t n)) low)
        ∙ ladder_fails (not (is_prod (type_at t n))) 7 0 [] v (ap (λ (z : Ty). not (is_prod z)) e)
        ∙ ap
        (λ (z : Ty).
        accepted
        (record {
          first = record { offset = o; node = left t.columns n };
          second = record { offset = o + bits (left_side z); node = right t.columns n };
        }))
        e

    pub left-bits : record_bits t (record_of bytes o (left t.columns n)) ≡ first_of x (record_bits t (record_of bytes o n))
    unfolding record_bits
    left-bits =
        let w = whole in
        ap (λ (z : Ty). take (bits z) (drop o (bits_of bytes))) (prod_sides t n a x y e).0
        ∙ sym (take_run (bits_of bytes) o (bits (type_at t n)) (bits x) (omega arith))

    pub right-bits : record_bits t (record_of bytes (o + bits x) (right t.columns n)) ≡ second_of x (record_bits t (record_of bytes o n))
    unfolding record_bits
    right-bits =
        let w = whole in
        let left_over : bits (type_at t n) - bits x ≡ bits y = omega arith in
        ap (λ (z : Ty). take (bits z) (drop (o + bits x) (bits_of bytes))) (prod_sides t n a x y e).1
        ∙ ap (λ (k : ℕ). take k (drop (o + bits x) (bits_of bytes))) (sym left_over)
        ∙ sym (drop_run (bits_of bytes) o (bits (type_at t n)) (bits x))
