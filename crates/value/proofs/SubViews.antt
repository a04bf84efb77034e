-- Views move offset and node only: what they show is a record of the same bytes, of the side's type, and its bits are the payload, or the
-- part, of the whole record. So views can be taken of views.
--
--   shown                       the record at a place in the bytes of another
--   Shows                       it lies within them, is of this type, and has these bits
--   ShowsBoth                   two places in a record's bytes hold the parts of a product
--   payload_shows parts_show    the place of a sum's payload shows it, over the tag; those of a product's parts show them
--   left_view right_view        so does an accepted `as_left`, and an accepted `as_right`
--   product_view                and an accepted `as_product`
-- Assumes nothing.
use Prim.Native.Nat.{ℕ, ◌+◌, ◌-◌, ◌≤◌}
use mathlib.Core.Path.{◌≡◌, sym, ap, ◌∙◌, subst}
use mathlib.Core.Bool.{Bool, true, false, not, ◌&&◌}
use mathlib.Core.List.{List, [], ◌∷◌, ◌++◌}
use native.Mathlib.Omega.{arith}
use lib.Dec.{ltb}
use lib.ListN.{take, drop}
use borrow.Author.Tests.{not-false}
use Rattle.meaning.specs.Types.{Ty, bits, top, is_sum, is_prod, left_side, right_side}
use Rattle.meaning.specs.Tables.{Table, left, right}
use Rattle.meaning.specs.Bits.{bits_of}
use Rattle.meaning.specs.Records.{tag, left_of, right_of, first_of, second_of}
use Rattle.meaning.specs.Ladder.{accepted, ladder, Record, record_of, type_at, type_of, record_bits, shaped}
use Rattle.meaning.specs.RecordCalls.{Spot, Spots, handed, as_left_call, as_right_call, as_product_call}
use Rattle.meaning.proofs.Ladders.{ladder_parts, ladder_clear}
use Rattle.meaning.proofs.Tests.{and_left}
use Rattle.meaning.proofs.Records.{bits_prod}
use Rattle.checked.specs.Passed.{Held}
use Rattle.checked.proofs.Passed.{handed_passed}
use Rattle.bits.proofs.Runs.{take_run, drop_run}
use Rattle.checked.specs.Sides.{side_node, side_type, padding, says}
use Rattle.value_views.specs.Views.{payload_spot, payload_rungs, parts_spots, parts_rungs}
use Rattle.checked.proofs.Nodes.{before_payload}
use Rattle.checked.proofs.SideTypes.{sum_tree, prod_tree, prod_named, side_type_is, side_named}

-- The record at a place in the bytes of another.
abbrev pub shown : Record → Spot → Record
shown r s = record_of r.bytes s.offset s.node

-- It lies within its bytes, is of this type, and has these bits.
pub record Shows (t : Table) (r : Record) (s : Spot) (x : Ty) (v : List Bool) : Type 0 where
  pub held : Held t (shown r s)
  pub type_is : type_at t s.node ≡ x
  pub bits_are : record_bits t (shown r s) ≡ v

-- ---- The payload of a sum, over the tag

module _ (t : Table) (r : Record) (f : Held t r) (e : is_sum (type_of t r) ≡ true) (g : Bool) where
  -- The payload is what is left of the whole.
  payload_width : bits (type_of t r) ≡ 1 + padding g (type_of t r) + bits (type_at t (side_node g t.columns r.node))
  payload_width =
      let x = sum_tree t r.node f.named e in
      let y : bits (type_at t (side_node g t.columns r.node)) ≡ bits (side_type g (type_of t r)) =
      ap bits (side_type_is t r.node f.named e g) in
      omega (
        arith,
        before_payload g (type_of t r) (type_at t (left t.columns r.node)) (type_at t (right t.columns r.node)) x,
      )

  pub payload_shows : Shows t r (payload_spot g t r) (side_type g (type_of t r)) (drop (1 + padding g (type_of t r)) (record_bits t r))
  unfolding record_bits
  payload_shows =
      let k = 1 + padding g (type_of t r) in
      let w : bits (type_at t (side_node g t.columns r.node)) ≡ bits (type_of t r) - k = omega (arith, payload_width) in
      record {
        held = record { named = side_named t r.node f.named e g; ends = omega (arith, payload_width, f.ends) };
        type_is = side_type_is t r.node f.named e g;
        bits_are =
            ap (λ (n : ℕ). take n (drop (r.offset + k) (bits_of r.bytes))) w
            ∙ sym (drop_run (bits_of r.bytes) r.offset (bits (type_of t r)) k);
      }

-- A view that was accepted has passed every rung, and its place is the payload's.
payload_view : (g : Bool) (t : Table) (r : Record) (s : Spot)
    → ladder (handed t (r ∷ []) [] ++ payload_rungs g t r) (payload_spot g t r) ≡ accepted s
    → Shows t r s (side_type g (type_of t r)) (drop (1 + padding g (type_of t r)) (record_bits t r))
unfolding ladder
payload_view g t r s h =
    let x = payload_spot g t r in
    let fits = is_sum (type_of t r) && says g (tag (record_bits t r)) in
    let p = ladder_parts (handed t (r ∷ []) []) (payload_rungs g t r) (tt {0}) x s h in
    let q = ladder_clear (ltb top (r.offset + bits (type_of t r))) 5 0 (shaped fits) x s p.1 in
    let z = ladder_clear (not fits) 7 0 [] x s q.1 in
    let place : accepted x ≡ accepted s = z.1 in
    let same_place : x ≡ s = cc in
    subst (λ (y : Spot). Shows t r y (side_type g (type_of t r)) (drop (1 + padding g (type_of t r)) (record_bits t r))) same_place
    (payload_shows t r (handed_passed t (r ∷ []) [] p.0).0.0
    (and_left (is_sum (type_of t r)) (says g (tag (record_bits t r))) (not-false fits z.0)) g)

pub left_view : (t : Table) (r : Record) (s : Spot) → as_left_call t r ≡ accepted s
    → Shows t r s (left_side (type_of t r)) (left_of (left_side (type_of t r)) (right_side (type_of t r)) (record_bits t r))
left_view = payload_view false

pub right_view : (t : Table) (r : Record) (s : Spot) → as_right_call t r ≡ accepted s
    → Shows t r s (right_side (type_of t r)) (right_of (left_side (type_of t r)) (right_side (type_of t r)) (record_bits t r))
right_view = payload_view true

-- ---- The parts of a product

-- Two places in a record's bytes hold the parts of a product.
pub record ShowsBoth (t : Table) (r : Record) (s : Spots) : Type 0 where
  pub left_part : Shows t r s.first (left_side (type_of t r)) (first_of (left_side (type_of t r)) (record_bits t r))
  pub right_part : Shows t r s.second (right_side (type_of t r)) (second_of (left_side (type_of t r)) (record_bits t r))

pub parts_show : (t : Table) (r : Record) → Held t r → is_prod (type_of t r) ≡ true → ShowsBoth t r (parts_spots t r)
unfolding record_bits
parts_show t r f e =
    let a = type_at t (left t.columns r.node) in
    let b = type_at t (right t.columns r.node) in
    let x = prod_tree t r.node f.named e in
    let w : bits (type_of t r) ≡ bits a + bits b = ap bits x ∙ bits_prod a b in
    let l : bits (left_side (type_of t r)) ≡ bits a = ap (λ (y : Ty). bits (left_side y)) x in
    let m : bits b ≡ bits (type_of t r) - bits (left_side (type_of t r)) = omega arith in
    let both = prod_named t r.node f.named e in
    let short : bits (left_side (type_of t r)) ≤ bits (type_of t r) = omega arith in
    record {
      left_part =
          record {
            held = record { named = both.0; ends = omega (arith, f.ends) };
            type_is = sym (ap left_side x);
            bits_are =
                ap (λ (n : ℕ). take n (drop r.offset (bits_of r.bytes))) (sym l)
                ∙ sym (take_run (bits_of r.bytes) r.offset (bits (type_of t r)) (bits (left_side (type_of t r))) short);
          };
      right_part =
          record {
            held = record { named = both.1; ends = omega (arith, f.ends) };
            type_is = sym (ap right_side x);
            bits_are =
                ap (λ (n : ℕ). take n (drop (r.offset + bits (left_side (type_of t r))) (bits_of r.bytes))) m
                ∙ sym (drop_run (bits_of r.bytes) r.offset (bits (type_of t r)) (bits (left_side (type_of t r))));
          };
    }

pub product_view : (t : Table) (r : Record) (s : Spots) → as_product_call t r ≡ accepted s → ShowsBoth t r s
unfolding ladder
product_view t r s h =
    let x = parts_spots t r in
    let p = ladder_parts (handed t (r ∷ []) []) (parts_rungs t r) (tt {0}) x s h in
    let q = ladder_clear (ltb top (r.offset + bits (type_of t r))) 5 0 (shaped (is_prod (type_of t r))) x s p.1 in
    let z = ladder_clear (not (is_prod (type_of t r))) 7 0 [] x s q.1 in
    let place : accepted x ≡ accepted s = z.1 in
    let same_place : x ≡ s = cc in
    subst (λ (y : Spots). ShowsBoth t r y) same_place (parts_show t r (handed_passed t (r ∷ []) [] p.0).0.0 (not-false (is_prod (type_of t r)) z.0))
