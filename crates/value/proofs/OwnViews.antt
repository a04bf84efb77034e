-- The views read the own bits of a record alone: records that agree (`Agree`: one node, both past their bytes or neither, the same own bits),
-- and whose offset plus width is a 64-bit number of both or of neither (`far`), are seen alike, wherever they lie and whatever surrounds them.
--
--   told                        an answer with its value told in another way
--   from from_both              the answer of a view, and of `as_product`: each offset counted from another, here the record's own
--   far                         offset plus width is no 64-bit number: 5 of a view
--   near_both                   it says the same of two records, neither of which is far
--   as_left_own as_right_own as_product_own             the answers are the same, each offset counted from the record's own
--   as_left_there as_right_there as_product_there       and the same as they are, of two records at one offset
-- Assumes nothing.
use Prim.Native.Nat.{ℕ, ◌+◌, ◌-◌, ◌≤◌}
use mathlib.Core.Path.{◌≡◌, refl, sym, ap, ◌∙◌}
use mathlib.Core.Bool.{Bool, true, false, ◌&&◌}
use mathlib.Core.List.{List, [], ◌∷◌, ◌++◌}
use native.Mathlib.Omega.{arith}
use lib.Dec.{ltb}
use borrow.Author.Tests.{le-ltb}
use Rattle.meaning.specs.Types.{bits, top, is_sum, is_prod, left_side}
use Rattle.meaning.specs.Tables.{Table}
use Rattle.meaning.specs.Records.{tag}
use Rattle.meaning.specs.Ladder.{Answer, refused, accepted, Rung, rung, ladder, Record, record_of, type_at, type_of, record_bits, shaped}
use Rattle.meaning.specs.RecordCalls.{Spot, Spots, handed, addressed, as_left_call, as_right_call, as_product_call}
use Rattle.checked.specs.Sides.{padding, says}
use Rattle.checked.proofs.OwnBits.{Agree, handed_own}
use Rattle.value_views.specs.Views.{payload_spot, parts_spots}

-- An answer with its value told in another way.
abbrev pub told : {A B : Type 0} → (A → B) → Answer A → Answer B
told f (refused n p) = refused n p
told f (accepted a) = accepted (f a)

told_ladder : {A B : Type 0} (f : A → B) (rs : List Rung) (a : A) → told f (ladder rs a) ≡ ladder rs (f a)
unfolding ladder
told_ladder f [] a = refl
told_ladder f (rung true n p ∷ rs) a = refl
told_ladder f (rung false n p ∷ rs) a = told_ladder f rs a

-- A place with its offset counted from o.
abbrev spot_from : ℕ → Spot → Spot
spot_from o s = record { offset = s.offset - o; node = s.node }

abbrev spots_from : ℕ → Spots → Spots
spots_from o s = record { first = spot_from o s.first; second = spot_from o s.second }

-- The answer of a view, its offset counted from o.
abbrev pub from : ℕ → Answer Spot → Answer Spot
from o a = told (spot_from o) a

-- The answer of `as_product`, both offsets counted from o.
abbrev pub from_both : ℕ → Answer Spots → Answer Spots
from_both o a = told (spots_from o) a

-- Offset plus width is no 64-bit number.
abbrev pub far : Table → Record → Bool
far t r = ltb top (r.offset + bits (type_of t r))

pub near_both : (t : Table) (r s : Record) → r.offset + bits (type_of t r) ≤ top → s.offset + bits (type_of t s) ≤ top → far t r ≡ far t s
near_both t r s h k = le-ltb top (r.offset + bits (type_of t r)) h ∙ sym (le-ltb top (s.offset + bits (type_of t s)) k)

-- Counted from o, what lies k bits after o lies there after 0.
after : (o k : ℕ) → o + k - o ≡ 0 + k
after o k = omega arith

self : (o : ℕ) → o - o ≡ 0
self o = omega arith

spot_at : (n : ℕ) {k l : ℕ} → k ≡ l → ◌≡◌ {A = Spot} (record { offset = k; node = n }) (record { offset = l; node = n })
spot_at n e = λ i. record { offset = e i; node = n }

module _ (t : Table) (r s : Record) (g : Agree t r s) where
  -- A view: what it shows by offset and node, told by `back` as from offset 0, and the shape that it asks for.
  module _ {A : Type 0} (place : ℕ → ℕ → A) (back : ℕ → A → A) (law : (o n : ℕ) → back o (place o n) ≡ place 0 n)
      (shape : ℕ → List Bool → Bool) where
    abbrev rungs : Record → List Rung
    rungs x = handed t (x ∷ []) [] ++ (addressed t x ++ shaped (shape x.node (record_bits t x)))

    abbrev seen : Record → Answer A
    seen x = ladder (rungs x) (place x.offset x.node)

    same_rungs : far t r ≡ far t s → rungs r ≡ rungs s
    same_rungs f = λ i. handed_own t (r ∷ []) (s ∷ []) [] (g, tt) i ++ (rung (f i) 5 0 ∷ shaped (shape (g.nodes i) (g.own i)))

    seen_there : r.offset ≡ s.offset → seen r ≡ seen s
    seen_there e = λ i. ladder (same_rungs (λ j. ltb top (e j + bits (type_at t (g.nodes j)))) i) (place (e i) (g.nodes i))

    seen_back : (x : Record) → told (back x.offset) (seen x) ≡ ladder (rungs x) (place 0 x.node)
    seen_back x = told_ladder (back x.offset) (rungs x) (place x.offset x.node) ∙ ap (ladder (rungs x)) (law x.offset x.node)

    seen_own : far t r ≡ far t s → told (back r.offset) (seen r) ≡ told (back s.offset) (seen s)
    seen_own f = seen_back r ∙ (λ i. ladder (same_rungs f i) (place 0 (g.nodes i))) ∙ sym (seen_back s)

  -- The payload with a tag, and the parts of a product.
  module _ (b : Bool) where
    abbrev payload : ℕ → ℕ → Spot
    payload o n = payload_spot b t (record_of [] o n)

    payload_back : (o n : ℕ) → spot_from o (payload o n) ≡ payload 0 n
    payload_back o n = spot_at (payload o n).node (after o (1 + padding b (type_at t n)))

    abbrev tagged : ℕ → List Bool → Bool
    tagged n v = is_sum (type_at t n) && says b (tag v)

  abbrev parts : ℕ → ℕ → Spots
  parts o n = parts_spots t (record_of [] o n)

  parts_back : (o n : ℕ) → spots_from o (parts o n) ≡ parts 0 n
  parts_back o n =
      λ i. record {
        first = spot_at (parts o n).first.node (self o) i;
        second = spot_at (parts o n).second.node (after o (bits (left_side (type_at t n)))) i;
      }

  abbrev pair : ℕ → List Bool → Bool
  pair n v = is_prod (type_at t n)

  pub as_left_own : far t r ≡ far t s → from r.offset (as_left_call t r) ≡ from s.offset (as_left_call t s)
  as_left_own f = seen_own (payload false) spot_from (payload_back false) (tagged false) f

  pub as_right_own : far t r ≡ far t s → from r.offset (as_right_call t r) ≡ from s.offset (as_right_call t s)
  as_right_own f = seen_own (payload true) spot_from (payload_back true) (tagged true) f

  pub as_product_own : far t r ≡ far t s → from_both r.offset (as_product_call t r) ≡ from_both s.offset (as_product_call t s)
  as_product_own f = seen_own parts spots_from parts_back pair f

  pub as_left_there : r.offset ≡ s.offset → as_left_call t r ≡ as_left_call t s
  as_left_there e = seen_there (payload false) spot_from (payload_back false) (tagged false) e

  pub as_right_there : r.offset ≡ s.offset → as_right_call t r ≡ as_right_call t s
  as_right_there e = seen_there (payload true) spot_from (payload_back true) (tagged true) e

  pub as_product_there : r.offset ≡ s.offset → as_product_call t r ≡ as_product_call t s
  as_product_there e = seen_there parts spots_from parts_back pair e
