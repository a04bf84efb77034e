-- A view of what a constructor made is the payload again, bit for bit.
--
--   written_held                    a record that was written at bit 0 lies within its bytes
--   Again                           a view of a record that was made shows this payload
--   left_again right_again some_again       as_left of left, as_right of right and of some
--   AgainBoth product_again         as_product of product
-- Assumes nothing.
use Prim.Native.Nat.{ℕ, ◌+◌, ◌≤◌}
use mathlib.Core.Path.{◌≡◌, refl, sym, ap, ap₂, ◌∙◌, subst}
use mathlib.Core.Bool.{Bool, true, false, ◌&&◌}
use mathlib.Core.List.{List, [], ◌∷◌, ◌++◌}
use native.Mathlib.Omega.{arith}
use lib.ListN.{length, take, drop, length-append}
use lib.Seq.{take_at, drop_at}
use Rattle.meaning.specs.Types.{Ty, same, bits, is_sum, is_prod, left_side, right_side}
use Rattle.meaning.specs.Tables.{Table, left, right}
use Rattle.meaning.specs.Bits.{room, written}
use Rattle.meaning.specs.Records.{tag}
use Rattle.meaning.specs.Ladder.{Answer, accepted, ladder, Record, record_of, type_at, type_of, record_bits, shaped}
use Rattle.meaning.specs.RecordCalls.{Spot, Spots, handed, as_left_call, as_right_call, as_product_call, product_bits}
use Rattle.meaning.specs.RecordCalls.{left_call, left_out, right_call, right_out, some_call, some_out, product_call, product_out}
use Rattle.meaning.proofs.Ladders.{ladder_pass}
use Rattle.meaning.proofs.Tests.{and_left, and_right}
use Rattle.meaning.proofs.Types.{same_eq}
use Rattle.meaning.proofs.Records.{bits_prod}
use Rattle.laws.proofs.RecordParts.{left_of_in_left, right_of_in_right}
use Rattle.bits.proofs.Packed.{length_written}
use Rattle.checked.specs.Passed.{Named, Held}
use Rattle.checked.proofs.Passed.{handed_passed}
use Rattle.checked.proofs.Passes.{held_passes}
use Rattle.checked.proofs.Made.{accepts, written_bits}
use Rattle.checked.proofs.Shaped.{shape_accepted}
use Rattle.checked.specs.Sides.{side_type, padding, says, wrapped}
use Rattle.value_views.specs.Views.{payload_spot, payload_rungs, parts_spots, parts_rungs}
use Rattle.value_fitting.specs.Fits.{wrap_fits, join_fits, option_fits}
use Rattle.value_making.specs.Wraps.{wrap_bits}
use Rattle.checked.proofs.Lent.{own_length}
use Rattle.value_making.proofs.Payloads.{wrapped_length, some_fits}
use Rattle.value_views.proofs.Viewed.{payload_seen, parts_seen}
use Rattle.checked.proofs.SideTypes.{sum_tree, prod_tree}
use Rattle.value.proofs.SubViews.{shown, payload_shows, parts_show}

-- ---- A record that was written at bit 0

pub written_held : (t : Table) (c : ℕ) (v : List Bool) (out : List ℕ) → length v ≡ bits (type_at t c) → Named t c → room (length v) ≤ length out
    → Held t (record_of (written v out) 0 c)
written_held t c v out h n r = record { named = n; ends = omega (arith, length_written v out r) }

-- ---- Sums, over the tag

-- A view of the record m shows the payload p.
pub record Again (t : Table) (p m : Record) (answer : Answer Spot) : Type 0 where
  pub spot : Spot
  pub seen : answer ≡ accepted spot
  pub types : type_at t spot.node ≡ type_of t p
  pub bits_are : record_bits t (shown m spot) ≡ record_bits t p

wrapped_tag : (g : Bool) (x : Ty) (p : List Bool) → says g (tag (wrapped g x p)) ≡ true
wrapped_tag true x p = refl
wrapped_tag false x p = refl

wrapped_payload : (g : Bool) (x : Ty) (p : List Bool) → drop (1 + padding g x) (wrapped g x p) ≡ p
wrapped_payload true x p = right_of_in_right (left_side x) (right_side x) p
wrapped_payload false x p = left_of_in_left (left_side x) (right_side x) p

-- The answer of the view with a tag.
abbrev view : Bool → Table → Record → Answer Spot
view g t m = ladder (handed t (m ∷ []) [] ++ payload_rungs g t m) (payload_spot g t m)

wrap_again : (g : Bool) (t : Table) (p : Record) (c : ℕ) (out : List ℕ) → ladder (handed t (p ∷ []) (c ∷ [])) (tt {0}) ≡ accepted (tt {0})
    → wrap_fits g t p.node c ≡ true
    → room (length (wrap_bits g t p c)) ≤ length out
    → Again t p (record_of (written (wrap_bits g t p c) out) 0 c) (view g t (record_of (written (wrap_bits g t p c) out) 0 c))
wrap_again g t p c out h k l =
    let x = type_at t c in
    let v = wrap_bits g t p c in
    let m = record_of (written v out) 0 c in
    let q = handed_passed t (p ∷ []) (c ∷ []) h in
    let hp = q.0.0 in
    let nc = q.1.0 in
    let s = and_left (is_sum x) (same (side_type g x) (type_of t p)) k in
    let e = same_eq (side_type g x) (type_of t p) (and_right (is_sum x) (same (side_type g x) (type_of t p)) k) in
    let l_side = type_at t (left t.columns c) in
    let r_side = type_at t (right t.columns c) in
    let tree = sum_tree t c nc s in
    let w : length v ≡ bits x =
    wrapped_length g x l_side r_side (record_bits t p) tree (own_length t p hp ∙ ap bits (sym e)) in
    let b = written_bits t c v out w in
    let hm = written_held t c v out w nc l in
    let sh = payload_shows t m hm s g in
    record {
      spot = payload_spot g t m;
      seen =
          ladder_pass (handed t (m ∷ []) []) (payload_rungs g t m) (tt {0}) (tt {0}) (payload_spot g t m) (held_passes t m hm)
          ∙ sym (payload_seen g t m (omega (arith, nc.narrow)) l_side r_side tree (ap (λ (u : List Bool). says g (tag u)) b ∙ wrapped_tag g x (record_bits t p))
          (payload_spot g t m).offset
          (payload_spot g t m).node
          refl
          refl);
      types = sh.type_is ∙ e;
      bits_are = sh.bits_are ∙ ap (drop (1 + padding g x)) b ∙ wrapped_payload g x (record_bits t p);
    }

module _ (t : Table) (p : Record) (c : ℕ) (out : List ℕ) (w : ℕ) where
  -- The record of the result in an output.
  abbrev result : List ℕ → Record
  result o = record_of o 0 c

  pub left_again : left_call t p c out ≡ accepted w → Again t p (result (left_out t p c out)) (as_left_call t (result (left_out t p c out)))
  left_again h =
      let a = accepts (handed t (p ∷ []) (c ∷ []) ++ shaped (wrap_fits false t p.node c)) (wrap_bits false t p c) out w h in
      let k = shape_accepted (handed t (p ∷ []) (c ∷ [])) (wrap_fits false t p.node c) a.clear in
      subst (λ (o : List ℕ). Again t p (result o) (as_left_call t (result o))) (sym a.output)
      (wrap_again false t p c out k.0 k.1 a.roomy)

  pub right_again : right_call t p c out ≡ accepted w → Again t p (result (right_out t p c out)) (as_right_call t (result (right_out t p c out)))
  right_again h =
      let a = accepts (handed t (p ∷ []) (c ∷ []) ++ shaped (wrap_fits true t p.node c)) (wrap_bits true t p c) out w h in
      let k = shape_accepted (handed t (p ∷ []) (c ∷ [])) (wrap_fits true t p.node c) a.clear in
      subst (λ (o : List ℕ). Again t p (result o) (as_right_call t (result o))) (sym a.output)
      (wrap_again true t p c out k.0 k.1 a.roomy)

  pub some_again : some_call t p c out ≡ accepted w → Again t p (result (some_out t p c out)) (as_right_call t (result (some_out t p c out)))
  some_again h =
      let side = same (right_side (type_at t c)) (type_of t p) in
      let a = accepts (handed t (p ∷ []) (c ∷ []) ++ shaped (option_fits t c && side)) (wrap_bits true t p c) out w h in
      let k = shape_accepted (handed t (p ∷ []) (c ∷ [])) (option_fits t c && side) a.clear in
      subst (λ (o : List ℕ). Again t p (result o) (as_right_call t (result o))) (sym a.output)
      (wrap_again true t p c out k.0 (some_fits t p.node c (and_left (option_fits t c) side k.1) ∙ k.1) a.roomy)

-- ---- Products

-- A view of the record m shows the two parts.
pub record AgainBoth (t : Table) (a b m : Record) (answer : Answer Spots) : Type 0 where
  pub spots : Spots
  pub seen : answer ≡ accepted spots
  pub left_types : type_at t spots.first.node ≡ type_of t a
  pub left-bits : record_bits t (shown m spots.first) ≡ record_bits t a
  pub right_types : type_at t spots.second.node ≡ type_of t b
  pub right-bits : record_bits t (shown m spots.second) ≡ record_bits t b

join_again : (t : Table) (a b : Record) (c : ℕ) (out : List ℕ) → ladder (handed t (a ∷ b ∷ []) (c ∷ [])) (tt {0}) ≡ accepted (tt {0})
    → join_fits t a.node b.node c ≡ true
    → room (length (product_bits t a b)) ≤ length out
    → AgainBoth t a b (record_of (written (product_bits t a b) out) 0 c) (as_product_call t (record_of (written (product_bits t a b) out) 0 c))
join_again t a b c out h k l =
    let x = type_at t c in
    let v = product_bits t a b in
    let m = record_of (written v out) 0 c in
    let q = handed_passed t (a ∷ b ∷ []) (c ∷ []) h in
    let nc = q.1.0 in
    let sa = same (left_side x) (type_of t a) in
    let sb = same (right_side x) (type_of t b) in
    let front = and_left (is_prod x && sa) sb k in
    let s = and_left (is_prod x) sa front in
    let ea = same_eq (left_side x) (type_of t a) (and_right (is_prod x) sa front) in
    let eb = same_eq (right_side x) (type_of t b) (and_right (is_prod x && sa) sb k) in
    let tree = prod_tree t c nc s in
    let la : length (record_bits t a) ≡ bits (left_side x) = own_length t a q.0.0 ∙ ap bits (sym ea) in
    let lb : length (record_bits t b) ≡ bits (right_side x) = own_length t b q.0.1.0 ∙ ap bits (sym eb) in
    let total : bits x ≡ bits (left_side x) + bits (right_side x) =
    ap bits tree
    ∙ bits_prod (type_at t (left t.columns c)) (type_at t (right t.columns c))
    ∙ ap₂ ◌+◌ (sym (ap (λ (y : Ty). bits (left_side y)) tree)) (sym (ap (λ (y : Ty). bits (right_side y)) tree)) in
    let w : length v ≡ bits x = omega (arith, length-append (record_bits t a) (record_bits t b)) in
    let wb = written_bits t c v out w in
    let hm = written_held t c v out w nc l in
    let sh = parts_show t m hm s in
    record {
      spots = parts_spots t m;
      seen =
          ladder_pass (handed t (m ∷ []) []) (parts_rungs t m) (tt {0}) (tt {0}) (parts_spots t m) (held_passes t m hm)
          ∙ sym (parts_seen t m (omega (arith, nc.narrow)) s (bits (left_side x)) (parts_spots t m).first.node (parts_spots t m).second.node refl refl refl);
      left_types = sh.left_part.type_is ∙ ea;
      left-bits =
          sh.left_part.bits_are ∙ ap (take (bits (left_side x))) wb ∙ take_at (record_bits t a) (record_bits t b) (bits (left_side x)) la;
      right_types = sh.right_part.type_is ∙ eb;
      right-bits =
          sh.right_part.bits_are ∙ ap (drop (bits (left_side x))) wb ∙ drop_at (record_bits t a) (record_bits t b) (bits (left_side x)) la;
    }

pub product_again : (t : Table) (a b : Record) (c : ℕ) (out : List ℕ) (w : ℕ) → product_call t a b c out ≡ accepted w
    → AgainBoth t a b (record_of (product_out t a b c out) 0 c) (as_product_call t (record_of (product_out t a b c out) 0 c))
product_again t a b c out w h =
    let k = accepts (handed t (a ∷ b ∷ []) (c ∷ []) ++ shaped (join_fits t a.node b.node c)) (product_bits t a b) out w h in
    let f = shape_accepted (handed t (a ∷ b ∷ []) (c ∷ [])) (join_fits t a.node b.node c) k.clear in
    subst (λ (o : List ℕ). AgainBoth t a b (record_of o 0 c) (as_product_call t (record_of o 0 c))) (sym k.output)
    (join_again t a b c out f.0 f.1 k.roomy)
