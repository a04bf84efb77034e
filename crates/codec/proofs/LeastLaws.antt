-- The least compact length as a caller meets it: document 02, K1. No record is shorter than what `facts_of` tells, and one is no longer. The laws
-- speak of the equations that the calls are proved to meet.
--
--   compact_length_between      what `compact_len` answers of a record lies between the least length and the width that `facts_of` answers of its node
--   to_compact_between          so does what `to_compact_bits` answers
--   from_compact_between        so does how far `from_compact_bits` moves the position
--   least_reached               within the limits of 3 and 4, `compact_len` of some record answers just the least length that `facts_of` answers
-- Assumes nothing.
use Prim.Native.Nat.{ℕ, ◌+◌, ◌*◌, ◌-◌, ◌≤◌, ◌<◌}
use mathlib.Core.Path.{◌≡◌, refl, sym, ap, ◌∙◌}
use mathlib.Core.Bool.{Bool}
use mathlib.Core.List.{List, [], ◌∷◌}
use native.Mathlib.Omega.{arith}
use lib.ListN.{length, take}
use lib.Seq.{take_at}
use Rattle.meaning.specs.Types.{width, top}
use Rattle.meaning.specs.Tables.{Table, NodeFacts}
use Rattle.meaning.specs.Bits.{bits_of, zeros, room, pack}
use Rattle.meaning.specs.Records.{compact}
use Rattle.meaning.specs.Ladder.{accepted, Record, record_of, Stream, type_at, record_bits, widest, largest}
use Rattle.meaning.specs.Checked.{Bytes}
use Rattle.meaning.specs.TypeCalls.{facts_of_call}
use Rattle.meaning.specs.RecordCalls.{handed, compact_len_call}
use Rattle.meaning.specs.CodecCalls.{compact_bits, to_compact_call, from_compact_call, from_compact_out}
use Rattle.meaning.proofs.Types.{width_bits}
use Rattle.meaning.proofs.Leasts.{least_width}
use Rattle.meaning.proofs.Ladders.{ladder_value, ladder_any}
use Rattle.bits.proofs.Packed.{length_pack, bits_of_pack, bytes_pack}
use Rattle.laws.proofs.RecordLeast.{least_compact_width, shortest_least}
use Rattle.checked.specs.Passed.{Named, Held}
use Rattle.checked.proofs.Passed.{handed_passed}
use Rattle.checked.proofs.Passes.{handed_accepts}
use Rattle.checked.proofs.Told.{OwnFacts, own_facts}
use Rattle.codec.proofs.ReadLaws.{at_zero, compact_got}
use Rattle.codec.proofs.WriteLaws.{compact_wrote}

module _ (t : Table) (n : ℕ) (f : NodeFacts) (e : facts_of_call t n ≡ accepted f) where
  -- Facts that were answered are those of the node's tree.
  own : OwnFacts t n f
  own = own_facts t n (sym e)

  -- A record of a type within the limits.
  between : (v : List Bool) (k : ℕ) → Named t n → k ≡ length (compact (type_at t n) v) → (f.least_of ≤ k) × (k ≤ f.width_of)
  between v k named d =
      let low : width (type_at t n) < top = omega (arith, width_bits (type_at t n), named.narrow) in
      let b = least_compact_width (type_at t n) v low in
      let p = ap (λ (x : NodeFacts). x.least_of) own.facts_are in
      let q = ap (λ (x : NodeFacts). x.width_of) own.facts_are in
      (omega (arith, b.0), omega (arith, b.1))

  -- The limits are said of the numbers that were answered. Past them no record of the type is taken (`wide_refused`, `large_refused` of meaning).
  pub least_reached : f.width_of ≤ widest → f.size_of ≤ largest → (s : List ℕ) × Bytes s × (compact_len_call t (record_of s 0 n) ≡ accepted f.least_of)
  unfolding record_bits
  least_reached w z =
      let a = type_at t n in
      let p = ap (λ (x : NodeFacts). x.width_of) own.facts_are in
      let q = ap (λ (x : NodeFacts). x.size_of) own.facts_are in
      let l = ap (λ (x : NodeFacts). x.least_of) own.facts_are in
      let v = shortest_least a (omega (arith, least_width a)) in
      let s = pack v.0 in
      let named : Named t n = record { sound = own.of_node.sound; here = own.of_node.here; narrow = omega (arith, width_bits a); few = omega arith } in
      let r = record_of s 0 n in
      let held : Held t r = record { named = named; ends = omega (arith, length_pack v.0, v.1) } in
      let bits_are : record_bits t r ≡ v.0 =
      ap (λ (k : ℕ). take k (bits_of s)) (sym v.1)
      ∙ ap (take (length v.0)) (bits_of_pack v.0)
      ∙ take_at v.0 (zeros (8 * room (length v.0) - length v.0)) (length v.0) refl in (
        s,
        bytes_pack v.0,
        handed_accepts t named.sound (r ∷ []) [] (length (compact_bits t r)) (held, tt) tt
            ∙ ap accepted (ap (λ (u : List Bool). length (compact a u)) bits_are ∙ v.2 ∙ sym l),
      )

module _ (t : Table) (r : Record) (n : ℕ) (f : NodeFacts) where
  pub compact_length_between : compact_len_call t r ≡ accepted n → facts_of_call t r.node ≡ accepted f → (f.least_of ≤ n) × (n ≤ f.width_of)
  compact_length_between h e =
      let rungs = handed t (r ∷ []) [] in
      let k = length (compact_bits t r) in
      let held = (handed_passed t (r ∷ []) [] (ladder_any rungs k n (tt {0}) h)).0.0 in
      between t r.node f e (record_bits t r) n held.named (ladder_value rungs k n (sym h))

  pub to_compact_between : (out : List ℕ) → to_compact_call t r out ≡ accepted n → facts_of_call t r.node ≡ accepted f → (f.least_of ≤ n) × (n ≤ f.width_of)
  to_compact_between out h e =
      let w = compact_wrote t r out n h in between t r.node f e (record_bits t r) n w.held.named w.count

pub from_compact_between : (t : Table) (s : Stream) (node : ℕ) (out : List ℕ) (next : ℕ) (f : NodeFacts) → from_compact_call t s node out ≡ accepted next
    → facts_of_call t node ≡ accepted f → (s.position + f.least_of ≤ next) × (next ≤ s.position + f.width_of)
from_compact_between t s node out next f h e =
    let g = compact_got t s node out next h in
    let v = record_bits t (at_zero (from_compact_out t s node out) node) in
    let b = between t node f e v (length (compact (type_at t node) v)) g.held.named refl in
    let c = g.consumed_count in
    (omega (arith, b.0), omega (arith, b.1))
