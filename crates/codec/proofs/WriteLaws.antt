-- The laws of the two writers as a caller meets them, over any sound table and any record within the limits and its bytes (`Held`: 1 to 5
-- do not apply). They speak of the equations that the calls are proved to meet, `to_compact_call` and `to_padded_call` for the answer, and those with
-- `_out` for the output.
--
--   WrittenOut                      what an accepted writer has written
--   compact_wrote padded_wrote      an accepted writer has written the compact bits, or the record's own
--   compact_writes padded_writes    a record is written, where there is room
--   compact_own padded_own length_own   answer and output depend on the record's own bits alone (`Agree` of `checked/proofs/OwnBits`)
--   unpadded_write                  no padding: both writers answer and write the same
-- Assumes nothing.
use mathlib.Core.Path.{◌≡◌, refl, sym, ap}
use mathlib.Core.Bool.{Bool, false}
use mathlib.Core.List.{List, [], ◌∷◌}
use Prim.Native.Nat.{ℕ, ◌≤◌, ◌<◌}
use native.Mathlib.Omega.{arith}
use lib.ListN.{length}
use Rattle.meaning.specs.Types.{width, padded, top}
use Rattle.meaning.specs.Tables.{Table}
use Rattle.meaning.specs.Bits.{room, written}
use Rattle.meaning.specs.Records.{compact}
use Rattle.meaning.specs.Ladder.{accepted, ladder, Record, type_at, type_of, record_bits, makes, made}
use Rattle.meaning.specs.RecordCalls.{compact_len_call}
use Rattle.meaning.specs.CodecCalls.{write_rungs, compact_bits, to_compact_call, to_compact_out, to_padded_call, to_padded_out}
use Rattle.meaning.proofs.Types.{width_bits}
use Rattle.meaning.proofs.Records.{unpadded_compact}
use Rattle.checked.specs.Passed.{Held}
use Rattle.checked.proofs.Passed.{handed_passed}
use Rattle.checked.proofs.Passes.{held_passes}
use Rattle.checked.proofs.Made.{done, accepts}
use Rattle.checked.proofs.Lent.{own_length}
use Rattle.checked.proofs.OwnBits.{Agree, handed_own, made_own}

-- What a writer of the bits v has written.
pub record WrittenOut (t : Table) (r : Record) (v : List Bool) (out : List ℕ) (n : ℕ) : Type 0 where
  pub held : Held t r
  pub has_room : room (length v) ≤ length out
  pub count : n ≡ length v
  pub output : made (write_rungs t r) v out ≡ written v out

wrote : (t : Table) (r : Record) (v : List Bool) (out : List ℕ) (n : ℕ) → makes (write_rungs t r) v out ≡ accepted n → WrittenOut t r v out n
wrote t r v out n h =
    let a = accepts (write_rungs t r) v out n h in
    record { held = (handed_passed t (r ∷ []) [] a.clear).0.0; has_room = a.roomy; count = a.counts; output = a.output }

module _ (t : Table) (r : Record) (out : List ℕ) where
  pub compact_wrote : (n : ℕ) → to_compact_call t r out ≡ accepted n → WrittenOut t r (compact_bits t r) out n
  compact_wrote n h = wrote t r (compact_bits t r) out n h

  pub padded_wrote : (n : ℕ) → to_padded_call t r out ≡ accepted n → WrittenOut t r (record_bits t r) out n
  padded_wrote n h = wrote t r (record_bits t r) out n h

  -- Bits for which there is room are written.
  writes : (v : List Bool) → Held t r → room (length v) ≤ length out
      → (makes (write_rungs t r) v out ≡ accepted (length v)) × (made (write_rungs t r) v out ≡ written v out)
  writes v w l =
      let put = done (write_rungs t r) v out (held_passes t r w) l (length v) refl (written v out) refl in (sym put.0, sym put.1)

  pub compact_writes : Held t r → room (length (compact_bits t r)) ≤ length out
      → (to_compact_call t r out ≡ accepted (length (compact_bits t r))) × (to_compact_out t r out ≡ written (compact_bits t r) out)
  compact_writes w l = writes (compact_bits t r) w l

  pub padded_writes : Held t r → room (length (record_bits t r)) ≤ length out
      → (to_padded_call t r out ≡ accepted (length (record_bits t r))) × (to_padded_out t r out ≡ written (record_bits t r) out)
  padded_writes w l = writes (record_bits t r) w l

  pub unpadded_write : Held t r → padded (type_of t r) ≡ false
      → (to_compact_call t r out ≡ to_padded_call t r out) × (to_compact_out t r out ≡ to_padded_out t r out)
  unpadded_write w p =
      let low : width (type_of t r) < top = omega (arith, width_bits (type_of t r), w.named.narrow) in
      let e = unpadded_compact (type_of t r) (record_bits t r) p low (own_length t r w) in
      (ap (λ (v : List Bool). makes (write_rungs t r) v out) e, ap (λ (v : List Bool). made (write_rungs t r) v out) e)

-- Two records that agree, wherever they lie.
module _ (t : Table) (r s : Record) (g : Agree t r s) where
  same_rungs : write_rungs t r ≡ write_rungs t s
  same_rungs = handed_own t (r ∷ []) (s ∷ []) [] (g, tt)

  same_compact : compact_bits t r ≡ compact_bits t s
  same_compact = λ i. compact (type_at t (g.nodes i)) (g.own i)

  pub compact_own : (out : List ℕ) → (to_compact_call t r out ≡ to_compact_call t s out) × (to_compact_out t r out ≡ to_compact_out t s out)
  compact_own out = made_own (write_rungs t r) (write_rungs t s) (compact_bits t r) (compact_bits t s) out same_rungs same_compact

  pub padded_own : (out : List ℕ) → (to_padded_call t r out ≡ to_padded_call t s out) × (to_padded_out t r out ≡ to_padded_out t s out)
  padded_own out = made_own (write_rungs t r) (write_rungs t s) (record_bits t r) (record_bits t s) out same_rungs g.own

  pub length_own : compact_len_call t r ≡ compact_len_call t s
  length_own = λ i. ladder (same_rungs i) (length (same_compact i))
