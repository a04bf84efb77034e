-- How a call that writes bits answers, and what it leaves in its output, by the first of its rungs that refuses.
--
--   stopped short done          a rung before the room refuses; the room does; nothing does
--   first_stopped handed-on     the first rungs of a call refuse; what they let pass is for the others to judge
--   Accepted accepts            what is known of a call that was accepted
--   written_bits                bits that were written are those of a record at bit 0
--   made_length made_record     its output is as long as before, and the record at bit 0 is what was made
-- Assumes nothing.
use Prim.Native.Nat.{ℕ, ◌-◌, ◌*◌, ◌≤◌, ◌<◌}
use mathlib.Core.Path.{◌≡◌, sym, ap, ◌∙◌}
use mathlib.Core.Bool.{Bool}
use mathlib.Core.List.{List, [], ◌++◌, append_assoc}
use lib.Dec.{ltb}
use lib.ListN.{length, take, drop}
use lib.Seq.{take_at}
use borrow.Author.Tests.{lt-ltb, le-ltb, ltb-false}
use Rattle.meaning.specs.Types.{bits}
use Rattle.meaning.specs.Tables.{Table}
use Rattle.meaning.specs.Bits.{bits_of, zeros, room, written}
use Rattle.meaning.specs.Ladder.{Answer, refused, accepted, Rung, ladder, kept, record_of, type_at, record_bits, room_for, makes, made}
use Rattle.meaning.proofs.Ladders.{ladder_parts, ladder_pass, ladder_stop, ladder_holds, ladder_fails, ladder_clear, kept_refused, kept_accepted}
use Rattle.bits.proofs.Packed.{bits_of_written, length_written}

module _ (rs : List Rung) (v : List Bool) (out : List ℕ) where
  -- The answer is a refusal, and the output is as it was.
  refuses : (n p : ℕ) → makes rs v out ≡ refused n p → (refused n p ≡ makes rs v out) × (out ≡ made rs v out)
  refuses n p e = (sym e, sym (kept_refused (makes rs v out) n p out (written v out) e))

  pub stopped : (n p : ℕ) → ladder rs (tt {0}) ≡ refused n p → (refused n p ≡ makes rs v out) × (out ≡ made rs v out)
  stopped n p h = refuses n p (ladder_stop rs (room_for v out) (tt {0}) (length v) n p h)

  pub short : ladder rs (tt {0}) ≡ accepted (tt {0}) → length out < room (length v) → (refused 9 0 ≡ makes rs v out) × (out ≡ made rs v out)
  short h l =
      refuses 9 0
      (ladder_pass rs (room_for v out) (tt {0}) (tt {0}) (length v) h
      ∙ ladder_holds (ltb (length out) (room (length v))) 9 0 [] (length v) (lt-ltb (length out) (room (length v)) l))

  pub done : ladder rs (tt {0}) ≡ accepted (tt {0}) → room (length v) ≤ length out → (w : ℕ) → w ≡ length v → (new : List ℕ) → new ≡ written v out
      → (accepted w ≡ makes rs v out) × (new ≡ made rs v out)
  unfolding ladder
  done h l w ew new en =
      let e : makes rs v out ≡ accepted (length v) =
      ladder_pass rs (room_for v out) (tt {0}) (tt {0}) (length v) h
      ∙ ladder_fails (ltb (length out) (room (length v))) 9 0 [] (length v) (le-ltb (length out) (room (length v)) l) in
      (ap accepted ew ∙ sym e, en ∙ sym (kept_accepted (makes rs v out) (length v) out (written v out) e))

  pub handed-on : (gs : List Rung) → ladder gs (tt {0}) ≡ accepted (tt {0})
      → (makes rs v out ≡ makes (gs ++ rs) v out) × (made rs v out ≡ made (gs ++ rs) v out)
  handed-on gs h =
      let e : makes (gs ++ rs) v out ≡ makes rs v out =
      ap (λ (x : List Rung). ladder x (length v)) (append_assoc gs rs (room_for v out))
      ∙ ladder_pass gs (rs ++ room_for v out) (tt {0}) (tt {0}) (length v) h in
      (sym e, sym (ap (λ (a : Answer ℕ). kept a out (written v out)) e))

pub first_stopped : (gs rs : List Rung) (v : List Bool) (out : List ℕ) (n p : ℕ) → ladder gs (tt {0}) ≡ refused n p
    → (refused n p ≡ makes (gs ++ rs) v out) × (out ≡ made (gs ++ rs) v out)
first_stopped gs rs v out n p h = stopped (gs ++ rs) v out n p (ladder_stop gs rs (tt {0}) (tt {0}) n p h)

-- What is known of an accepted call.
pub record Accepted (rs : List Rung) (v : List Bool) (out : List ℕ) (w : ℕ) : Type 0 where
  pub clear : ladder rs (tt {0}) ≡ accepted (tt {0})
  pub roomy : room (length v) ≤ length out
  pub counts : w ≡ length v
  pub output : made rs v out ≡ written v out

pub accepts : (rs : List Rung) (v : List Bool) (out : List ℕ) (w : ℕ) → makes rs v out ≡ accepted w → Accepted rs v out w
unfolding ladder
accepts rs v out w h =
    let parts = ladder_parts rs (room_for v out) (tt {0}) (length v) w h in
    let last = ladder_clear (ltb (length out) (room (length v))) 9 0 [] (length v) w parts.1 in
    let same : accepted (length v) ≡ accepted w = last.1 in
    record {
      clear = parts.0;
      roomy = ltb-false (length out) (room (length v)) last.0;
      counts = cc;
      output = kept_accepted (makes rs v out) w out (written v out) h;
    }

pub made_length : (rs : List Rung) (v : List Bool) (out : List ℕ) (w : ℕ) → makes rs v out ≡ accepted w → length (made rs v out) ≡ length out
made_length rs v out w h =
    let a = accepts rs v out w h in ap length a.output ∙ length_written v out a.roomy

pub written_bits : (t : Table) (node : ℕ) (v : List Bool) (out : List ℕ) → length v ≡ bits (type_at t node)
    → record_bits t (record_of (written v out) 0 node) ≡ v
unfolding record_bits
written_bits t node v out e =
    ap (take (bits (type_at t node))) (bits_of_written v out)
    ∙ take_at v (zeros (8 * room (length v) - length v) ++ drop (8 * room (length v)) (bits_of out)) (bits (type_at t node)) e

pub made_record : (t : Table) (result : ℕ) (rs : List Rung) (v : List Bool) (out : List ℕ) (w : ℕ) → makes rs v out ≡ accepted w
    → bits (type_at t result) ≡ length v
    → record_bits t (record_of (made rs v out) 0 result) ≡ v
made_record t result rs v out w h e =
    ap (λ (new : List ℕ). record_bits t (record_of new 0 result)) (accepts rs v out w h).output ∙ written_bits t result v out (sym e)
