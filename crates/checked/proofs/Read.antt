-- How a call that reads a stream answers, and what it leaves in its output. Its first rungs are `rs`, and it decodes `d`.
--
--   stopped early short done    the first rungs refuse; the stream ends early; the room is short; nothing refuses
--   after                       what the first rungs let pass is for 8 and 9 to judge
--   AcceptedRead accepts        what is known of a reading that was accepted
-- Assumes nothing.
use Prim.Native.Nat.{ℕ, ◌+◌, ◌≤◌, ◌<◌}
use mathlib.Core.Path.{◌≡◌, sym, ap, ◌∙◌}
use mathlib.Core.Bool.{true, false}
use mathlib.Core.List.{List, [], ◌∷◌}
use lib.Dec.{ltb}
use lib.ListN.{length}
use borrow.Author.Tests.{lt-ltb, le-ltb, ltb-false}
use Rattle.meaning.specs.Bits.{room, written}
use Rattle.meaning.specs.Codecs.{Decoded, is_early, decoded_record, consumed}
use Rattle.meaning.specs.Ladder.{refused, accepted, Rung, rung, ladder, Stream, room_for}
use Rattle.meaning.specs.CodecCalls.{reads, read_out}
use Rattle.meaning.proofs.Ladders.{ladder_parts, ladder_pass, ladder_stop, ladder_holds, ladder_fails, ladder_clear, kept_refused, kept_accepted}

module _ (rs : List Rung) (s : Stream) (d : Decoded) (out : List ℕ) where
  -- The rungs after the first ones, and the next position.
  abbrev own : List Rung
  own = rung (is_early d) 8 0 ∷ room_for (decoded_record d) out

  abbrev next : ℕ
  next = s.position + consumed d

  -- The answer is a refusal, and the output is as it was.
  refuses : (n p : ℕ) → reads rs s d out ≡ refused n p → (refused n p ≡ reads rs s d out) × (out ≡ read_out rs s d out)
  refuses n p e = (sym e, sym (kept_refused (reads rs s d out) n p out (written (decoded_record d) out) e))

  pub stopped : (n p : ℕ) → ladder rs (tt {0}) ≡ refused n p → (refused n p ≡ reads rs s d out) × (out ≡ read_out rs s d out)
  stopped n p h = refuses n p (ladder_stop rs own (tt {0}) next n p h)

  module _ (h : ladder rs (tt {0}) ≡ accepted (tt {0})) where
    pub after : reads rs s d out ≡ ladder (rung (is_early d) 8 0 ∷ room_for (decoded_record d) out) (s.position + consumed d)
    after = ladder_pass rs own (tt {0}) (tt {0}) next h

    pub early : is_early d ≡ true → (refused 8 0 ≡ reads rs s d out) × (out ≡ read_out rs s d out)
    early e = refuses 8 0 (after ∙ ladder_holds (is_early d) 8 0 (room_for (decoded_record d) out) next e)

    after_early : is_early d ≡ false → reads rs s d out ≡ ladder (room_for (decoded_record d) out) next
    after_early e = after ∙ ladder_fails (is_early d) 8 0 (room_for (decoded_record d) out) next e

    pub short : is_early d ≡ false → length out < room (length (decoded_record d)) → (refused 9 0 ≡ reads rs s d out) × (out ≡ read_out rs s d out)
    short e l =
        refuses 9 0
        (after_early e
        ∙ ladder_holds (ltb (length out) (room (length (decoded_record d)))) 9 0 [] next (lt-ltb (length out) (room (length (decoded_record d))) l))

    pub done : is_early d ≡ false → room (length (decoded_record d)) ≤ length out → (at : ℕ) → at ≡ s.position + consumed d → (new : List ℕ)
        → new ≡ written (decoded_record d) out → (accepted at ≡ reads rs s d out) × (new ≡ read_out rs s d out)
    unfolding ladder
    done e l at ea new en =
        let a : reads rs s d out ≡ accepted next =
        after_early e
        ∙ ladder_fails (ltb (length out) (room (length (decoded_record d)))) 9 0 [] next (le-ltb (length out) (room (length (decoded_record d))) l) in
        (ap accepted ea ∙ sym a, en ∙ sym (kept_accepted (reads rs s d out) next out (written (decoded_record d) out) a))

-- What is known of an accepted reading.
pub record AcceptedRead (rs : List Rung) (s : Stream) (d : Decoded) (out : List ℕ) (at : ℕ) : Type 0 where
  pub clear : ladder rs (tt {0}) ≡ accepted (tt {0})
  pub whole : is_early d ≡ false
  pub roomy : room (length (decoded_record d)) ≤ length out
  pub ends : at ≡ s.position + consumed d
  pub output : read_out rs s d out ≡ written (decoded_record d) out

pub accepts : (rs : List Rung) (s : Stream) (d : Decoded) (out : List ℕ) (at : ℕ) → reads rs s d out ≡ accepted at → AcceptedRead rs s d out at
unfolding ladder
accepts rs s d out at h =
    let n = s.position + consumed d in
    let parts = ladder_parts rs (rung (is_early d) 8 0 ∷ room_for (decoded_record d) out) (tt {0}) n at h in
    let eight = ladder_clear (is_early d) 8 0 (room_for (decoded_record d) out) n at parts.1 in
    let nine = ladder_clear (ltb (length out) (room (length (decoded_record d)))) 9 0 [] n at eight.1 in
    let same : accepted n ≡ accepted at = nine.1 in
    record {
      clear = parts.0;
      whole = eight.0;
      roomy = ltb-false (length out) (room (length (decoded_record d))) nine.0;
      ends = cc;
      output = kept_accepted (reads rs s d out) at out (written (decoded_record d) out) h;
    }
