-- How the readers and the writers answer past the first rungs, which have handed the table back, checked: a table u that equals the table t that
-- was asked.
--
--   held writes_short writes_done       a writer: what is known of its record; the room is short; nothing refuses
--   streamed                            a reader: what is known of its stream
--   reads_early reads_short reads_done      the stream ends early; the room is short; nothing refuses
-- Assumes nothing.
use Prim.Native.Nat.{ℕ, ◌+◌, ◌≤◌, ◌<◌}
use mathlib.Core.Path.{◌≡◌, sym, ap, ◌∙◌, subst}
use mathlib.Core.Bool.{Bool, true, false}
use mathlib.Core.List.{List, [], ◌∷◌}
use lib.ListN.{length}
use Rattle.meaning.specs.Tables.{Table}
use Rattle.meaning.specs.Bits.{room, written}
use Rattle.meaning.specs.Codecs.{Decoded, is_early, decoded_record, consumed}
use Rattle.meaning.specs.Ladder.{refused, accepted, ladder, Record, Stream, makes, made}
use Rattle.meaning.specs.CodecCalls.{reads, read_out, read_rungs, write_rungs}
use Rattle.checked.specs.Passed.{Held, Streamed}
use Rattle.checked.proofs.Handed.{checked_held, checked_streamed}
use Rattle.checked.proofs.Made as makers
use Rattle.checked.proofs.Read as readers

module _ {t u : Table} (e : u ≡ t) (r : Record) (h : accepted (tt {0}) ≡ ladder (write_rungs t r) (tt {0})) where
  pub held : Held u r
  held = (checked_held t u e (r ∷ []) [] h).0.0

  -- The writer writes the bits v, of which there are n.
  module _ (v : Table → List Bool) (out : List ℕ) {n : ℕ} (l : n ≡ length (v u)) where
    as_many : n ≡ length (v t)
    as_many = l ∙ ap (λ (x : Table). length (v x)) e

    pub writes_short : length out < room n → (refused 9 0 ≡ makes (write_rungs t r) (v t) out) × (out ≡ made (write_rungs t r) (v t) out)
    writes_short k = makers.short (write_rungs t r) (v t) out (sym h) (subst (λ (m : ℕ). length out < room m) as_many k)

    pub writes_done : room n ≤ length out → {new : List ℕ} → new ≡ written (v u) out
        → (accepted n ≡ makes (write_rungs t r) (v t) out) × (new ≡ made (write_rungs t r) (v t) out)
    writes_done k {new} f =
        makers.done (write_rungs t r) (v t) out (sym h) (subst (λ (m : ℕ). room m ≤ length out) as_many k) n as_many new
        (f ∙ ap (λ (x : Table). written (v x) out) e)

module _ {t u : Table} (e : u ≡ t) (s : Stream) (node : ℕ) (h : accepted (tt {0}) ≡ ladder (read_rungs t s node) (tt {0})) where
  pub streamed : Streamed u s node
  streamed = checked_streamed t u e s node h

  -- The reader decodes d.
  module _ (d : Table → Decoded) (out : List ℕ) where
    pub reads_early : is_early (d u) ≡ true
        → (refused 8 0 ≡ reads (read_rungs t s node) s (d t) out) × (out ≡ read_out (read_rungs t s node) s (d t) out)
    reads_early g = readers.early (read_rungs t s node) s (d t) out (sym h) (subst (λ (x : Table). is_early (d x) ≡ true) e g)

    -- It is there whole, and has n bits.
    module _ (g : is_early (d u) ≡ false) {n : ℕ} (l : n ≡ length (decoded_record (d u))) where
      as_wide : n ≡ length (decoded_record (d t))
      as_wide = l ∙ ap (λ (x : Table). length (decoded_record (d x))) e

      is_whole : is_early (d t) ≡ false
      is_whole = subst (λ (x : Table). is_early (d x) ≡ false) e g

      pub reads_short : length out < room n
          → (refused 9 0 ≡ reads (read_rungs t s node) s (d t) out) × (out ≡ read_out (read_rungs t s node) s (d t) out)
      reads_short k =
          readers.short (read_rungs t s node) s (d t) out (sym h) is_whole (subst (λ (m : ℕ). length out < room m) as_wide k)

      pub reads_done : room n ≤ length out → {at : ℕ} → at ≡ s.position + consumed (d u) → {new : List ℕ} → new ≡ written (decoded_record (d u)) out
          → (accepted at ≡ reads (read_rungs t s node) s (d t) out) × (new ≡ read_out (read_rungs t s node) s (d t) out)
      reads_done k {at} p {new} f =
          readers.done (read_rungs t s node) s (d t) out (sym h) is_whole (subst (λ (m : ℕ). room m ≤ length out) as_wide k) at
          (p ∙ ap (λ (x : Table). s.position + consumed (d x)) e)
          new
          (f ∙ ap (λ (x : Table). written (decoded_record (d x)) out) e)
