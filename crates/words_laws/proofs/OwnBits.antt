-- `word_product` and `word_from_bits` read the bits that count alone.
--
--   join_own                    `word_product`: answer and output depend on the own bits of the two records (`Agree` of `checked/proofs/OwnBits`)
--   word_accepted_own           `word_from_bits`: an accepted reading depends on the bits that it consumed alone
--   word_refused_own            a refusal, 1 to 9, on those from the position to the length (`AgreeStream` of `checked/proofs/OwnStream`)
-- Assumes nothing.
use Prim.Native.Nat.{ℕ, ◌+◌, ◌-◌}
use mathlib.Core.Path.{◌≡◌}
use mathlib.Core.List.{List, [], ◌∷◌, ◌++◌}
use lib.Dec.{ltb}
use lib.ListN.{take}
use Rattle.meaning.specs.Tables.{Table}
use Rattle.meaning.specs.Words.{is_word, joins}
use Rattle.meaning.specs.Codecs.{decode_padded}
use Rattle.meaning.specs.Ladder.{refused, accepted, Rung, Record, Stream, type_at, type_of, rest_of, ranged, shaped}
use Rattle.meaning.specs.RecordCalls.{product_bits}
use Rattle.meaning.specs.CodecCalls.{read_rungs}
use Rattle.meaning.specs.WordCalls.{join_call, join_out, word_read_call, word_read_out}
use Rattle.checked.specs.Passed.{Streamed}
use Rattle.checked.proofs.Passes.{stream_passes}
use Rattle.checked.proofs.OwnBits.{Agree, results_own}
use Rattle.checked.proofs.OwnStream.{AgreeStream, accepted_own, stream_own, refused_own}
use Rattle.laws.proofs.CodecExact.{padded_own_bits}

-- Two pairs of records that agree, wherever they lie.
pub join_own : (t : Table) (r s : Record) → Agree t r s → (p q : Record) → Agree t p q → (c : ℕ) (out : List ℕ)
    → (join_call t r p c out ≡ join_call t s q c out) × (join_out t r p c out ≡ join_out t s q c out)
join_own t r s g p q h c out =
    results_own t (r ∷ p ∷ []) (s ∷ q ∷ []) (g, (h, tt)) c (joins (type_of t r) (type_of t p) (type_at t c))
    (joins (type_of t s) (type_of t q) (type_at t c))
    (product_bits t r p)
    (product_bits t s q)
    out
    (λ i. joins (type_at t (g.nodes i)) (type_at t (h.nodes i)) (type_at t c))
    (λ i. g.own i ++ h.own i)

-- Two streams, read as word n.
module _ (t : Table) (s s' : Stream) (n node : ℕ) (out : List ℕ) where
  -- 6 and 7.
  abbrev asked : List Rung
  asked = ranged (ltb n 32) ++ shaped (is_word n (type_at t node))

  pub word_accepted_own : Streamed t s' node → (next : ℕ) → word_read_call t s n node out ≡ accepted next
      → take (next - s.position) (rest_of s') ≡ take (next - s.position) (rest_of s)
      → (word_read_call t s' n node out ≡ accepted (s'.position + (next - s.position)))
      × (word_read_out t s' n node out ≡ word_read_out t s n node out)
  word_accepted_own w =
      accepted_own (decode_padded (type_at t node)) (read_rungs t s node) (read_rungs t s' node) asked s s' out (stream_passes t s' node w)
      (padded_own_bits (type_at t node))

  pub word_refused_own : AgreeStream s s' → (m p : ℕ) → word_read_call t s n node out ≡ refused m p
      → (word_read_call t s' n node out ≡ refused m p) × (word_read_out t s' n node out ≡ out)
  word_refused_own g =
      refused_own (decode_padded (type_at t node)) (read_rungs t s node ++ asked) (read_rungs t s' node ++ asked) s s' out
      (λ i. stream_own t s s' node g i ++ asked)
      g
