-- 8 is exact: each call that reads a stream answers 8 exactly if none of its rungs 1 to 7 refuses and no record of the type begins the
-- stream at its position.
--
--   reads_eight                 over whatever says of a stream that its reading ends early
--   from_compact_eight          of `from_compact_bits`: no record of the type has compact bits that begin the stream at its position
--   from_padded_eight           of `from_padded_bits`: no record of the type begins the stream at its position
--   word_read_eight             of `word_from_bits`: the same
-- Assumes nothing.
use Prim.Native.Nat.{ℕ, ◌+◌}
use mathlib.Core.Path.{◌≡◌, refl}
use mathlib.Core.Logic.{◌↔◌}
use mathlib.Core.Bool.{Bool, true}
use mathlib.Core.List.{List}
use lib.ListN.{length}
use Rattle.meaning.specs.Types.{bits}
use Rattle.meaning.specs.Tables.{Table}
use Rattle.meaning.specs.Records.{compact}
use Rattle.meaning.specs.Codecs.{Decoded, early, is_early, decoded_record, consumed}
use Rattle.meaning.specs.Ladder.{refused, accepted, Rung, ladder, Stream, type_at, rest_of, room_for}
use Rattle.meaning.specs.CodecCalls.{reads, read_rungs, compact_in, padded_in, from_compact_call, from_padded_call}
use Rattle.meaning.specs.WordCalls.{word_read_rungs, word_read_call}
use Rattle.meaning.proofs.Refusals.{without, answered_alone}
use Rattle.laws.proofs.RecordPrefixes.{Begins}
use Rattle.laws.proofs.CodecExact.{early_test, compact_early_exact, padded_early_exact}

-- P says of the stream that the reading ends early.
pub reads_eight : {P : Type 0} (rs : List Rung) (s : Stream) (d : Decoded) (out : List ℕ) → without 8 rs ≡ true → (d ≡ early) ↔ P
    → (reads rs s d out ≡ refused 8 0) ↔ ((ladder rs (tt {0}) ≡ accepted (tt {0})) × P)
reads_eight rs s d out w x =
    let a = answered_alone rs (is_early d) 8 0 (room_for (decoded_record d) out) (s.position + consumed d) w refl in
    (λ e. ((a.0 e).0, x.0 ((early_test d).0 (a.0 e).1)), λ f. a.1 (f.0, (early_test d).1 (x.1 f.1)))

module _ (t : Table) (s : Stream) where
  pub from_compact_eight : (node : ℕ) (out : List ℕ)
      → (from_compact_call t s node out ≡ refused 8 0)
      ↔ ((ladder (read_rungs t s node) (tt {0}) ≡ accepted (tt {0}))
      × ((v : List Bool) → length v ≡ bits (type_at t node) → Begins (compact (type_at t node) v) (rest_of s) → ⊥))
  from_compact_eight node out =
      reads_eight (read_rungs t s node) s (compact_in t s node) out refl (compact_early_exact (type_at t node) (rest_of s))

  pub from_padded_eight : (node : ℕ) (out : List ℕ)
      → (from_padded_call t s node out ≡ refused 8 0)
      ↔ ((ladder (read_rungs t s node) (tt {0}) ≡ accepted (tt {0}))
      × ((v : List Bool) → length v ≡ bits (type_at t node) → Begins v (rest_of s) → ⊥))
  from_padded_eight node out =
      reads_eight (read_rungs t s node) s (padded_in t s node) out refl (padded_early_exact (type_at t node) (rest_of s))

  pub word_read_eight : (n node : ℕ) (out : List ℕ)
      → (word_read_call t s n node out ≡ refused 8 0)
      ↔ ((ladder (word_read_rungs t s n node) (tt {0}) ≡ accepted (tt {0}))
      × ((v : List Bool) → length v ≡ bits (type_at t node) → Begins v (rest_of s) → ⊥))
  word_read_eight n node out =
      reads_eight (word_read_rungs t s n node) s (padded_in t s node) out refl (padded_early_exact (type_at t node) (rest_of s))
