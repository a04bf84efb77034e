-- Which readings and writings there can be, and where the two codecs agree.
--
--   CompactReader PaddedReader          a reader that accepts only what is there and refuses only where no record begins the stream
--   compact_reader padded_reader        compact and padded reading are such readers
--   only_compact_reader only_padded_reader      and there is no other
--   only_compact_writer                 bits that are read back whole to a record with zero padding are its compact bits
--   refusing_all_excluded               a reader that refuses everything is none: each type has a stream that is accepted
--   unpadded_same_reading               no padding, below the end of the numbers: both readings are the same
-- That both writings are then the same is `unpadded_compact` of meaning. Assumes nothing.
use mathlib.Core.Path.{◌≡◌, refl, sym, ap, ◌∙◌}
use mathlib.Core.Bool.{Bool, false}
use mathlib.Core.List.{List, [], ◌++◌, append-nil}
use Prim.Native.Nat.{ℕ, ◌<◌}
use lib.ListN.{length, length-replicate}
use lib.Seq.{take-length}
use Rattle.meaning.specs.Types.{Ty, bits, width, padded, top}
use Rattle.meaning.specs.Bits.{zeros}
use Rattle.meaning.specs.Records.{compact, plain}
use Rattle.meaning.specs.Codecs.{Decoded, early, decoded, decode_compact, decode_padded}
use Rattle.meaning.proofs.Records.{unpadded_compact}
use Rattle.laws.proofs.RecordPlain.{compact_plain}
use Rattle.laws.proofs.RecordPadding.{unpadded_plain}
use Rattle.laws.proofs.RecordPrefixes.{Begins}
use Rattle.laws.proofs.CodecRoundTrips.{CompactRead, PaddedRead, compact_read_write, padded_read_write}
use Rattle.laws.proofs.CodecExact.{compact_accepts, padded_accepts, compact_early_exact, padded_early_exact}

-- A reader whose accepted answers are read from the stream's own beginning, and that answers 8 only where no record of the type has
-- compact bits that begin the stream.
pub record CompactReader (read : Ty → List Bool → Decoded) : Type 0 where
  pub accepts : (t : Ty) (s v : List Bool) (n : ℕ) → read t s ≡ decoded v n → CompactRead t s v n
  pub refuses : (t : Ty) (s : List Bool) → read t s ≡ early → (v : List Bool) → length v ≡ bits t → Begins (compact t v) s → ⊥

-- The same of padded bits.
pub record PaddedReader (read : Ty → List Bool → Decoded) : Type 0 where
  pub accepts : (t : Ty) (s v : List Bool) (n : ℕ) → read t s ≡ decoded v n → PaddedRead t s v n
  pub refuses : (t : Ty) (s : List Bool) → read t s ≡ early → (v : List Bool) → length v ≡ bits t → Begins v s → ⊥

pub compact_reader : CompactReader decode_compact
compact_reader = record { accepts = compact_read_write; refuses = λ t s. (compact_early_exact t s).0 }

pub padded_reader : PaddedReader decode_padded
padded_reader = record { accepts = padded_read_write; refuses = λ t s. (padded_early_exact t s).0 }

pub only_compact_reader : (read : Ty → List Bool → Decoded) → CompactReader read → (t : Ty) (s : List Bool) → read t s ≡ decode_compact t s
only_compact_reader read r t s = go (read t s) refl
  where
    go : (d : Decoded) → read t s ≡ d → read t s ≡ decode_compact t s
    go early e = e ∙ sym ((compact_early_exact t s).1 (r.refuses t s e))
    go (decoded v n) e = e ∙ sym ((compact_accepts t s v n).1 (r.accepts t s v n e))

pub only_padded_reader : (read : Ty → List Bool → Decoded) → PaddedReader read → (t : Ty) (s : List Bool) → read t s ≡ decode_padded t s
only_padded_reader read r t s = go (read t s) refl
  where
    go : (d : Decoded) → read t s ≡ d → read t s ≡ decode_padded t s
    go early e = e ∙ sym ((padded_early_exact t s).1 (r.refuses t s e))
    go (decoded v n) e = e ∙ sym ((padded_accepts t s v n).1 (r.accepts t s v n e))

pub only_compact_writer : (t : Ty) (v w : List Bool) → decode_compact t w ≡ decoded (plain t v) (length w) → w ≡ compact t v
only_compact_writer t v w e =
    sym (take-length w) ∙ sym (compact_read_write t w (plain t v) (length w) e).consumed_bits ∙ compact_plain t v

pub refusing_all_excluded : (read : Ty → List Bool → Decoded) → CompactReader read → (t : Ty) → (s : List Bool) × (read t s ≡ early → ⊥)
refusing_all_excluded read r t =
    let v = zeros (bits t) in
    (compact t v, λ e. r.refuses t (compact t v) e v (length-replicate (bits t) false) ([], append-nil (compact t v)))

pub unpadded_same_reading : (t : Ty) (s : List Bool) → padded t ≡ false → width t < top → decode_compact t s ≡ decode_padded t s
unpadded_same_reading t s h l = go (decode_padded t s) refl
  where
    go : (d : Decoded) → decode_padded t s ≡ d → decode_compact t s ≡ decode_padded t s
    go early e =
        (compact_early_exact t s).1
        (λ v w b. (padded_early_exact t s).0 e v w (b.0, ap (λ (u : List Bool). u ++ b.0) (sym (unpadded_compact t v h l w)) ∙ b.1))
        ∙ sym e
    go (decoded v n) e =
        let r = padded_read_write t s v n e in
        let own = unpadded_compact t v h l r.as_wide in
        (compact_accepts t s v n).1
        (record {
          as_wide = r.as_wide;
          zero_padded = unpadded_plain t v h l r.as_wide;
          consumed_bits = own ∙ r.consumed_bits;
          consumed_count = r.consumed_count ∙ sym r.as_wide ∙ sym (ap length own);
          enough = r.enough;
        })
        ∙ sym e
