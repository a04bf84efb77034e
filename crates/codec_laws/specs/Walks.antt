-- What the walks of the codecs answer.
--
--   Wrote          bits were written from a bit on
--   ReadTo         a record was read and written from a bit on
use Rattle.std.specs.Prelude.{ℕ, ◌+◌, ◌≡◌, Bool, List, length}
use Rattle.std.proofs.Math.Seq.{paste}
use Rattle.meaning.specs.Bits.{bits_of}
use Rattle.meaning.specs.Codecs.{Decoded, decoded_record, consumed}

-- The bits v were written over an output from bit `to` on, and `next` is the bit after them.
pub record Wrote (v : List Bool) (before : List ℕ) (to next : ℕ) (after : List ℕ) : Type 0 where
  pub ends : next ≡ to + length v
  pub writes : bits_of after ≡ paste (bits_of before) to v (length v)

-- A record was read from bit `at` on and written over an output from bit `to` on, and `next` is the bit after what was consumed.
pub record ReadTo (d : Decoded) (at : ℕ) (before : List ℕ) (to next : ℕ) (after : List ℕ) : Type 0 where
  pub consumes : next ≡ at + consumed d
  pub wrote : Wrote (decoded_record d) before to (to + length (decoded_record d)) after
