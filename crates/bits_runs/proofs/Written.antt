-- A run of n bits v that is written from bit `at` of the bytes d on: the bits up to the next border of a byte, whole bytes, and what is left.
--
--   first_written          the first bits
--   bytes_written          the whole bytes after them
--   rest_written           the bits after a number of others
use Rattle.std.proofs.Common.{◌≡◌, ◌∙◌, refl, sym, ap, ℕ, ◌+◌, ◌-◌, ◌*◌, ◌/◌, ◌%◌, ◌<◌, ◌≤◌, List, Bool, length, take, drop, arith, length-take, length-drop}
use Rattle.std.proofs.Math.Nat.{le_refl}
use Rattle.std.proofs.Math.Seq.{paste, take-take}
use Rattle.std.proofs.lemmas.Slice.{put_mid-paste}
use borrow.Rule.Slice.PartMut.{put_mid}
use Rattle.meaning.specs.Bits.{bits_of}
use Rattle.meaning.proofs.Pasted.{paste_same, paste_on}
use Rattle.bits.proofs.OfBytes.{length_bits_of}
use Rattle.bits.proofs.Stores.{bits_of_paste}

module _ (d : List ℕ) (v : List Bool) (at n : ℕ) (inside : at + n ≤ 8 * length d) (enough : n ≤ length v) where
  pub first_written : (new w : List Bool) (k : ℕ) → w ≡ take k v → new ≡ paste (bits_of d) at w k → new ≡ paste (bits_of d) at v k
  first_written new w k is after = after ∙ paste_same (bits_of d) w v at k (ap (take k) is ∙ take-take k k v (le_refl k))

  pub rest_written : (mid new w : List Bool) (m k i : ℕ) → m + k ≤ n → mid ≡ paste (bits_of d) at v m
      → w ≡ take k (drop m v) → i ≡ at + m → new ≡ paste mid i w k → new ≡ paste (bits_of d) at v (m + k)
  rest_written mid new w m k i h before is here after =
      paste_on (bits_of d) v w mid new at m i k (omega (arith, length_bits_of d)) (omega arith) before after here
      (ap (take k) is ∙ take-take k k (drop m v) (le_refl k))

  -- The whole bytes are taken from `one`, which holds the first bits, and come back as `part`.
  module _ (one part : List ℕ) (kept : length one ≡ length d) where
    abbrev head : ℕ
    head = 8 - at % 8

    abbrev first : ℕ
    first = at / 8 + 1

    abbrev bytes : ℕ
    bytes = (n - head) / 8

    abbrev taken : List ℕ
    taken = take (first + bytes - first) (drop first one)

    pub length_taken : head < n → length taken ≡ bytes
    length_taken h = omega (arith, length-take (first + bytes - first) (drop first one), length-drop first one)

    pub bytes_written : head < n → length part ≡ length taken → bits_of one ≡ paste (bits_of d) at v head
        → bits_of part ≡ take (8 * length taken) (drop head v)
        → bits_of (put_mid first (first + bytes - first) one part) ≡ paste (bits_of d) at v (head + 8 * bytes)
    bytes_written h len before is =
        let count : bytes ≡ first + bytes - first = omega arith in
        rest_written (bits_of one) (bits_of (put_mid first (first + bytes - first) one part)) (bits_of part) head (8 * bytes) (8 * first)
        (omega arith)
        before
        (is ∙ ap (λ (k : ℕ). take (8 * k) (drop head v)) (length_taken h))
        (omega arith)
        (ap bits_of (put_mid-paste first (first + bytes - first) one part part bytes refl count (sym (len ∙ length_taken h)))
        ∙ bits_of_paste one part first bytes)
