-- When a reading is accepted and when it is refused, and which bits that depends on.
--
--   compact_accepts             compact reading accepts a record and a count exactly if they are as `CompactRead` says
--   padded_accepts              the same of padded reading and `PaddedRead`
--   early_decoded else_early    an early end is no record, and an answer that is no record is an early end
--   early_test decoded_test     the tests by which the calls tell the two apart
--   compact_early_exact         8 is answered exactly if no record of the type has compact bits that begin the stream
--   padded_early_exact          8 is answered exactly if no record of the type begins the stream
--   compact_own_bits padded_own_bits        an accepted reading depends on the bits that it consumed and on no others
--   compact_more_bits padded_more_bits      more bits never change an accepted answer
--   compact_cut_early           a stream that is cut before the end of what was consumed is refused with 8
--   compact_count_most          no more bits are consumed than the type is wide
--   compact_wide_enough         so a stream with as many bits as the type is wide is never refused with 8
-- Assumes nothing.
use mathlib.Core.Path.{◌≡◌, refl, sym, ap, ap₂, ◌∙◌}
use mathlib.Core.Logic.{◌↔◌}
use mathlib.Core.Bool.{Bool, true, false, true≢false, false≢true}
use mathlib.Core.List.{List, [], ◌∷◌, ◌++◌}
use Prim.Native.Nat.{ℕ, ◌+◌, ◌≤◌, ◌<◌}
use native.Mathlib.Omega.{arith}
use lib.ListN.{length, take, drop, take-append-drop, length-take, length-drop}
use lib.Seq.{take-append-le}
use Rattle.meaning.specs.Types.{Ty, unit, sum, prod, bits}
use Rattle.meaning.specs.Records.{in_left, in_right, compact, plain}
use Rattle.meaning.specs.Codecs.{Decoded, early, decoded, under_tag, after_first, both_parts, decode_compact, decode_padded, is_early, decoded_record, consumed}
use Rattle.meaning.proofs.Records.{compact_most}
use Rattle.laws.proofs.CodecRoundTrips.{CompactRead, PaddedRead, compact_read_write, padded_read_write}
use Rattle.laws.proofs.RecordPrefixes.{Begins, begins_taken, compact_begins_read, padded_begins_read}

compact_read_accepted : (t : Ty) (s v : List Bool) (n : ℕ) → CompactRead t s v n → decode_compact t s ≡ decoded v n
compact_read_accepted t s v n r =
    compact_begins_read t v s (begins_taken (compact t v) s n r.consumed_bits) ∙ ap₂ decoded r.zero_padded (sym r.consumed_count)

padded_read_accepted : (t : Ty) (s v : List Bool) (n : ℕ) → PaddedRead t s v n → decode_padded t s ≡ decoded v n
padded_read_accepted t s v n r =
    padded_begins_read t v s r.as_wide (begins_taken v s n r.consumed_bits) ∙ ap (decoded v) (sym r.consumed_count)

pub compact_accepts : (t : Ty) (s v : List Bool) (n : ℕ) → (decode_compact t s ≡ decoded v n) ↔ CompactRead t s v n
compact_accepts t s v n = (compact_read_write t s v n, compact_read_accepted t s v n)

pub padded_accepts : (t : Ty) (s v : List Bool) (n : ℕ) → (decode_padded t s ≡ decoded v n) ↔ PaddedRead t s v n
padded_accepts t s v n = (padded_read_write t s v n, padded_read_accepted t s v n)

pub early_decoded : (d : Decoded) (v : List Bool) (n : ℕ) → d ≡ early → d ≡ decoded v n → ⊥
early_decoded d v n p q = let z : ◌≡◌ {A = ℕ} 0 1 = cc in omega arith

pub else_early : (d : Decoded) → ((v : List Bool) (n : ℕ) → d ≡ decoded v n → ⊥) → d ≡ early
else_early early none = refl
else_early (decoded v n) none = absurd (none v n refl)

pub early_test : (d : Decoded) → (is_early d ≡ true) ↔ (d ≡ early)
early_test early = (λ e. refl, λ e. refl)
early_test (decoded v n) = (λ e. absurd (false≢true e), ap is_early)

pub decoded_test : (d : Decoded) → (is_early d ≡ false) ↔ (d ≡ decoded (decoded_record d) (consumed d))
decoded_test early = (λ e. absurd (true≢false e), ap is_early)
decoded_test (decoded v n) = (λ e. refl, λ e. refl)

pub compact_early_exact : (t : Ty) (s : List Bool)
    → (decode_compact t s ≡ early) ↔ ((v : List Bool) → length v ≡ bits t → Begins (compact t v) s → ⊥)
compact_early_exact t s = (
  λ e v h b. early_decoded (decode_compact t s) (plain t v) (length (compact t v)) e (compact_begins_read t v s b),
  λ none.
      else_early (decode_compact t s)
      (λ v n e. let r = compact_read_write t s v n e in none v r.as_wide (begins_taken (compact t v) s n r.consumed_bits)),
)

pub padded_early_exact : (t : Ty) (s : List Bool) → (decode_padded t s ≡ early) ↔ ((v : List Bool) → length v ≡ bits t → Begins v s → ⊥)
padded_early_exact t s = (
  λ e v h b. early_decoded (decode_padded t s) v (bits t) e (padded_begins_read t v s h b),
  λ none.
      else_early (decode_padded t s)
      (λ v n e. let r = padded_read_write t s v n e in none v r.as_wide (begins_taken v s n r.consumed_bits)),
)

-- Where the first n bits of two streams agree and one has n bits, so has the other.
enough_too : (n : ℕ) (s s' : List Bool) → n ≤ length s → take n s' ≡ take n s → n ≤ length s'
enough_too n s s' h e = omega (arith, ap length e, length-take n s, length-take n s')

pub compact_own_bits : (t : Ty) (s s' v : List Bool) (n : ℕ) → decode_compact t s ≡ decoded v n → take n s' ≡ take n s
    → decode_compact t s' ≡ decoded v n
compact_own_bits t s s' v n e h =
    let r = compact_read_write t s v n e in
    compact_read_accepted t s' v n
    (record {
      as_wide = r.as_wide;
      zero_padded = r.zero_padded;
      consumed_bits = r.consumed_bits ∙ sym h;
      consumed_count = r.consumed_count;
      enough = enough_too n s s' r.enough h;
    })

pub padded_own_bits : (t : Ty) (s s' v : List Bool) (n : ℕ) → decode_padded t s ≡ decoded v n → take n s' ≡ take n s
    → decode_padded t s' ≡ decoded v n
padded_own_bits t s s' v n e h =
    let r = padded_read_write t s v n e in
    padded_read_accepted t s' v n
    (record {
      as_wide = r.as_wide;
      consumed_bits = r.consumed_bits ∙ sym h;
      consumed_count = r.consumed_count;
      enough = enough_too n s s' r.enough h;
    })

pub compact_more_bits : (t : Ty) (s r v : List Bool) (n : ℕ) → decode_compact t s ≡ decoded v n → decode_compact t (s ++ r) ≡ decoded v n
compact_more_bits t s r v n e = compact_own_bits t s (s ++ r) v n e (take-append-le n s r (compact_read_write t s v n e).enough)

pub padded_more_bits : (t : Ty) (s r v : List Bool) (n : ℕ) → decode_padded t s ≡ decoded v n → decode_padded t (s ++ r) ≡ decoded v n
padded_more_bits t s r v n e = padded_own_bits t s (s ++ r) v n e (take-append-le n s r (padded_read_write t s v n e).enough)

same_count : (d : Decoded) (v w : List Bool) (n m : ℕ) → d ≡ decoded v n → d ≡ decoded w m → n ≡ m
same_count d v w n m p q = cc

pub compact_cut_early : (t : Ty) (s v : List Bool) (n k : ℕ) → decode_compact t s ≡ decoded v n → k < n → decode_compact t (take k s) ≡ early
compact_cut_early t s v n k e l =
    else_early (decode_compact t (take k s))
    (λ w m f.
    let whole = ap (decode_compact t) (sym (take-append-drop k s)) ∙ compact_more_bits t (take k s) (drop k s) w m f in
    omega (arith, same_count (decode_compact t s) v w n m e whole, (compact_read_write t (take k s) w m f).enough, length-take k s))

pub compact_count_most : (t : Ty) (s v : List Bool) (n : ℕ) → decode_compact t s ≡ decoded v n → n ≤ bits t
compact_count_most t s v n e = omega (arith, (compact_read_write t s v n e).consumed_count, compact_most t v)

under_early : (wrap : List Bool → List Bool) (d : Decoded) → under_tag wrap d ≡ early → d ≡ early
under_early wrap early e = refl
under_early wrap (decoded v n) e = absurd (early_decoded early (wrap v) (1 + n) refl (sym e))

after_early : (v : List Bool) (n : ℕ) (d : Decoded) → after_first v n d ≡ early → d ≡ early
after_early v n early e = refl
after_early v n (decoded w m) e = absurd (early_decoded early (v ++ w) (n + m) refl (sym e))

-- A product ends early only where one of its parts does.
both_early : (d : Decoded) (second : ℕ → Decoded) → (d ≡ early → ⊥) → ((v : List Bool) (n : ℕ) → d ≡ decoded v n → second n ≡ early → ⊥)
    → both_parts d second ≡ early → ⊥
both_early early second p q e = p refl
both_early (decoded v n) second p q e = q v n refl (after_early v n (second n) e)

pub compact_wide_enough : (t : Ty) (s : List Bool) → bits t ≤ length s → decode_compact t s ≡ early → ⊥
unfolding decode_compact bits
compact_wide_enough unit s h e = early_decoded (decoded [] 0) [] 0 e refl
compact_wide_enough (sum a b) [] h e = omega arith
compact_wide_enough (sum a b) (true ∷ s) h e = compact_wide_enough b s (omega arith) (under_early (in_right a b) (decode_compact b s) e)
compact_wide_enough (sum a b) (false ∷ s) h e = compact_wide_enough a s (omega arith) (under_early (in_left a b) (decode_compact a s) e)
compact_wide_enough (prod a b) s h e =
    both_early (decode_compact a s) (λ n. decode_compact b (drop n s)) (compact_wide_enough a s (omega arith))
    (λ v n f. compact_wide_enough b (drop n s) (omega (arith, compact_count_most a s v n f, length-drop n s)))
    e
