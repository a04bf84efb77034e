-- Writing and reading undo one another, for both codecs.
--
--   compact_write_read          compact bits are read back to the record with zero padding, and just they are consumed
--   compact_write_read_plain    a record with zero padding comes back bit for bit
--   compact_read_write          what was read, written again, is what was consumed; its padding is zero
--   padded_write_read           padded bits are read back as they are, and just they are consumed
--   padded_read_write           what was read is what was consumed, as many bits as the type is wide
--   CompactRead PaddedRead      that a record was read from so many bits at the beginning of a stream
-- Assumes nothing.
use mathlib.Core.Path.{◌≡◌, refl, sym, ap, ap₂, ◌∙◌, subst}
use mathlib.Core.Bool.{Bool, true, false, cond}
use mathlib.Core.List.{List, [], ◌∷◌, ◌++◌, append_assoc}
use Prim.Native.Nat.{ℕ, suc, ◌+◌, ◌≤◌}
use native.Mathlib.Numerals.{one-add}
use native.Mathlib.Omega.{arith}
use lib.ListN.{length, take, drop, length-append}
use lib.Seq.{take-append_seam, take_at, length-take-le, drop-append_seam, drop-drop}
use lib.Dec.{leb}
use borrow.Author.Tests.{le-leb, leb-true}
use Rattle.meaning.specs.Types.{Ty, unit, sum, prod, bits}
use Rattle.meaning.specs.Records.{tag, left_of, right_of, first_of, second_of, in_left, in_right, compact, plain}
use Rattle.meaning.specs.Codecs.{Decoded, early, decoded, under_tag, after_first, both_parts, decode_compact, decode_padded}
use Rattle.meaning.proofs.Tests.{cond_true}
use Rattle.laws.proofs.RecordParts.{compact_in_left, compact_in_right, plain_in_left, plain_in_right, compact_pair, plain_pair}
use Rattle.laws.proofs.RecordPlain.{plain_length}

pub compact_write_read : (t : Ty) (v s : List Bool) → decode_compact t (compact t v ++ s) ≡ decoded (plain t v) (length (compact t v))
unfolding decode_compact compact plain
compact_write_read unit v s = refl
compact_write_read (sum a b) v s =
    let right = compact b (right_of a b v) in
    let left = compact a (left_of a b v) in
    let right' = in_right a b (plain b (right_of a b v)) in
    let left' = in_left a b (plain a (left_of a b v)) in
    elim (tag v)
    as (λ (c : Bool). decode_compact (sum a b) (cond c (true ∷ right) (false ∷ left) ++ s)
    ≡ decoded (cond c right' left') (length (cond c (true ∷ right) (false ∷ left)))) [
      | true ↦ ap (under_tag (in_right a b)) (compact_write_read b (right_of a b v) s) ∙ ap (decoded right') (one-add (length right))
      | false ↦ ap (under_tag (in_left a b)) (compact_write_read a (left_of a b v) s) ∙ ap (decoded left') (one-add (length left))
    ]
compact_write_read (prod a b) v s =
    let p = compact a (first_of a v) in
    let q = compact b (second_of a v) in
    let first = plain a (first_of a v) in
    ap (decode_compact (prod a b)) (append_assoc p q s)
    ∙ ap (λ (d : Decoded). both_parts d (λ n. decode_compact b (drop n (p ++ (q ++ s))))) (compact_write_read a (first_of a v) (q ++ s))
    ∙ ap (λ (r : List Bool). after_first first (length p) (decode_compact b r)) (drop-append_seam p (q ++ s))
    ∙ ap (after_first first (length p)) (compact_write_read b (second_of a v) s)
    ∙ ap (decoded (first ++ plain b (second_of a v))) (sym (length-append p q))

pub compact_write_read_plain : (t : Ty) (v s : List Bool) → plain t v ≡ v
    → decode_compact t (compact t v ++ s) ≡ decoded v (length (compact t v))
compact_write_read_plain t v s h = compact_write_read t v s ∙ ap (λ (u : List Bool). decoded u (length (compact t v))) h

-- The record v of a type was read from the n compact bits that begin the stream s.
pub record CompactRead (t : Ty) (s v : List Bool) (n : ℕ) : Type 0 where
  pub as_wide : length v ≡ bits t
  pub zero_padded : plain t v ≡ v
  pub consumed_bits : compact t v ≡ take n s
  pub consumed_count : n ≡ length (compact t v)
  pub enough : n ≤ length s

-- What an accepted compact reading says, in the form that the induction hands on.
abbrev ReadBack : Ty → List Bool → Decoded → Type 0
ReadBack t s early = Unit {0}
ReadBack t s (decoded v n) = (plain t v ≡ v) × (compact t v ++ drop n s ≡ s) × (n ≡ length (compact t v))

-- Under a tag, for either side of a sum.
read_back_under : (whole side : Ty) (c : Bool) (wrap : List Bool → List Bool)
    → ((p : List Bool) → compact whole (wrap p) ≡ c ∷ compact side p) → ((p : List Bool) → plain whole (wrap p) ≡ wrap (plain side p))
    → (s : List Bool) (d : Decoded) → ReadBack side s d → ReadBack whole (c ∷ s) (under_tag wrap d)
read_back_under whole side c wrap tags zeroes s early r = tt
read_back_under whole side c wrap tags zeroes s (decoded v n) r = (
  zeroes v ∙ ap wrap r.0,
  ap₂ (λ (u : List Bool) (k : ℕ). u ++ drop k (c ∷ s)) (tags v) (one-add n) ∙ ap (λ (u : List Bool). c ∷ u) r.1,
  one-add n ∙ ap suc r.2 ∙ sym (ap length (tags v)),
)

-- The second part of a product after the first.
read_back_after : (a b : Ty) (s v : List Bool) (n : ℕ) (d : Decoded) → ReadBack a s (decoded v n) → ReadBack b (drop n s) d
    → ReadBack (prod a b) s (after_first v n d)
read_back_after a b s v n early p q = tt
read_back_after a b s v n (decoded w m) p q =
    let wide : length v ≡ bits a = ap length (sym p.0) ∙ plain_length a v in
    let tags = compact_pair a b v w wide in (
      plain_pair a b v w wide ∙ ap₂ ◌++◌ p.0 q.0,
      ap₂ ◌++◌ tags (sym (drop-drop m n s))
          ∙ append_assoc (compact a v) (compact b w) (drop m (drop n s))
          ∙ ap (λ (u : List Bool). compact a v ++ u) q.1
          ∙ p.1,
      ap₂ ◌+◌ p.2 q.2 ∙ sym (length-append (compact a v) (compact b w)) ∙ sym (ap length tags),
    )

-- Both parts of a product, the second read where the first ended.
read_back_both : (a b : Ty) (s : List Bool) (d : Decoded) (second : ℕ → Decoded) → ReadBack a s d → ((n : ℕ) → ReadBack b (drop n s) (second n))
    → ReadBack (prod a b) s (both_parts d second)
read_back_both a b s early second p q = tt
read_back_both a b s (decoded v n) second p q = read_back_after a b s v n (second n) p (q n)

-- Whatever compact reading answers.
read_back : (t : Ty) (s : List Bool) → ReadBack t s (decode_compact t s)
unfolding decode_compact compact plain
read_back unit s = (refl, refl, refl)
read_back (sum a b) [] = tt
read_back (sum a b) (true ∷ s) =
    read_back_under (sum a b) b true (in_right a b) (compact_in_right a b) (plain_in_right a b) s (decode_compact b s) (read_back b s)
read_back (sum a b) (false ∷ s) =
    read_back_under (sum a b) a false (in_left a b) (compact_in_left a b) (plain_in_left a b) s (decode_compact a s) (read_back a s)
read_back (prod a b) s =
    read_back_both a b s (decode_compact a s) (λ n. decode_compact b (drop n s)) (read_back a s) (λ n. read_back b (drop n s))

pub compact_read_write : (t : Ty) (s v : List Bool) (n : ℕ) → decode_compact t s ≡ decoded v n → CompactRead t s v n
compact_read_write t s v n e =
    let r : ReadBack t s (decoded v n) = subst (ReadBack t s) e (read_back t s) in
    record {
      as_wide = ap length (sym r.0) ∙ plain_length t v;
      zero_padded = r.0;
      consumed_bits = sym (take-append_seam (compact t v) (drop n s)) ∙ ap₂ take (sym r.2) r.1;
      consumed_count = r.2;
      enough = omega (arith, ap length r.1, length-append (compact t v) (drop n s));
    }

pub padded_write_read : (t : Ty) (v s : List Bool) → length v ≡ bits t → decode_padded t (v ++ s) ≡ decoded v (bits t)
unfolding decode_padded
padded_write_read t v s h =
    let enough : bits t ≤ length (v ++ s) = omega (arith, length-append v s) in
    cond_true (leb (bits t) (length (v ++ s))) (decoded (take (bits t) (v ++ s)) (bits t)) early (le-leb (bits t) (length (v ++ s)) enough)
    ∙ ap (λ (u : List Bool). decoded u (bits t)) (take_at v s (bits t) h)

-- The record v of a type was read from the n padded bits that begin the stream s.
pub record PaddedRead (t : Ty) (s v : List Bool) (n : ℕ) : Type 0 where
  pub as_wide : length v ≡ bits t
  pub consumed_bits : v ≡ take n s
  pub consumed_count : n ≡ bits t
  pub enough : n ≤ length s

pub padded_read_write : (t : Ty) (s v : List Bool) (n : ℕ) → decode_padded t s ≡ decoded v n → PaddedRead t s v n
unfolding decode_padded
padded_read_write t s v n e = go (leb (bits t) (length s)) refl e
  where
    go : (c : Bool) → leb (bits t) (length s) ≡ c → cond c (decoded (take (bits t) s) (bits t)) early ≡ decoded v n → PaddedRead t s v n
    go true h d =
        let count : bits t ≡ n = cc in
        let taken : take (bits t) s ≡ v = cc in
        let room : bits t ≤ length s = leb-true (bits t) (length s) h in
        record {
          as_wide = sym (ap length taken) ∙ length-take-le (bits t) s room;
          consumed_bits = sym taken ∙ ap (λ (k : ℕ). take k s) count;
          consumed_count = sym count;
          enough = omega arith;
        }
    go false h d = let z : ◌≡◌ {A = ℕ} 0 1 = cc in absurd (omega arith)
