-- A compact reading that begins at a bit of a list of bits, piece by piece.
--
--   under                           a record of a sum: the tag, zero padding, the payload
--   decode_short decode_run         without padding: as many bits as the type is wide, or an early end
--   decode_none decode_tagged       a sum: no bit is left; or a tag, and the payload that follows it
--   decode_first_early decode_both  a product: the first part ends early; or the second follows the first
-- Assumes nothing.
use mathlib.Core.Path.{◌≡◌, sym, ap, ap₂, ◌∙◌}
use mathlib.Core.Bool.{Bool, true, false, cond}
use mathlib.Core.List.{List, ◌∷◌, ◌++◌}
use Prim.Native.Nat.{ℕ, ◌+◌, ◌-◌, ◌≤◌, ◌<◌}
use native.Mathlib.Numerals.{add-one}
use native.Mathlib.Omega.{arith}
use lib.ListN.{length, take, drop, get_or, length-drop, drop_of_length-le}
use lib.Seq.{drop-drop, drop-cons}
use borrow.Author.Tests.{le-leb, lt-leb}
use lib.Dec.{leb}
use Rattle.meaning.specs.Types.{Ty, sum, prod, bits, width, padded, top}
use Rattle.meaning.specs.Tables.{Table, ty_at}
use Rattle.meaning.specs.Bits.{zeros}
use Rattle.meaning.specs.Records.{pad_left, pad_right, in_left, in_right}
use Rattle.meaning.specs.Codecs.{Decoded, early, decoded, under_tag, after_first, both_parts, decode_compact, decode_padded}
use Rattle.meaning.proofs.Records.{bits_sum}
use Rattle.meaning.proofs.Tests.{cond_true, cond_false}
use Rattle.laws.proofs.CodecReaders.{unpadded_same_reading}
use Rattle.tables.specs.declared.Kind.{Kind}
use Rattle.nodes.specs.declared.Node.{Node}
use Rattle.nodes.specs.declared.Side.{Side}
use Rattle.nodes.specs.Reading.{side_of}
use Rattle.codec_laws.proofs.Nodes.{NodeRead, own_width, low, is_sum_lem, is-prod, side}

-- A record of a sum: the tag, zero padding, the payload.
abbrev pub under : Bool → ℕ → List Bool → List Bool
under c k p = c ∷ (zeros k ++ p)

decode_sum : (whole a b : Ty) (s : List Bool) (at : ℕ) → whole ≡ sum a b → at < length s
    → decode_compact whole (drop at s)
    ≡ cond (get_or s at false) (under_tag (in_right a b) (decode_compact b (drop (at + 1) s))) (under_tag (in_left a b) (decode_compact a (drop (at + 1) s)))
unfolding decode_compact
decode_sum whole a b s at e l =
    ap₂ decode_compact e (drop-cons s at false l)
    ∙ ap (λ (k : ℕ). cond (get_or s at false) (under_tag (in_right a b) (decode_compact b (drop k s))) (under_tag (in_left a b) (decode_compact a (drop k s))))
    (sym (add-one at))

decode_nothing : (whole a b : Ty) (s : List Bool) (at : ℕ) → whole ≡ sum a b → length s ≤ at → decode_compact whole (drop at s) ≡ early
unfolding decode_compact
decode_nothing whole a b s at e l = ap₂ decode_compact e (drop_of_length-le s l)

decode_prod : (whole a b : Ty) (s : List Bool) (at : ℕ) (d : Decoded) → whole ≡ prod a b → decode_compact a (drop at s) ≡ d
    → decode_compact whole (drop at s) ≡ both_parts d (λ n. decode_compact b (drop n (drop at s)))
unfolding decode_compact
decode_prod whole a b s at d e f =
    ap (λ (x : Ty). decode_compact x (drop at s)) e ∙ ap (λ (x : Decoded). both_parts x (λ n. decode_compact b (drop n (drop at s)))) f

decode_unpadded : (t : Ty) (s : List Bool) → padded t ≡ false → width t < top
    → decode_compact t s ≡ cond (leb (bits t) (length s)) (decoded (take (bits t) s) (bits t)) early
unfolding decode_padded
decode_unpadded t s p l = unpadded_same_reading t s p l

-- Of a node that was read, in the bits s from bit `at` on.
module _ {t : Table} {n : ℕ} {r : Node} (h : NodeRead t n r) (s : List Bool) (at : ℕ) where
  -- What is read at the node.
  abbrev read : Decoded
  read = decode_compact (ty_at t.columns n) (drop at s)

  pub decode_short : r.padded ≡ false → length s - at < r.width → decode_compact (ty_at t.columns n) (drop at s) ≡ early
  decode_short p l =
      let w = bits (ty_at t.columns n) in
      decode_unpadded (ty_at t.columns n) (drop at s) (sym h.reads.padded_is ∙ p) (low h)
      ∙ cond_false (leb w (length (drop at s))) (decoded (take w (drop at s)) w) early
      (lt-leb w (length (drop at s)) (omega (arith, own_width h, length-drop at s)))

  pub decode_run : r.padded ≡ false → r.width ≤ length s - at
      → decode_compact (ty_at t.columns n) (drop at s) ≡ decoded (take r.width (drop at s)) r.width
  decode_run p l =
      let w = bits (ty_at t.columns n) in
      decode_unpadded (ty_at t.columns n) (drop at s) (sym h.reads.padded_is ∙ p) (low h)
      ∙ cond_true (leb w (length (drop at s))) (decoded (take w (drop at s)) w) early
      (le-leb w (length (drop at s)) (omega (arith, own_width h, length-drop at s)))
      ∙ ap (λ (k : ℕ). decoded (take k (drop at s)) k) (sym (own_width h))

  pub decode_none : r.kind ≡ Kind.Sum → length s ≤ at → decode_compact (ty_at t.columns n) (drop at s) ≡ early
  decode_none k l = decode_nothing (ty_at t.columns n) (ty_at t.columns r.left) (ty_at t.columns r.right) s at (is_sum_lem h k) l

  module _ (p : r.padded ≡ true) where
    -- The reading after a tag, if the tag takes that side.
    abbrev after_tag : Bool → Side → Decoded
    after_tag c x = under_tag (under c (r.width - x.width - 1)) (decode_compact (ty_at t.columns x.node) (drop (at + 1) s))

    either_tagged : r.kind ≡ Kind.Sum → at < length s → (c : Bool) → get_or s at false ≡ c → read ≡ after_tag c (side_of c r)
    either_tagged k l true e =
        let a = ty_at t.columns r.left in
        let b = ty_at t.columns r.right in
        let f = is_sum_lem h k in
        let j : pad_right a b ≡ r.width - r.right_width - 1 =
        omega (arith, own_width h, (side h p true).wide, ap bits f, bits_sum a b) in
        decode_sum (ty_at t.columns n) a b s at f l
        ∙ cond_true (get_or s at false) (under_tag (in_right a b) (decode_compact b (drop (at + 1) s)))
        (under_tag (in_left a b) (decode_compact a (drop (at + 1) s)))
        e
        ∙ ap (λ (i : ℕ). under_tag (under true i) (decode_compact b (drop (at + 1) s))) j
    either_tagged k l false e =
        let a = ty_at t.columns r.left in
        let b = ty_at t.columns r.right in
        let f = is_sum_lem h k in
        let j : pad_left a b ≡ r.width - r.left_width - 1 =
        omega (arith, own_width h, (side h p false).wide, ap bits f, bits_sum a b) in
        decode_sum (ty_at t.columns n) a b s at f l
        ∙ cond_false (get_or s at false) (under_tag (in_right a b) (decode_compact b (drop (at + 1) s)))
        (under_tag (in_left a b) (decode_compact a (drop (at + 1) s)))
        e
        ∙ ap (λ (i : ℕ). under_tag (under false i) (decode_compact a (drop (at + 1) s))) j

    pub decode_tagged : r.kind ≡ Kind.Sum → at < length s → {x : Side} {c : Bool} → x ≡ side_of c r → c ≡ get_or s at false
        → decode_compact (ty_at t.columns n) (drop at s)
        ≡ under_tag (under c (r.width - x.width - 1)) (decode_compact (ty_at t.columns x.node) (drop (at + 1) s))
    decode_tagged k l {c = c} f e = either_tagged k l c (sym e) ∙ ap (after_tag c) (sym f)

    pub decode_first_early : (r.kind ≡ Kind.Sum → ⊥) → decode_compact (ty_at t.columns r.left) (drop at s) ≡ early
        → decode_compact (ty_at t.columns n) (drop at s) ≡ early
    decode_first_early k e =
        decode_prod (ty_at t.columns n) (ty_at t.columns r.left) (ty_at t.columns r.right) s at early (is-prod h p k) e

    pub decode_both : (r.kind ≡ Kind.Sum → ⊥) → {v : List Bool} {m : ℕ} → decode_compact (ty_at t.columns r.left) (drop at s) ≡ decoded v m
        → decode_compact (ty_at t.columns n) (drop at s)
        ≡ after_first v m (decode_compact (ty_at t.columns r.right) (drop (at + m) s))
    decode_both k {v = v} {m = m} e =
        decode_prod (ty_at t.columns n) (ty_at t.columns r.left) (ty_at t.columns r.right) s at (decoded v m) (is-prod h p k) e
        ∙ ap (λ (x : List Bool). after_first v m (decode_compact (ty_at t.columns r.right) x)) (drop-drop m at s)
