-- `codec_judging::judge_compact` meets its contract: where the reading at a node ends, by the node's kind and by where its pieces end. Assumes
-- nothing.
use mathlib.Core.Path.{◌≡◌, sym, ap, ◌∙◌}
use mathlib.Core.Bool.{Bool, true, false, not}
use mathlib.Core.List.{List}
use Prim.Native.Nat.{ℕ, ◌+◌, ◌-◌, ◌*◌, ◌<◌, ◌≤◌}
use native.Mathlib.Omega.{arith}
use borrow.Author.Tests.{not-true, not-false}
use lib.ListN.{length, take, drop, get_or, length-drop}
use lib.Seq.{length-take-le, get_or-take}
use Rattle.std.specs.Prelude.{Option, Some, None}
use Rattle.meaning.specs.Tables.{Table, ty_at}
use Rattle.meaning.specs.Bits.{bits_of}
use Rattle.meaning.specs.Codecs.{Decoded, decoded_record, consumed, decode_compact}
use Rattle.bits.proofs.OfBytes.{length_bits_of}
use Rattle.laws.proofs.CodecRoundTrips.{compact_read_write}
use Rattle.tables.specs.declared.Kind.{Kind}
use Rattle.nodes.specs.declared.Node.{Node}
use Rattle.nodes.specs.declared.Side.{Side}
use Rattle.nodes.specs.Reading.{Reads, side_of}
use Rattle.checked.specs.Passed.{Named}
use Rattle.checked.proofs.Nodes.{SideRead}
use Rattle.codec_laws.proofs.Nodes.{NodeRead, Taken, side, taken}
use Rattle.codec_laws.proofs.Streams.{under, decode_short, decode_run, decode_none, decode_tagged, decode_first_early, decode_both}
use Rattle.codec_judging.specs.Ends.{end_of}
use Rattle.codec_judging.proofs.Ends.{EndsAt, end_tagged, end_after, end_at, end_early}
use Rattle.codec_judging.proofs.+judge_compact.Goals as goal

-- The bits of a stream up to its end.
abbrev stream : List ℕ → ℕ → List Bool
stream x until = take until (bits_of x)

-- What is read at a node of a table, from a bit of a stream on.
abbrev reading : Table → ℕ → List ℕ → ℕ → ℕ → Decoded
reading t n x until at = decode_compact (ty_at t.columns n) (drop at (stream x until))

-- What a call asks: a node within the limits, and a bit of a stream that lies within the bytes.
abbrev Asked : Table → ℕ → List ℕ → ℕ → ℕ → Type 0
Asked t n x until at = record { named : Named t n; at_le_until : (at ≤ until) × (until ≤ 8 * length x) }

-- At a node that was read.
module _ {t : Table} {n : ℕ} {r : Node} (x : List ℕ) {until at : ℕ} (w : Asked t n x until at) (e : Reads t n r) where
  here : NodeRead t n r
  here = record { named = w.named; reads = e }

  stream_length : length (stream x until) ≡ until
  stream_length = length-take-le until (bits_of x) (omega (arith, w.at_le_until.1, length_bits_of x))

  ends : {d : Decoded} → reading t n x until at ≡ d → end_of at d ≡ end_of at (reading t n x until at)
  ends f = ap (end_of at) (sym f)

  -- A node without padding.
  ends_short : not r.padded ≡ true → until - at < r.width → None ≡ end_of at (reading t n x until at)
  ends_short p l = ends (decode_short here (stream x until) at (not-true r.padded p) (omega (arith, stream_length)))

  ends_run : not r.padded ≡ true → r.width ≤ until - at → Some (at + r.width) ≡ end_of at (reading t n x until at)
  ends_run p l = ends (decode_run here (stream x until) at (not-true r.padded p) (omega (arith, stream_length)))

  -- A sum: where the stream has no tag; and the side that the tag takes.
  ends_none : r.kind ≡ Kind.Sum → at ≡ until → None ≡ end_of at (reading t n x until at)
  ends_none k l = ends (decode_none here (stream x until) at k (omega (arith, stream_length)))

  module _ {s : Side} {g : Bool} (p : not r.padded ≡ false) (k : r.kind ≡ Kind.Sum) (b : g ≡ get_or (bits_of x) at false) (f : s ≡ side_of g r) where
    goes_on : Taken t n r s
    goes_on = taken here (not-false r.padded p) k g f

    ends_tagged : (at ≡ until → ⊥) → {end : Option ℕ} → end ≡ end_of (at + 1) (reading t s.node x until (at + 1))
        → end ≡ end_of at (reading t n x until at)
    ends_tagged h q =
        let more : at < until = omega (arith, w.at_le_until.0) in
        q
        ∙ end_tagged at (under g (r.width - s.width - 1)) (reading t s.node x until (at + 1))
        ∙ ends
        (decode_tagged here (stream x until) at (not-false r.padded p) k (omega (arith, stream_length)) f
        (b ∙ sym (get_or-take until (bits_of x) at false more)))

  -- A product: where its first part ends early; and where it ends at a bit, within the stream, from which the second is read.
  module _ (p : not r.padded ≡ false) (k : r.kind ≡ Kind.Sum → ⊥) where
    half : (g : Bool) → SideRead t n r g
    half = side here (not-false r.padded p)

    ends_first : None ≡ end_of at (reading t r.left x until at) → None ≡ end_of at (reading t n x until at)
    ends_first q =
        ends (decode_first_early here (stream x until) at (not-false r.padded p) k (end_early at (reading t r.left x until at) q))

    module _ {next : ℕ} (q : Some next ≡ end_of at (reading t r.left x until at)) where
      ended : EndsAt at next (reading t r.left x until at)
      ended = end_at at next (reading t r.left x until at) q

      within : next ≤ until
      within =
          let first = reading t r.left x until at in
          let rest = drop at (stream x until) in
          omega (
            arith,
            (compact_read_write (ty_at t.columns r.left) rest (decoded_record first) (consumed first) ended.whole).enough,
            length-drop at (stream x until),
            stream_length,
            ended.ends,
            w.at_le_until.0,
          )

      ends_both : {end : Option ℕ} → end ≡ end_of next (reading t r.right x until next) → end ≡ end_of at (reading t n x until at)
      ends_both f =
          let first = reading t r.left x until at in
          f
          ∙ ap (λ (i : ℕ). end_of i (reading t r.right x until i)) ended.ends
          ∙ end_after at (decoded_record first) (consumed first) (reading t r.right x until (at + consumed first))
          ∙ ends (decode_both here (stream x until) at (not-false r.padded p) k ended.whole)

pub returns-then-until-at : goal.returns-then-until-at
returns-then-until-at t c = ends_short c.args.src.now c.requires c.node-n.ensures c.if-not-n.true c.if-until-at.true

pub returns-then-not-n : goal.returns-then-not-n
returns-then-not-n t c = ends_run c.args.src.now c.requires c.node-n.ensures c.if-not-n.true c.if-until-at.false

pub returns-then-at-until : goal.returns-then-at-until
returns-then-at-until t c = ends_none c.args.src.now c.requires c.node-n.ensures c.in-Sum.is c.if-at-until.true

pub judge_compact-requires : goal.judge_compact-requires
judge_compact-requires t c =
    let w = goes_on c.args.src.now c.requires c.node-n.ensures c.if-not-n.false c.in-Sum.is c.bit_at.ensures c.side-side.ensures in
    let i = c.requires.at_le_until in
    (omega arith, (w.named, (omega (arith, i.0, c.if-at-until.false), i.1)))

pub returns-else-at-until : goal.returns-else-at-until
returns-else-at-until t c =
    ends_tagged c.args.src.now c.requires c.node-n.ensures c.if-not-n.false c.in-Sum.is c.bit_at.ensures c.side-side.ensures c.if-at-until.false
    c.judge_compact.ensures

pub judge_compact-requires-in_default : goal.judge_compact-requires-in_default
judge_compact-requires-in_default t c =
    let w = half c.args.src.now c.requires c.node-n.ensures c.if-not-n.false c.in_default.not-Sum false in
    (omega arith, (w.named, c.requires.at_le_until))

pub returns-in_err-next-in_default : goal.returns-in_err-next-in_default
returns-in_err-next-in_default t c =
    c.from_residual.ensures
    ∙ ends_first c.args.src.now c.requires c.node-n.ensures c.if-not-n.false c.in_default.not-Sum c.in_err-next-in_default.ensures

pub judge_compact-requires-in_default-2 : goal.judge_compact-requires-in_default-2
judge_compact-requires-in_default-2 t c =
    let w = half c.args.src.now c.requires c.node-n.ensures c.if-not-n.false c.in_default.not-Sum true in (
      omega arith,
      (
        w.named,
        (
          within c.args.src.now c.requires c.node-n.ensures c.if-not-n.false c.in_default.not-Sum c.in_ok-next-in_default.ensures,
          c.requires.at_le_until.1,
        ),
      ),
    )

pub returns-in_ok-next-in_default : goal.returns-in_ok-next-in_default
returns-in_ok-next-in_default t c =
    ends_both c.args.src.now c.requires c.node-n.ensures c.if-not-n.false c.in_default.not-Sum c.in_ok-next-in_default.ensures
    c.judge_compact-in_default-2.ensures
