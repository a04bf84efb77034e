-- `codec_decoding::read_compact` meets its contract: what a node says of the reading there, of its pieces, and of the room for them. Assumes
-- nothing.
use mathlib.Core.Path.{◌≡◌, refl, sym, ap, ◌∙◌, subst}
use mathlib.Core.Bool.{Bool, true, false, not}
use mathlib.Core.List.{List}
use Prim.Native.Nat.{ℕ, ◌+◌, ◌-◌, ◌*◌, ◌<◌, ◌≤◌}
use native.Mathlib.Omega.{arith}
use borrow.Author.Tests.{not-true, not-false}
use lib.ListN.{length, take, drop, get_or, length-drop}
use Rattle.meaning.specs.Types.{bits}
use Rattle.meaning.specs.Tables.{Table, ty_at}
use Rattle.meaning.specs.Bits.{bits_of}
use Rattle.meaning.specs.Codecs.{Decoded, decoded, after_first, decode_compact, is_early, decoded_record, consumed}
use Rattle.bits.specs.Runs.{Run}
use Rattle.bits.proofs.OfBytes.{length_bits_of}
use Rattle.laws.proofs.CodecRoundTrips.{compact_read_write}
use Rattle.tables.specs.declared.Kind.{Kind}
use Rattle.nodes.specs.declared.Node.{Node}
use Rattle.nodes.specs.declared.Side.{Side}
use Rattle.nodes.specs.Reading.{Reads, side_of}
use Rattle.checked.specs.Passed.{Named}
use Rattle.checked.proofs.Nodes.{SideRead}
use Rattle.codec_laws.proofs.Nodes.{NodeRead, Taken, own_width, side, taken, first_run, second_run}
use Rattle.codec_laws.proofs.Writing.{run_as, run_kept}
use Rattle.codec_laws.proofs.Streams.{decode_run, decode_tagged, decode_both}
use Rattle.codec_laws.proofs.Readings.{whole, run_enough, tag_enough, first_whole, Tagged, tagged_whole, Joined, joined_whole, read_run, read_tag, read_both}
use Rattle.codec_decoding.proofs.+read_compact.Goals as goal

-- What is read at a node of a table, from a bit of bytes on.
abbrev reading : Table → ℕ → List ℕ → ℕ → Decoded
reading t n x at = decode_compact (ty_at t.columns n) (drop at (bits_of x))

-- What a call asks: a node within the limits, a whole reading there that lies within the bytes, and room for its record.
abbrev Asked : Table → ℕ → List ℕ → ℕ → List ℕ → ℕ → Type 0
Asked t n x at y to = record {
  named : Named t n;
  src_value : is_early (reading t n x at) ≡ false;
  run : Run x at (consumed (reading t n x at));
  run_2 : Run y to (bits (ty_at t.columns n));
}

-- A node without padding: it is as wide as what is read, and as the room for it.
record Single (t : Table) (n : ℕ) (r : Node) (x : List ℕ) (at : ℕ) (y : List ℕ) (to : ℕ) : Type 0 where
  pub source : Run x at r.width
  pub place : Run y to r.width
  pub enough : r.width ≤ length (drop at (bits_of x))
  pub run : reading t n x at ≡ decoded (take r.width (drop at (bits_of x))) r.width

-- A sum: the side that the tag takes, what is read there, and where it goes.
record Payload (t : Table) (n : ℕ) (r : Node) (x : List ℕ) (at : ℕ) (y : List ℕ) (to : ℕ) (s : Side) (g : Bool) : Type 0 where
  pub goes_on : Taken t n r s
  pub pieces : Tagged (reading t n x at) (reading t s.node x (at + 1)) g (r.width - s.width - 1)
  pub room : to + 1 + (r.width - s.width - 1) + bits (ty_at t.columns s.node) ≡ to + bits (ty_at t.columns n)

-- A product: its parts, what is read of them, and where they go. The second part is read from the bit `next` on.
record Parts (t : Table) (n : ℕ) (r : Node) (x : List ℕ) (at : ℕ) (y : List ℕ) (to : ℕ) : Type 0 where
  pub first : SideRead t n r false
  pub second : SideRead t n r true
  pub front_whole : is_early (reading t r.left x at) ≡ false
  pub front_wide : r.left_width ≡ length (decoded_record (reading t r.left x at))
  pub front_room : Run y to (bits (ty_at t.columns r.left))
  pub back_room : Run y (to + r.left_width) (bits (ty_at t.columns r.right))
  pub joined : (next : ℕ) → next ≡ at + consumed (reading t r.left x at)
      → Joined (reading t n x at) (decoded_record (reading t r.left x at)) (consumed (reading t r.left x at)) (reading t r.right x next)

-- At a node that was read.
module _ {t : Table} {n : ℕ} {r : Node} {x : List ℕ} {at : ℕ} {y : List ℕ} {to : ℕ} (w : Asked t n x at y to) (e : Reads t n r) where
  here : NodeRead t n r
  here = record { named = w.named; reads = e }

  single : not r.padded ≡ true → Single t n r x at y to
  single p =
      let u = not-true r.padded p in
      let enough = run_enough here (bits_of x) at w.src_value u in
      let run = decode_run here (bits_of x) at u enough in
      record {
        source = run_as (sym (ap consumed run)) w.run;
        place = run_as (own_width here) w.run_2;
        enough = omega (arith, length-drop at (bits_of x));
        run = run;
      }

  tag_inside : r.kind ≡ Kind.Sum → at < 8 * length x
  tag_inside k = omega (arith, tag_enough here (bits_of x) at w.src_value k, length_bits_of x)

  payload : {s : Side} {g : Bool} → not r.padded ≡ false → r.kind ≡ Kind.Sum → g ≡ get_or (bits_of x) at false → s ≡ side_of g r
      → Payload t n r x at y to s g
  payload {s} {g} p k b f =
      let u = not-false r.padded p in
      let side : Taken t n r s = taken here u k g f in
      record {
        goes_on = side;
        pieces =
            tagged_whole (reading t s.node x (at + 1))
            (decode_tagged here (bits_of x) at u k (tag_enough here (bits_of x) at w.src_value k) f b)
            w.src_value;
        room = omega (arith, own_width here, side.room, side.wide);
      }

  parts : not r.padded ≡ false → (r.kind ≡ Kind.Sum → ⊥) → Parts t n r x at y to
  parts p k =
      let u = not-false r.padded p in
      let front = reading t r.left x at in
      let h : is_early front ≡ false = first_whole here (bits_of x) at w.src_value u k in
      let read : front ≡ decoded (decoded_record front) (consumed front) = whole h in
      let one : SideRead t n r false = side here u false in
      record {
        first = one;
        second = side here u true;
        front_whole = h;
        front_wide =
            one.wide
            ∙ sym (compact_read_write (ty_at t.columns r.left) (drop at (bits_of x)) (decoded_record front) (consumed front) read).as_wide;
        front_room = first_run here w.run_2 u;
        back_room = second_run here w.run_2 u k;
        joined =
            λ next l.
            joined_whole (reading t r.right x next)
            (subst (λ (i : ℕ). reading t n x at ≡ after_first (decoded_record front) (consumed front) (reading t r.right x i)) (sym l)
            (decode_both here (bits_of x) at u k read))
            w.src_value;
      }

pub copy_bits-requires-clause-run : goal.copy_bits-requires-clause-run
copy_bits-requires-clause-run t c =
    (single c.requires c.node-n.ensures c.if-not-n.true).source

pub copy_bits-requires-clause-run_2 : goal.copy_bits-requires-clause-run_2
copy_bits-requires-clause-run_2 t c =
    (single c.requires c.node-n.ensures c.if-not-n.true).place

pub overflow_add-result : goal.overflow_add-result
overflow_add-result t c =
    let w = single c.requires c.node-n.ensures c.if-not-n.true in record { fits = omega arith }

pub returns-then-not-n : goal.returns-then-not-n
returns-then-not-n t c =
    let w = single c.requires c.node-n.ensures c.if-not-n.true in
    read_run (drop c.args.at (bits_of c.args.src.now)) w.run w.enough c.copy_bits.ensures

pub bit_at-right-requires : goal.bit_at-right-requires
bit_at-right-requires t c =
    tag_inside c.requires c.node-n.ensures c.in-Sum.is

pub overflow_sub-pad : goal.overflow_sub-pad
overflow_sub-pad t c =
    let w = payload c.requires c.node-n.ensures c.if-not-n.false c.in-Sum.is c.bit_at-right.ensures c.side-side.ensures in
    omega arith

pub overflow_sub-pad-in-Sum : goal.overflow_sub-pad-in-Sum
overflow_sub-pad-in-Sum t c =
    let w = payload c.requires c.node-n.ensures c.if-not-n.false c.in-Sum.is c.bit_at-right.ensures c.side-side.ensures in
    omega arith

pub put_bit-requires : goal.put_bit-requires
put_bit-requires t c =
    let w = payload c.requires c.node-n.ensures c.if-not-n.false c.in-Sum.is c.bit_at-right.ensures c.side-side.ensures in
    omega arith

pub overflow_add-to : goal.overflow_add-to
overflow_add-to t c =
    let w = payload c.requires c.node-n.ensures c.if-not-n.false c.in-Sum.is c.bit_at-right.ensures c.side-side.ensures in
    record { fits = omega arith }

pub clear_bits-requires : goal.clear_bits-requires
clear_bits-requires t c =
    let w = payload c.requires c.node-n.ensures c.if-not-n.false c.in-Sum.is c.bit_at-right.ensures c.side-side.ensures in
    record { inside = omega (arith, c.put_bit.auto.d); counted = omega arith }

pub overflow_add-at : goal.overflow_add-at
overflow_add-at t c =
    let w = payload c.requires c.node-n.ensures c.if-not-n.false c.in-Sum.is c.bit_at-right.ensures c.side-side.ensures in
    record { fits = omega arith }

pub overflow_add-to-in-Sum : goal.overflow_add-to-in-Sum
overflow_add-to-in-Sum t c =
    let w = payload c.requires c.node-n.ensures c.if-not-n.false c.in-Sum.is c.bit_at-right.ensures c.side-side.ensures in
    record { fits = omega arith }

pub overflow_add-to-in-Sum-2 : goal.overflow_add-to-in-Sum-2
overflow_add-to-in-Sum-2 t c =
    let w = payload c.requires c.node-n.ensures c.if-not-n.false c.in-Sum.is c.bit_at-right.ensures c.side-side.ensures in
    record { fits = omega arith }

pub read_compact-requires : goal.read_compact-requires
read_compact-requires t c =
    let w = payload c.requires c.node-n.ensures c.if-not-n.false c.in-Sum.is c.bit_at-right.ensures c.side-side.ensures in
    let l : length c.clear_bits.new.dst ≡ length c.args.out.now = c.clear_bits.auto.dst ∙ c.put_bit.auto.d in (
      omega arith,
      (
        w.goes_on.named,
        (
          w.pieces.payload_whole,
          (record { inside = omega arith; counted = omega arith }, record { inside = omega arith; counted = omega arith }),
        ),
      ),
    )

pub returns-in-Sum : goal.returns-in-Sum
returns-in-Sum t c =
    let w = payload c.requires c.node-n.ensures c.if-not-n.false c.in-Sum.is c.bit_at-right.ensures c.side-side.ensures in
    read_tag c.put_bit.new.d w.pieces (omega (arith, length_bits_of c.args.out.now))
    (omega (arith, c.put_bit.auto.d, length_bits_of c.put_bit.new.d))
    c.put_bit.ensures
    c.clear_bits.ensures
    c.read_compact.ensures

pub overflow_add-second : goal.overflow_add-second
overflow_add-second t c =
    let w = parts c.requires c.node-n.ensures c.if-not-n.false c.in_default.not-Sum in
    record { fits = omega arith }

pub read_compact-next-requires : goal.read_compact-next-requires
read_compact-next-requires t c =
    let w = parts c.requires c.node-n.ensures c.if-not-n.false c.in_default.not-Sum in
    let g = w.joined _ refl in (
      omega arith,
      (
        w.first.named,
        (w.front_whole, (record { inside = omega arith; counted = omega arith }, w.front_room)),
      ),
    )

pub read_compact-requires-in_default : goal.read_compact-requires-in_default
read_compact-requires-in_default t c =
    let w = parts c.requires c.node-n.ensures c.if-not-n.false c.in_default.not-Sum in
    let g = w.joined c.read_compact-next.result c.read_compact-next.ensures.consumes in (
      omega arith,
      (
        w.second.named,
        (
          g.second_whole,
          (record { inside = omega arith; counted = omega arith }, run_kept c.read_compact-next.auto.out w.back_room),
        ),
      ),
    )

pub returns-in_default : goal.returns-in_default
returns-in_default t c =
    let w = parts c.requires c.node-n.ensures c.if-not-n.false c.in_default.not-Sum in
    let front = c.read_compact-next in
    read_both (w.joined front.result front.ensures.consumes) (omega (arith, length_bits_of c.args.out.now))
    (ap (λ (k : ℕ). c.args.to + k) w.front_wide)
    front.ensures
    c.read_compact-in_default.ensures
