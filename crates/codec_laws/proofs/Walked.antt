-- What a walk over a record in bytes knows at a node that it has read: the pieces of the record, where they lie, and their compact bits.
--
--   packed                    the compact bits of the record of a node at a bit of the bytes
--   OneRun one_run            a node without padding: one run of bits
--   tag_there                 a sum: a tag
--   TagFirst tag_first        after it the payload of the side that the tag takes
--   TwoParts two_parts        a product: its first part, and then its second
-- Assumes nothing.
use mathlib.Core.Path.{◌≡◌, ap}
use mathlib.Core.Bool.{Bool, true, false, not}
use mathlib.Core.List.{List, ◌∷◌, ◌++◌}
use Prim.Native.Nat.{ℕ, ◌+◌, ◌-◌, ◌*◌, ◌≤◌, ◌<◌}
use native.Mathlib.Omega.{arith}
use borrow.Author.Tests.{not-true, not-false}
use lib.ListN.{length, take, drop, get_or, length-append}
use Rattle.meaning.specs.Types.{bits}
use Rattle.meaning.specs.Tables.{Table, ty_at}
use Rattle.meaning.specs.Bits.{bits_of}
use Rattle.meaning.specs.Records.{compact}
use Rattle.meaning.proofs.Records.{compact_most}
use Rattle.tables.specs.declared.Kind.{Kind}
use Rattle.nodes.specs.declared.Node.{Node}
use Rattle.nodes.specs.declared.Side.{Side}
use Rattle.nodes.specs.Reading.{Reads, side_of}
use Rattle.bits.specs.Runs.{Run}
use Rattle.bits.proofs.OfBytes.{length_bits_of}
use Rattle.checked.specs.Passed.{Named}
use Rattle.checked.proofs.Nodes.{SideRead}
use Rattle.codec_laws.proofs.Nodes.{NodeRead, Taken, own_width, side, taken, tag_inside, payload_run, first_run, second_run}
use Rattle.codec_laws.proofs.Pieces.{node_run, node_run_length, node_tagged, node_both}

-- The compact bits of the record of node n at bit `at` of the bytes.
abbrev pub packed : Table → ℕ → List ℕ → ℕ → List Bool
packed t n src at = compact (ty_at t.columns n) (drop at (bits_of src))

-- A node without padding is one run of bits.
pub record OneRun (t : Table) (n : ℕ) (r : Node) (src : List ℕ) (at : ℕ) : Type 0 where
  pub lies : Run src at r.width
  pub bits_are : packed t n src at ≡ take r.width (drop at (bits_of src))
  pub counted : r.width ≡ length (packed t n src at)

-- A sum is a tag and the payload of the side that it takes.
pub record TagFirst (t : Table) (n : ℕ) (r : Node) (src : List ℕ) (at : ℕ) (s : Side) (g : Bool) : Type 0 where
  pub side : Taken t n r s
  pub lies : Run src (at + (r.width - s.width)) (bits (ty_at t.columns s.node))
  pub bits_are : packed t n src at ≡ g ∷ packed t s.node src (at + (r.width - s.width))
  pub counted : length (packed t n src at) ≡ 1 + length (packed t s.node src (at + (r.width - s.width)))
  pub few : length (packed t n src at) ≤ 524288

-- A product is its two parts.
pub record TwoParts (t : Table) (n : ℕ) (r : Node) (src : List ℕ) (at : ℕ) : Type 0 where
  pub first : SideRead t n r false
  pub second : SideRead t n r true
  pub first_lies : Run src at (bits (ty_at t.columns r.left))
  pub second_lies : Run src (at + r.left_width) (bits (ty_at t.columns r.right))
  pub bits_are : packed t n src at ≡ packed t r.left src at ++ packed t r.right src (at + r.left_width)
  pub counted : length (packed t n src at) ≡ length (packed t r.left src at) + length (packed t r.right src (at + r.left_width))
  pub few : length (packed t n src at) ≤ 524288

module _ {t : Table} {n : ℕ} {r : Node} (m : Named t n) (e : Reads t n r) {src : List ℕ} {at : ℕ} (i : Run src at (bits (ty_at t.columns n))) where
  here : NodeRead t n r
  here = record { named = m; reads = e }

  inside : at + bits (ty_at t.columns n) ≤ length (bits_of src)
  inside = omega (arith, i.inside, length_bits_of src)

  -- Compact bits are few.
  most : length (packed t n src at) ≤ 524288
  most = omega (arith, compact_most (ty_at t.columns n) (drop at (bits_of src)), m.narrow)

  pub one_run : not r.padded ≡ true → OneRun t n r src at
  one_run p =
      let u = not-true r.padded p in
      let w = own_width here in
      record {
        lies = record { inside = omega (arith, i.inside); counted = omega (arith, i.counted) };
        bits_are = node_run here (bits_of src) at u inside;
        counted = node_run_length here (bits_of src) at u inside;
      }

  pub tag_there : r.kind ≡ Kind.Sum → at < 8 * length src
  tag_there = tag_inside here i

  pub tag_first : not r.padded ≡ false → r.kind ≡ Kind.Sum → {s : Side} {g : Bool} → g ≡ get_or (bits_of src) at false → s ≡ side_of g r
      → TagFirst t n r src at s g
  tag_first p k {s} {g} b f =
      let u = not-false r.padded p in
      let bits_are : packed t n src at ≡ g ∷ packed t s.node src (at + (r.width - s.width)) = node_tagged here (bits_of src) at u k f b in
      record {
        side = taken here u k g f;
        lies = payload_run here i u g f;
        bits_are = bits_are;
        counted = omega (arith, ap length bits_are);
        few = most;
      }

  pub two_parts : not r.padded ≡ false → (r.kind ≡ Kind.Sum → ⊥) → TwoParts t n r src at
  two_parts p k =
      let u = not-false r.padded p in
      let bits_are : packed t n src at ≡ packed t r.left src at ++ packed t r.right src (at + r.left_width) = node_both here (bits_of src) at u k in
      record {
        first = side here u false;
        second = side here u true;
        first_lies = first_run here i u;
        second_lies = second_run here i u k;
        bits_are = bits_are;
        counted = omega (arith, simp length-append at (ap length bits_are));
        few = most;
      }
