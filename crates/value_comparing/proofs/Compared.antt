-- Two records compared, as their nodes were read: the classes decide, and where they are equal the types are, and the bits decide.
--
--   first_run second_run        the records lie within the parts of their bytes that are lent, and are as wide as was read of the first
--   unlike alike_bits           whether they are equal
--   ordered_bits                their order, where the classes are equal
-- Assumes nothing.
use Prim.Native.Nat.{◌%◌, compare, Ordering}
use mathlib.Core.Path.{◌≡◌, sym, ap, ap₂, ◌∙◌}
use mathlib.Core.Bool.{Bool, false, ◌&&◌}
use mathlib.Core.List.{List}
use lib.ListN.{take, drop}
use Rattle.meaning.specs.Types.{bits}
use Rattle.meaning.specs.Tables.{Table}
use Rattle.meaning.specs.Bits.{bits_of}
use Rattle.meaning.specs.Records.{same_bits, order_bits}
use Rattle.meaning.specs.Ladder.{Record, type_of, record_bits}
use Rattle.meaning.specs.RecordCalls.{order_then}
use Rattle.meaning.proofs.Types.{eq_same}
use Rattle.bits.specs.Runs.{Run}
use Rattle.nodes.specs.declared.Node.{Node}
use Rattle.nodes.specs.Reading.{Reads}
use Rattle.checked.specs.Passed.{Held}
use Rattle.checked.proofs.Lent.{lent, lent_run, lent_bits}
use Rattle.checked.proofs.Nodes.{own_width, same_class, other_class}
use Rattle.value_comparing.specs.Comparing.{alike_at, ordered_at}
use Rattle.value_comparing.proofs.Orders.{compare_level}

module _ (t : Table) (r s : Record) (h : Held t r) (k : Held t s) (a b : Node) (ea : Reads t r.node a) (eb : Reads t s.node b) where
  width : a.width ≡ bits (type_of t r)
  width = own_width t r.node a ea h.named

  pub first_run : Run (lent r) (r.offset % 8) a.width
  first_run = lent_run t r h a.width width

  pub unlike : (a.class ≡ b.class → ⊥) → false ≡ alike_at t r s
  unlike f = sym (ap (λ (x : Bool). x && same_bits (record_bits t r) (record_bits t s)) (other_class t r.node s.node a b ea eb f))

  module _ (e : a.class ≡ b.class) where
    types : type_of t r ≡ type_of t s
    types = same_class t r.node s.node a b ea eb e

    width_2 : a.width ≡ bits (type_of t s)
    width_2 = width ∙ ap bits types

    pub second_run : Run (lent s) (s.offset % 8) a.width
    second_run = lent_run t s k a.width width_2

    -- The bits of the two records, read from the parts.
    abbrev first : List Bool
    first = take a.width (drop (r.offset % 8) (bits_of (lent r)))

    abbrev second : List Bool
    second = take a.width (drop (s.offset % 8) (bits_of (lent s)))

    pub alike_bits : same_bits first second ≡ alike_at t r s
    alike_bits =
        ap₂ same_bits (lent_bits t r h a.width width) (lent_bits t s k a.width width_2)
        ∙ sym (ap (λ (x : Bool). x && same_bits (record_bits t r) (record_bits t s)) (eq_same (type_of t r) (type_of t s) types))

    pub ordered_bits : order_bits first second ≡ ordered_at t r s
    ordered_bits =
        ap₂ order_bits (lent_bits t r h a.width width) (lent_bits t s k a.width width_2)
        ∙ ap (λ (o : Ordering). order_then o (order_bits (record_bits t r) (record_bits t s)))
        (sym (compare_level a.class b.class e) ∙ ap₂ compare ea.class_is eb.class_is)
