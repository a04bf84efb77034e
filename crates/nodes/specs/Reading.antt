-- What is known of a node that was read from a sound table.
--
--   Reads          a node as it was read
--   side_of         the side of it that a tag takes
use Rattle.std.specs.Prelude.{ℕ, ◌≤◌, ◌<◌, ◌≡◌, Bool, true, false}
use Rattle.meaning.specs.Types.{width, padded}
use Rattle.meaning.specs.Tables.{Table, left, right, node, ty_at, class_of}
use Rattle.tables.specs.Kinds.{kind_no}
use Rattle.nodes.specs.declared.Node.{Node}
use Rattle.nodes.specs.declared.Side.{Side}

-- The node's tree is made of its sides' trees; its sides are the columns' entries, and those of a sum and a product stand earlier; all facts
-- are those of the trees.
pub record Reads (t : Table) (n : ℕ) (r : Node) : Type 0 where
  pub tree : ty_at t.columns n ≡ node (kind_no r.kind) (ty_at t.columns r.left) (ty_at t.columns r.right)
  pub left_is : r.left ≡ left t.columns n
  pub right_is : r.right ≡ right t.columns n
  pub left_in : r.left < t.count
  pub right_in : r.right < t.count
  pub left_falls : 1 ≤ kind_no r.kind → r.left < n
  pub right_falls : 1 ≤ kind_no r.kind → r.right < n
  pub width_is : r.width ≡ width (ty_at t.columns n)
  pub left_width_is : r.left_width ≡ width (ty_at t.columns r.left)
  pub right_width_is : r.right_width ≡ width (ty_at t.columns r.right)
  pub padded_is : r.padded ≡ padded (ty_at t.columns n)
  pub class_is : r.class ≡ class_of t.columns n

-- The side of a node that a tag takes: 0 the left one, 1 the right one.
abbrev pub side_of : Bool → Node → Side
side_of true n = record { node = n.right; width = n.right_width }
side_of false n = record { node = n.left; width = n.left_width }
