-- Where a cut goes on below two sums, beside the definitions of `meaning`.
--
--   UnderTag             where the payload of a tag lies
--   Sums TakenSide       a record and a target that are sums, and where a walk goes on below them
use Rattle.std.specs.Prelude.{ℕ, ◌-◌, ◌*◌, ◌≤◌, ◌<◌, ◌≡◌, Bool, false, List, length, get_or}
use Rattle.meaning.specs.Bits.{bits_of}
use Rattle.nodes.specs.declared.Node.{Node}
use Rattle.nodes.specs.Reading.{side_of}
use Rattle.prune_sides.specs.declared.Payload.{Payload}
use Rattle.prune_sides.specs.declared.Taken.{Taken}

-- The payload under a tag: its node, and how many bits of tag and padding stand before it.
pub record UnderTag (n : Node) (g : Bool) (s : Payload) : Type 0 where
  pub node_is : s.node ≡ (side_of g n).node
  pub before_is : s.before ≡ n.width - (side_of g n).width

-- The record at a bit has a tag, and neither its node nor the target is narrower than one of its sides.
pub record Sums (src : List ℕ) (at : ℕ) (given target : Node) : Type 0 where
  pub tagged : at < 8 * length src
  pub given_wide : (g : Bool) → (side_of g given).width ≤ given.width
  pub target_wide : (g : Bool) → (side_of g target).width ≤ target.width

-- The tag of the record at a bit, and the payloads under it.
pub record TakenSide (src : List ℕ) (at : ℕ) (given target : Node) (s : Taken) : Type 0 where
  pub tag_is : s.tag ≡ get_or (bits_of src) at false
  pub from : UnderTag given s.tag s.given
  pub to : UnderTag target s.tag s.target
