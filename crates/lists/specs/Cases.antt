-- What the cases of a list keep to.
--
--   Lent            a request whose runs stand in the list
use Rattle.std.specs.Prelude.{ℕ, List}
use Rattle.lists.specs.Parts.{HasPart}
use Rattle.lists.specs.declared.cases.Request.{Request}

-- All runs of a request stand in the list.
pub record Lent (list : List ℕ) (request : Request) : Type 0 where
  pub a_within : HasPart list request.a.bytes.now
  pub b_within : HasPart list request.b.bytes.now
  pub stream_within : HasPart list request.stream.now
  pub data_within : HasPart list request.data.now
  pub buffer_within : HasPart list request.buffer.now
