-- `groups::class_at` meets its contract. Assumes nothing.
use Rattle.std.proofs.Common.{ap, ◌∙◌, arith, w16}
use Rattle.std.specs.Int.{from_le_bytes}
use Rattle.groups.proofs.Lows.{fact_two}
use Rattle.groups.proofs.class_at.Goals as goal

pub returns : goal.returns
returns c =
    c.from_le_bytes.ensures ∙ ap (from_le_bytes w16) c.bytes_at.ensures ∙ fact_two 17 c.args.n _ c.args.groups.now c.requires (omega arith)
