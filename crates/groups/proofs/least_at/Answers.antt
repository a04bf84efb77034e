-- `groups::least_at` meets its contract. Assumes nothing.
use Rattle.std.proofs.Common.{ap, ◌∙◌, arith, w64}
use Rattle.std.specs.Int.{from_le_bytes}
use Rattle.groups.proofs.Lows.{fact_eight}
use Rattle.groups.proofs.least_at.Goals as goal

pub returns : goal.returns
returns c =
    c.from_le_bytes.ensures ∙ ap (from_le_bytes w64) c.bytes_at.ensures ∙ fact_eight 19 c.args.n _ c.args.groups.now c.requires (omega arith)
