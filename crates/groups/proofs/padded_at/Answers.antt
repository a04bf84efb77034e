-- `groups::padded_at` meets its contract. Assumes nothing.
use Rattle.std.proofs.Common.{refl, arith}
use Rattle.groups.proofs.Lows.{fact_one}
use Rattle.groups.proofs.padded_at.Goals as goal

pub returns : goal.returns
returns c = fact_one 16 c.args.n _ c.args.groups.now c.requires refl (omega arith)
