-- `value_making::blank` meets its contract: the room is tested, and zero bits are written. Assumes nothing.
use native.Mathlib.Omega.{arith}
use Rattle.value_making.proofs.Payloads.{blank_short, blank_done}
use Rattle.value_making.proofs.blank.Goals as goal

pub returns-then-out-bytes_for : goal.returns-then-out-bytes_for
returns-then-out-bytes_for c =
    let both = blank_short c.args.table.now c.args.res c.args.out.now c.width_of-width.result c.width_of-width.ensures (omega (arith, c.bytes_for.ensures)) in
    record { result_value = both.0; out_after = both.1 }

pub returns : goal.returns
returns c =
    let both = blank_done c.args.table.now c.args.res c.args.out.now c.width_of-width.result c.width_of-width.ensures (omega (arith, c.bytes_for.ensures))
    c.write_zeros.new.out
    c.write_zeros.ensures in
    record { result_value = both.0; out_after = both.1 }
