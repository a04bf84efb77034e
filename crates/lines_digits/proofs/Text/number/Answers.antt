-- `lines_digits::Text::number` meets its contract: the digits, and the byte after them. Assumes nothing.
use Rattle.std.proofs.Common.{refl, arith, length-set, ◌∙◌}
use Rattle.lines_digits.proofs.Decimals.{decimal_length}
use Rattle.lines_digits.proofs.Puts.{wrote_byte, wrote_then}
use Rattle.lines_digits.proofs.Text.number.Goals as goal

pub put_digits-end-requires : goal.put_digits-end-requires
put_digits-end-requires c =
    omega (arith, decimal_length c.args.n)

pub bounds-self-end : goal.bounds-self-end
bounds-self-end c =
    let w = c.put_digits-end in
    omega (arith, decimal_length c.args.n, c.requires, w.auto.out, w.ensures.ends)

pub returns : goal.returns
returns c =
    let w = c.put_digits-end in
    record {
      same_buffer = refl;
      same_length = length-set w.new.out w.result c.args.stop ∙ w.auto.out;
      written =
          wrote_then w.ensures (omega (arith, decimal_length c.args.n, c.requires))
          (wrote_byte w.new.out w.result c.args.stop (omega (arith, decimal_length c.args.n, c.requires, w.auto.out, w.ensures.ends)));
    }
