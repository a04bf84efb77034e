-- `lines::refusal_line` meets its contract: a word and a number, twice. Assumes nothing.
use Rattle.std.proofs.Common.{length, ap, arith, rules, sym, ◌∙◌}
use Rattle.lines_digits.proofs.Decimals.{rooms}
use Rattle.lines_digits.proofs.Puts.{text_then, text_printed}
use Rattle.lines.proofs.refusal_line.Goals as goal

pub returns : goal.returns
returns c =
    let room = ap length c.new-text.ensures.kept in
    let w = text_then c.word.ensures (omega (arith, room))
    (text_then (rw c.from.ensures at c.number.ensures) (omega (arith, room, rooms))
    (text_then c.word-2.ensures (omega (arith, room, rooms))
    c.number-2.ensures)) in
    let same = sym (w.same_buffer ∙ c.new-text.ensures.same_buffer) in
    text_printed c.new-text.ensures.empty c.new-text.ensures.kept w (search (rules, same))
