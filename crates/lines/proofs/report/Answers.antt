-- `lines::report` meets its contract: the first line, and then a line for each node. Assumes nothing.
use Rattle.std.proofs.Common.{◌≡◌, length, get_or, ap, sym, ◌∙◌, arith, rules}
use Rattle.meaning.specs.Tables.{facts_in}
use Rattle.lines_digits.specs.Report.{node_line, line_in, lines_to}
use Rattle.lines_digits.proofs.Puts.{text_then, text_none, text_as, text_printed}
use Rattle.lines.proofs.Lines.{head-room, line-room, lines_more}
use Rattle.lines.proofs.report.Goals as goal

pub loop-node-init : goal.loop-node-init
unfolding lines_to
loop-node-init c = record { within = omega (arith, head-room); written = text_none _ }

pub loop-node-preserved : goal.loop-node-preserved
loop-node-preserved c =
    let kinds = c.args.kinds.now in
    let k = c.loop-node.node in
    let one = line_in kinds (facts_in c.args.groups.now) in
    let before = c.loop-node.invariant in
    let room = ap length c.new-text.ensures.kept in
    let class = c.from.ensures ∙ c.class_at.ensures in
    let told : node_line k (get_or kinds k 0) c.width_at.result c.size_at.result c.padded_at.result c.from.result c.least_at.result ≡ one k =
    λ i. node_line k (get_or kinds k 0) (c.width_at.ensures i) (c.size_at.ensures i) (c.padded_at.ensures i) (class i) (c.least_at.ensures i) in
    record {
      within = omega (arith, c.node_line.ensures.written.ends, line-room);
      written =
          text_as (sym (lines_more one k))
          (text_then before.written (omega (arith, room, before.written.written.ends)) (text_as told c.node_line.ensures));
    }

pub returns : goal.returns
returns c =
    let room = ap length c.new-text.ensures.kept in
    let e : c.loop-node.node ≡ c.args.count = omega arith in
    let w = text_then c.head_line.ensures (omega (arith, room, head-room)) (rw e at c.loop-node.invariant.written) in
    let same = sym (w.same_buffer ∙ c.new-text.ensures.same_buffer) in
    text_printed c.new-text.ensures.empty c.new-text.ensures.kept w (search (rules, same))
