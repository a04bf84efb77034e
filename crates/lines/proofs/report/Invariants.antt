-- The loop of `lines::report`: the first line and those of the first nodes are written, each within its room.
use Rattle.std.proofs.Common.{◌+◌, ◌*◌, ◌≤◌}
use Rattle.meaning.specs.Tables.{facts_in}
use Rattle.lines_digits.specs.Report.{line_in, lines_to}
use Rattle.lines_digits.specs.Buffer.{Wrote}
use Rattle.lines.specs.Room.{head_room, line_room}
use Rattle.lines.proofs.report.Given as goal

abbrev pub invariant-loop-node : goal.invariant-loop-node
invariant-loop-node l = record {
  within : l.text.len ≤ l.node * line_room + head_room;
  written : Wrote l.initial.text (lines_to (line_in l.kinds (facts_in l.groups)) l.node) l.text;
}
