-- The room that lines and a whole report take, and what writing a report asks.
--
--   head_room line_room         bytes that hold any first line, and any line of a node
--   report_room                 bytes that hold any report of n nodes
--   Reportable                  room for a whole report, and a kind and a group for each node
use Rattle.std.specs.Prelude.{ℕ, ◌+◌, ◌*◌, ◌≤◌, List, length}
use Rattle.meaning.specs.Groups.{group_size}

-- A first line has at most 27 bytes: a word of five, a number of at most twenty digits, and a byte after each.
abbrev pub head_room : ℕ
head_room = 27

-- The line of a node has at most 117 bytes: five numbers of at most twenty digits, one of at most three, the word of a kind, and a byte after each.
abbrev pub line_room : ℕ
line_room = 117

-- A report is a first line and a line for each node.
abbrev pub report_room : ℕ → ℕ
report_room n = n * line_room + head_room

-- There is room for the report of n nodes, and each node has its kind and its group.
pub record Reportable (out kinds groups : List ℕ) (n : ℕ) : Type 0 where
  pub room : report_room n ≤ length out
  pub kinds_reach : n ≤ length kinds
  pub groups-reach : group_size * n ≤ length groups
