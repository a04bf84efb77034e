-- Laws of the lines of a report.
--
--   head-room line-room         the bytes that the first line and the line of a node take
--   lines_more                  one line more
--   lines_agree                 a report depends on the lines of its own nodes alone
-- Assumes nothing.
use Prim.Native.Nat.{ℕ, zero, suc, ◌+◌, ◌≤◌, ◌<◌}
use mathlib.Core.Path.{◌≡◌, refl, ap}
use mathlib.Core.List.{List, ◌++◌}
use native.Mathlib.Numerals.{add-one}
use native.Mathlib.Omega.{arith}
use lib.ListN.{length, length-append}
use Rattle.lines_digits.specs.Report.{ascii, decimal, kind_word, head_line, node_line, lines_to}
use Rattle.lines_digits.proofs.Decimals.{number_room, byte_room, kind_room}
use Rattle.lines.specs.Room.{head_room, line_room}

pub head-room : (n : ℕ) → length (head_line n) ≤ head_room
head-room n = let d = number_room n 10 in omega (arith, length-append (ascii "nodes ") (decimal n ++ ascii "\n"))

pub line-room : (k kind width size padded class least : ℕ) → padded < 256 → length (node_line k kind width size padded class least) ≤ line_room
line-room k kind width size padded class least h =
    let a = decimal k ++ ascii " " in
    let b = kind_word kind ++ ascii " " in
    let c = decimal width ++ ascii " " in
    let d = decimal size ++ ascii " " in
    let e = decimal padded ++ ascii " " in
    let f = decimal class ++ ascii " " in
    let g = decimal least ++ ascii "\n" in
    omega (
      arith,
      length-append a (b ++ (c ++ (d ++ (e ++ (f ++ g))))),
      length-append b (c ++ (d ++ (e ++ (f ++ g)))),
      length-append c (d ++ (e ++ (f ++ g))),
      length-append d (e ++ (f ++ g)),
      length-append e (f ++ g),
      length-append f g,
      number_room k 32,
      kind_room kind,
      number_room width 32,
      number_room size 32,
      byte_room padded 32 h,
      number_room class 32,
      number_room least 10,
    )

pub lines_more : (line_of : ℕ → List ℕ) (n : ℕ) → lines_to line_of (n + 1) ≡ lines_to line_of n ++ line_of n
unfolding lines_to
lines_more line_of n = ap (lines_to line_of) (add-one n)

pub lines_agree : (f g : ℕ → List ℕ) (n : ℕ) → ((k : ℕ) → k < n → f k ≡ g k) → lines_to f n ≡ lines_to g n
unfolding lines_to
lines_agree f g zero h = refl
lines_agree f g (suc n) h = λ i. lines_agree f g n (λ k l. h k (omega arith)) i ++ h n (omega arith) i
