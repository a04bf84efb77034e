-- `bits_runs::write_bits` meets its contract: the bits up to a byte's border, the whole bytes and what is left, each after the one before. Assumes
-- nothing.
use Rattle.std.proofs.Common.{◌≡◌, ◌∙◌, ap, refl, ℕ, ◌+◌, ◌-◌, ◌*◌, ◌/◌, ◌%◌, ◌≤◌, List, Bool, length, arith}
use Rattle.std.proofs.Math.Seq.{paste}
use borrow.Rule.Slice.PartMut.{put_mid}
use Rattle.meaning.specs.Bits.{bits_of, to_bits}
use Rattle.bits_runs.specs.Given.{GivesFew, FillsWhole}
use Rattle.bits_runs.proofs.Written.{first_written, length_taken, bytes_written, rest_written}
use Rattle.bits_runs.proofs.write_bits.Given as given
use Rattle.bits_runs.proofs.write_bits.Goals as goal
use Rattle.bits_runs.proofs.write_bits.Goals.{After-whole}

-- All but the bits after the last whole byte.
most : (g : given.Over) (c : After-whole g) (v : List Bool) → c.args.n ≤ length v
    → GivesFew (given.F-post g c.args.few) v c.args.n
    → FillsWhole (given.W-post g c.args.whole) v c.args.n
    →
    let a = c.args in
    let head : ℕ = 8 - a.at % 8 in
    let first : ℕ = a.at / 8 + 1 in
    let bytes : ℕ = (a.n - head) / 8 in
    bits_of (put_mid first (first + bytes - first) c.put_some-2.new.d c.whole.new.arg3) ≡ paste (bits_of a.dst.now) a.at v (head + 8 * bytes)
most g c v enough few whole =
    let a = c.args in
    let inside = c.requires.run.inside in
    let head : ℕ = 8 - a.at % 8 in
    let one = c.put_some-2.new.d in
    let kept = c.put_some-2.auto.d in
    let start = first_written a.dst.now v a.at a.n inside enough (bits_of one) (to_bits head c.few-2.result) head
    (few 0 head c.few-2.result (omega arith) (omega arith) (omega arith) c.few-2.ensures)
    c.put_some-2.ensures in
    let count = length_taken a.dst.now v a.at a.n inside enough one c.whole.new.arg3 kept c.if-n-head.false in
    bytes_written a.dst.now v a.at a.n inside enough one c.whole.new.arg3 kept c.if-n-head.false c.whole.auto.arg3 start
    (whole head _ _ (omega arith) (omega (arith, count)) c.whole.ensures)

pub returns : goal.returns
returns g c v enough few whole =
    let a = c.args in
    let head : ℕ = 8 - a.at % 8 in
    let all : head + 8 * ((a.n - head) / 8) ≡ a.n = omega arith in
    most g (goal.at.returns g c).After-whole v enough few whole ∙ ap (paste (bits_of a.dst.now) a.at v) all

pub returns-then-done-n : goal.returns-then-done-n
returns-then-done-n g c v enough few whole =
    let a = c.args in
    let head : ℕ = 8 - a.at % 8 in
    let done : ℕ = head + 8 * ((a.n - head) / 8) in
    let all : done + (a.n - done) ≡ a.n = omega arith in
    rest_written a.dst.now v a.at a.n c.requires.run.inside enough _ (bits_of c.put_some-then-done-n.new.d)
    (to_bits (a.n - done) c.few-then-done-n.result)
    done (a.n - done) (a.at + done)
    (omega arith)
    (most g (goal.at.returns-then-done-n g c).After-whole v enough few whole)
    (few done (a.n - done) c.few-then-done-n.result (omega arith) (omega arith) (omega arith) c.few-then-done-n.ensures)
    refl
    c.put_some-then-done-n.ensures
    ∙ ap (paste (bits_of a.dst.now) a.at v) all
