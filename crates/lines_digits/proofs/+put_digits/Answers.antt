-- The proof of the cycle of calls {put_digits}: the leading digits are those of the tenth part, and the last follows them. The measure is the
-- number. Assumes nothing.
use Prim.Native.Nat.{ℕ, ◌+◌, ◌/◌, ◌%◌, ◌^◌, ◌≤◌, ◌<◌}
use mathlib.Core.Path.{◌≡◌, ap, sym, ◌∙◌}
use mathlib.Core.List.{[], ◌∷◌}
use native.Mathlib.Omega.{arith}
use lib.ListN.{length, length-set, length-append}
use Rattle.lines_digits.specs.Report.{decimal, digit_of}
use Rattle.lines_digits.proofs.Decimals.{decimal_one, decimal_more}
use Rattle.lines_digits.proofs.Puts.{wrote_byte, wrote_then, wrote_text}
use Rattle.lines_digits.proofs.+put_digits.Goals as goal

-- One digit takes one byte of the room.
one_byte : (n : ℕ) → n < 10 → length (decimal n) ≡ 1
one_byte n h = ap length (decimal_one n h)

-- The tenth part takes one byte less.
one_less : (n : ℕ) → 10 ≤ n → n < 2 ^ 64 → length (decimal n) ≡ length (decimal (n / 10)) + 1
one_less n h w = ap length (decimal_more n h w) ∙ length-append (decimal (n / 10)) (digit_of (n % 10) ∷ [])

pub overflow_cast-out : goal.overflow_cast-out
overflow_cast-out t c =
    omega arith

pub overflow_add-out : goal.overflow_add-out
overflow_add-out t c =
    omega arith

pub bounds-out-at : goal.bounds-out-at
bounds-out-at t c =
    let a = c.args in
    omega (arith, c.requires, one_byte a.n (omega arith))

pub overflow_add-result : goal.overflow_add-result
overflow_add-result t c =
    let a = c.args in
    omega (arith, c.requires, c.well_formed.0.0, one_byte a.n (omega arith))

pub returns-then-n-lt10 : goal.returns-then-n-lt10
returns-then-n-lt10 t c =
    let a = c.args in
    wrote_text (sym (decimal_one a.n (omega arith)))
    (wrote_byte a.out.now a.at (digit_of a.n) (omega (arith, c.requires, one_byte a.n (omega arith))))

pub put_digits-last-requires : goal.put_digits-last-requires
put_digits-last-requires t c =
    let h : 10 ≤ c.args.n = omega arith in
    (omega arith, omega (arith, c.requires, one_less c.args.n h c.ranges.n.fits))

pub overflow_cast-out-2 : goal.overflow_cast-out-2
overflow_cast-out-2 t c =
    omega arith

pub overflow_add-out-2 : goal.overflow_add-out-2
overflow_add-out-2 t c =
    omega arith

pub bounds-out-last : goal.bounds-out-last
bounds-out-last t c =
    let h : 10 ≤ c.args.n = omega arith in
    let w = c.put_digits-last in
    omega (arith, c.requires, c.put_digits-last.auto.out, w.ensures.ends, one_less c.args.n h c.ranges.n.fits)

pub overflow_add-result-2 : goal.overflow_add-result-2
overflow_add-result-2 t c =
    let h : 10 ≤ c.args.n = omega arith in
    let w = c.put_digits-last in
    omega (arith, c.requires, c.well_formed.0.0, w.ensures.ends, one_less c.args.n h c.ranges.n.fits)

pub shape_of-out : goal.shape_of-out
shape_of-out t c =
    let w = c.put_digits-last in
    length-set c.put_digits-last.new.out w.result _ ∙ c.put_digits-last.auto.out

pub returns : goal.returns
returns t c =
    let h : 10 ≤ c.args.n = omega arith in
    let w = c.put_digits-last in
    let a = c.args in
    let l = one_less a.n h c.ranges.n.fits in
    wrote_text (sym (decimal_more a.n h c.ranges.n.fits))
    (wrote_then w.ensures (omega (arith, c.requires))
    (wrote_byte c.put_digits-last.new.out w.result (digit_of (a.n % 10)) (omega (arith, c.requires, c.put_digits-last.auto.out, w.ensures.ends))))
