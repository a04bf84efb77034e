-- `bits_compare::order_bits` meets its contract. The loop's invariant: the bits passed are alike. Assumes nothing.
use Rattle.std.proofs.Common.{◌≡◌, ◌∙◌, sym, ap, subst, ◌+◌, ℕ, min, false, arith, rules}
use Rattle.meaning.specs.Bits.{to_bits, bits_of}
use Rattle.std.specs.Ordering.{is_ne}
use Rattle.bits_compare.specs.Alike.{Alike}
use Rattle.bits_compare.proofs.Comparing.{alike_more, order_alike, equal_numbers, order_told}
use Rattle.bits_compare.proofs.order_bits.Goals as goal
use Rattle.bits_compare.proofs.order_bits.Goals.{After-is_ne}

-- The bits passed are alike: so are the next ones, where their numbers are equal.
passed : (c : After-is_ne) →
    let a = c.args in
    Alike (bits_of a.a.now) a.from (bits_of a.b.now) a.at a.n c.loop-same.same
passed c =
    let a = c.args in
    let here : min c.loop-same.same a.n ≡ c.loop-same.same = omega arith in
    subst (Alike (bits_of a.a.now) a.from (bits_of a.b.now) a.at a.n) here c.loop-same.invariant

more : (c : After-is_ne) (k : ℕ) → is_ne c.cmp-order.result ≡ false → c.loop-same.same + c.min-step.result ≡ k →
    let a = c.args in
    Alike (bits_of a.a.now) a.from (bits_of a.b.now) a.at a.n k
more c k none to =
    let a = c.args in
    let x = c.bits_at in
    let y = c.bits_at-in-loop-same in
    let equal : x.result ≡ y.result = equal_numbers x.result y.result c.cmp-order.result c.cmp-order.ensures none in
    subst (Alike (bits_of a.a.now) a.from (bits_of a.b.now) a.at a.n) to
    (alike_more (bits_of a.a.now) a.from (bits_of a.b.now) a.at a.n c.loop-same.same c.min-step.result (search rules) (passed c)
    (sym c.bits_at.ensures.result_value ∙ ap (to_bits c.min-step.result) equal ∙ c.bits_at-in-loop-same.ensures.result_value))

pub returns-then-is_ne : goal.returns-then-is_ne
returns-then-is_ne c =
    let a = c.args in
    let x = c.bits_at in
    let y = c.bits_at-in-loop-same in
    order_told (bits_of a.a.now) (bits_of a.b.now) a.from a.at a.n c.loop-same.same c.min-step.result x.result y.result c.cmp-order.result
    (passed (goal.at.returns-then-is_ne c).After-is_ne)
    (search rules)
    c.bits_at.ensures.result_value
    c.bits_at-in-loop-same.ensures.result_value
    c.bits_at.ensures.upper_bound
    c.bits_at-in-loop-same.ensures.upper_bound
    c.cmp-order.ensures
    (search rules)

pub loop-same-preserved : goal.loop-same-preserved
loop-same-preserved c =
    more (goal.at.loop-same-preserved c).After-is_ne (min (c.loop-same.same + 8) c.args.n) (search rules) (omega arith)

pub returns-else-is_ne : goal.returns-else-is_ne
returns-else-is_ne c =
    sym (order_alike (more (goal.at.returns-else-is_ne c).After-is_ne c.args.n (search rules) (omega arith)).same)

pub returns : goal.returns
returns c =
    let a = c.args in
    let all : min c.loop-same.same a.n ≡ a.n = omega arith in
    sym (order_alike (subst (Alike (bits_of a.a.now) a.from (bits_of a.b.now) a.at a.n) all c.loop-same.invariant).same)
