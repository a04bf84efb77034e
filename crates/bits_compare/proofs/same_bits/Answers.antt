-- `bits_compare::same_bits` meets its contract: two runs of one length are the same where their order is equal. Assumes nothing.
use Rattle.std.proofs.Common.{◌∙◌, sym, take, drop, arith}
use Rattle.meaning.specs.Bits.{bits_of}
use Rattle.bits.proofs.OfBytes.{length_bits_of}
use Rattle.bits.proofs.Runs.{length_run}
use Rattle.bits_compare.proofs.Comparing.{same_by_order}
use Rattle.bits_compare.proofs.same_bits.Goals as goal

pub returns : goal.returns
returns c =
    let a = c.args in
    let v = bits_of a.a.now in
    let w = bits_of a.b.now in
    c.is_eq.ensures
    ∙ same_by_order (take a.n (drop a.from v)) (take a.n (drop a.at w)) c.order_bits.result
    (length_run v a.from a.n (omega (arith, length_bits_of a.a.now)) ∙ sym (length_run w a.at a.n (omega (arith, length_bits_of a.b.now))))
    c.order_bits.ensures
