-- `codec_counting::count_compact` meets its contract, piece by piece. The measure is the node's number. Assumes nothing.
use native.Mathlib.Omega.{arith}
use Rattle.codec_laws.proofs.Walked.{one_run, tag_there, tag_first, two_parts}
use Rattle.codec_counting.proofs.+count_compact.Goals as goal

pub returns-then-not-n : goal.returns-then-not-n
returns-then-not-n t c = (one_run c.requires.named c.node-n.ensures c.requires.run c.if-not-n.true).counted

pub bit_at-requires : goal.bit_at-requires
bit_at-requires t c = tag_there c.requires.named c.node-n.ensures c.requires.run c.in-Sum.is

pub overflow_sub-n : goal.overflow_sub-n
overflow_sub-n t c =
    let w = tag_first c.requires.named c.node-n.ensures c.requires.run c.if-not-n.false c.in-Sum.is c.bit_at.ensures c.side-side.ensures in
    omega arith

pub overflow_add-at : goal.overflow_add-at
overflow_add-at t c =
    let w = tag_first c.requires.named c.node-n.ensures c.requires.run c.if-not-n.false c.in-Sum.is c.bit_at.ensures c.side-side.ensures in
    record { fits = omega arith }

pub count_compact-requires : goal.count_compact-requires
count_compact-requires t c =
    let w = tag_first c.requires.named c.node-n.ensures c.requires.run c.if-not-n.false c.in-Sum.is c.bit_at.ensures c.side-side.ensures in
    (omega arith, (w.side.named, w.lies))

pub overflow_add-result : goal.overflow_add-result
overflow_add-result t c =
    let w = tag_first c.requires.named c.node-n.ensures c.requires.run c.if-not-n.false c.in-Sum.is c.bit_at.ensures c.side-side.ensures in
    record { fits = omega arith }

pub returns-in-Sum : goal.returns-in-Sum
returns-in-Sum t c =
    let w = tag_first c.requires.named c.node-n.ensures c.requires.run c.if-not-n.false c.in-Sum.is c.bit_at.ensures c.side-side.ensures in
    omega arith

pub count_compact-first-requires : goal.count_compact-first-requires
count_compact-first-requires t c =
    let w = two_parts c.requires.named c.node-n.ensures c.requires.run c.if-not-n.false c.in_default.not-Sum in
    (omega arith, (w.first.named, w.first_lies))

pub overflow_add-at-in_default : goal.overflow_add-at-in_default
overflow_add-at-in_default t c =
    let w = two_parts c.requires.named c.node-n.ensures c.requires.run c.if-not-n.false c.in_default.not-Sum in
    record { fits = omega arith }

pub count_compact-second-requires : goal.count_compact-second-requires
count_compact-second-requires t c =
    let w = two_parts c.requires.named c.node-n.ensures c.requires.run c.if-not-n.false c.in_default.not-Sum in
    (omega arith, (w.second.named, w.second_lies))

pub overflow_add-result-in_default : goal.overflow_add-result-in_default
overflow_add-result-in_default t c =
    let w = two_parts c.requires.named c.node-n.ensures c.requires.run c.if-not-n.false c.in_default.not-Sum in
    record { fits = omega arith }

pub returns-in_default : goal.returns-in_default
returns-in_default t c =
    let w = two_parts c.requires.named c.node-n.ensures c.requires.run c.if-not-n.false c.in_default.not-Sum in
    omega arith
