-- `files::judge_file` meets its contract: the verdict by the first node at fault, or by what follows the last node. Assumes nothing.
use Rattle.std.proofs.Common.{◌≡◌, rules, arith}
use Rattle.files.proofs.Entries.{read_none, read_more}
use Rattle.files.proofs.Whole.{counted, verdict_node, verdict_sound}
use Rattle.files.proofs.judge_file.Goals as goal

pub loop-n-init : goal.loop-n-init
loop-n-init c = record {
  counted = counted _ _ _ _ c.new-reader.ensures c.in_ok-count.ensures.answer c.in_ok-count.ensures.after;
  read = read_none _;
}

pub loop-n-preserved : goal.loop-n-preserved
loop-n-preserved c = record {
  counted = c.loop-n.invariant.counted;
  read = read_more _ _ _ c.loop-n.invariant.read _ _ c.in_ok-next_node.ensures.answer c.in_ok-next_node.ensures.after;
}

pub returns-in_err-next_node : goal.returns-in_err-next_node
returns-in_err-next_node c =
    let v =
    verdict_node _ _ _ c.loop-n.invariant.counted _ _ _ c.loop-n.invariant.read c.loop-n-test.true c.in_err-next_node.ensures.answer in
    search rules

pub returns : goal.returns
returns c =
    let e : c.loop-n.n ≡ c.in_ok-count.count = omega arith in
    let sound = verdict_sound _ _ _ c.loop-n.invariant.counted _ (rw e at c.loop-n.invariant.read) in
    search (rules, sound)
