-- What is left after each part, or without one, is an end of the list, and each run stands in the list.
use Rattle.lists.proofs.Ends.{◌▸◌, run_within, part_later}
use Rattle.lists.proofs.Reader.request.Goals as goal

pub returns-in_err-record-2-clause-left : goal.returns-in_err-record-2-clause-left
returns-in_err-record-2-clause-left c = c.record.ensures.left ▸ c.record-2.ensures.left

pub returns-in_err-run-clause-left : goal.returns-in_err-run-clause-left
returns-in_err-run-clause-left c = c.record.ensures.left ▸ c.record-2.ensures.left ▸ c.run.ensures.left

pub returns-in_err-size-clause-left : goal.returns-in_err-size-clause-left
returns-in_err-size-clause-left c = c.record.ensures.left ▸ c.record-2.ensures.left ▸ c.run.ensures.left ▸ c.size.ensures.left

pub returns-in_err-number-clause-left : goal.returns-in_err-number-clause-left
returns-in_err-number-clause-left c =
    c.record.ensures.left ▸ c.record-2.ensures.left ▸ c.run.ensures.left ▸ c.size.ensures.left ▸ c.number.ensures.left

pub returns-in_err-number-2-clause-left : goal.returns-in_err-number-2-clause-left
returns-in_err-number-2-clause-left c =
    c.record.ensures.left ▸ c.record-2.ensures.left ▸ c.run.ensures.left ▸ c.size.ensures.left ▸ c.number.ensures.left ▸ c.number-2.ensures.left

pub returns-in_err-run-2-clause-left : goal.returns-in_err-run-2-clause-left
returns-in_err-run-2-clause-left c =
    c.record.ensures.left ▸ c.record-2.ensures.left ▸ c.run.ensures.left ▸ c.size.ensures.left ▸ c.number.ensures.left ▸ c.number-2.ensures.left
    ▸ c.run-2.ensures.left

pub returns-in_err-run-3-clause-left : goal.returns-in_err-run-3-clause-left
returns-in_err-run-3-clause-left c =
    c.record.ensures.left ▸ c.record-2.ensures.left ▸ c.run.ensures.left ▸ c.size.ensures.left ▸ c.number.ensures.left ▸ c.number-2.ensures.left
    ▸ c.run-2.ensures.left ▸ c.run-3.ensures.left

pub returns-in_err-size-2-clause-left : goal.returns-in_err-size-2-clause-left
returns-in_err-size-2-clause-left c =
    c.record.ensures.left ▸ c.record-2.ensures.left ▸ c.run.ensures.left ▸ c.size.ensures.left ▸ c.number.ensures.left ▸ c.number-2.ensures.left
    ▸ c.run-2.ensures.left ▸ c.run-3.ensures.left ▸ c.size-2.ensures.left

pub returns-in_err-size-3-clause-left : goal.returns-in_err-size-3-clause-left
returns-in_err-size-3-clause-left c =
    c.record.ensures.left ▸ c.record-2.ensures.left ▸ c.run.ensures.left ▸ c.size.ensures.left ▸ c.number.ensures.left ▸ c.number-2.ensures.left
    ▸ c.run-2.ensures.left ▸ c.run-3.ensures.left ▸ c.size-2.ensures.left ▸ c.size-3.ensures.left

pub returns-in_err-size-4-clause-left : goal.returns-in_err-size-4-clause-left
returns-in_err-size-4-clause-left c =
    c.record.ensures.left ▸ c.record-2.ensures.left ▸ c.run.ensures.left ▸ c.size.ensures.left ▸ c.number.ensures.left ▸ c.number-2.ensures.left
    ▸ c.run-2.ensures.left ▸ c.run-3.ensures.left ▸ c.size-2.ensures.left ▸ c.size-3.ensures.left ▸ c.size-4.ensures.left

pub returns-clause-lent : goal.returns-clause-lent
returns-clause-lent c =
    record {
      a_within = c.in_ok-record.ensures.lent;
      b_within = part_later c.record.ensures.left c.in_ok-record-2.ensures.lent;
      stream_within = part_later (c.record.ensures.left ▸ c.record-2.ensures.left) (run_within _ _ _ c.in_ok-run.ensures.part);
      data_within = part_later
          (c.record.ensures.left ▸ c.record-2.ensures.left ▸ c.run.ensures.left ▸ c.size.ensures.left ▸ c.number.ensures.left ▸ c.number-2.ensures.left)
          (run_within _ _ _ c.in_ok-run-2.ensures.part);
      buffer_within = part_later
          (c.record.ensures.left ▸ c.record-2.ensures.left ▸ c.run.ensures.left ▸ c.size.ensures.left ▸ c.number.ensures.left ▸ c.number-2.ensures.left
          ▸ c.run-2.ensures.left)
          (run_within _ _ _ c.in_ok-run-3.ensures.part);
    }

pub returns-clause-left : goal.returns-clause-left
returns-clause-left c =
    c.record.ensures.left ▸ c.record-2.ensures.left ▸ c.run.ensures.left ▸ c.size.ensures.left ▸ c.number.ensures.left ▸ c.number-2.ensures.left
    ▸ c.run-2.ensures.left ▸ c.run-3.ensures.left ▸ c.size-2.ensures.left ▸ c.size-3.ensures.left ▸ c.size-4.ensures.left
