-- `exports::table_calls::qv_read_table` meets its contract: what crosses is what the call says, and its place is near. Assumes nothing.
use Rattle.exports.proofs.Offsets.{read_near}
use Rattle.exports_answers.proofs.Crossing.{crossing}
use Rattle.exports.proofs.table_calls.qv_read_table.Goals as goal

pub tell_number-requires : goal.tell_number-requires
tell_number-requires c =
    search (crossing, read_near)

pub returns : goal.returns
returns c =
    record { value = search crossing; count_after = search crossing; kinds_after = search crossing; lefts_after = search crossing; rights_after = search crossing; groups_after = search crossing }
