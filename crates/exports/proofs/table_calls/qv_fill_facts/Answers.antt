-- `exports::table_calls::qv_fill_facts` meets its contract: what crosses is what the call says, and its place is near. Assumes nothing.
use Rattle.exports.proofs.Places.{fill_near}
use Rattle.exports_answers.proofs.Crossing.{crossing}
use Rattle.exports.proofs.table_calls.qv_fill_facts.Goals as goal

pub tell_done-requires : goal.tell_done-requires
tell_done-requires c =
    search (crossing, fill_near)

pub returns : goal.returns
returns c =
    record { value = search crossing; groups_after = search crossing }
