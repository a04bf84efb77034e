-- `exports::word_type_calls::qv_buffer_width` meets its contract: what crosses is what the call says, and its place is near. Assumes nothing.
use Rattle.exports.proofs.Nears.{buffer_width_near}
use Rattle.exports_answers.proofs.Crossing.{crossing}
use Rattle.exports.proofs.word_type_calls.qv_buffer_width.Goals as goal

pub tell_number-requires : goal.tell_number-requires
tell_number-requires c =
    search (crossing, buffer_width_near)

pub returns : goal.returns
returns c =
    record { value = search crossing; width_after = search crossing }
