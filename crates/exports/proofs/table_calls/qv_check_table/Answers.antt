-- `exports::table_calls::qv_check_table` meets its contract: what crosses is what the call says, and its place is near. Assumes nothing.
use mathlib.Core.Path.{ap, ◌∙◌}
use Rattle.exports_answers.specs.Codes.{code}
use Rattle.meaning.specs.Tables.{Table}
use Rattle.meaning.specs.TypeCalls.{check_table_call}
use Rattle.exports.proofs.Nears.{check_table_near}
use Rattle.exports_answers.proofs.Crossing.{crossing}
use Rattle.exports.proofs.table_calls.qv_check_table.Goals as goal

pub tell_done-requires : goal.tell_done-requires
tell_done-requires c =
    search (crossing, check_table_near)

pub returns : goal.returns
returns c =
    let e = c.check_table.ensures ∙ ap (λ (t : Table). check_table_call t) c.new-table.ensures in
    c.tell_done.ensures ∙ ap code e
