-- `exports::views::qv_as_product` meets its contract: what crosses is what the call says, and its place is near. Assumes nothing.
use native.Mathlib.Omega.{arith}
use mathlib.Core.Path.{ap, ◌∙◌}
use Rattle.answers.specs.Verdicts.{spots}
use Rattle.exports_answers.specs.Codes.{spots_list}
use Rattle.meaning.specs.Ladder.{record_of}
use Rattle.meaning.specs.RecordCalls.{as_product_call}
use Rattle.meaning.specs.Tables.{Table}
use Rattle.exports.proofs.Nears.{as_product_near}
use Rattle.exports_answers.proofs.Crossing.{crossing, roomy_of, all_of}
use Rattle.exports.proofs.views.qv_as_product.Goals as goal

pub tell_numbers-requires : goal.tell_numbers-requires
tell_numbers-requires c =
    record { near = search (crossing, as_product_near); few = omega arith }

pub returns : goal.returns
returns c =
    let e = c.as_product.ensures ∙ ap (λ (t : Table). as_product_call t (record_of c.args.bytes.now c.args.offset c.args.node)) c.new-table.ensures in
    record {
      value = roomy_of spots _ _ e spots_list _ _ c.tell_numbers.ensures.value;
      views_after = all_of spots _ _ e spots_list _ _ c.tell_numbers.ensures.lent_after;
    }
