-- `table::fill_facts` meets its contract: what is judged to be right can be filled in. Assumes nothing.
use Rattle.table_filling.proofs.Fillings.{fillable}
use Rattle.table.proofs.fill_facts.Goals as goal

pub fill-requires : goal.fill-requires
fill-requires c =
    (fillable c.args.columns.now c.args.count c.args.groups.now c.in_ok-may_fill.ensures).can_fill
