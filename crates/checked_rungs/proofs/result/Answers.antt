-- `checked_rungs::result` meets its contract: with no record there is no fifth rung to ask. Assumes nothing.
use mathlib.Core.Path.{sym, ◌∙◌}
use mathlib.Core.List.{[], ◌∷◌}
use Rattle.checked_rungs.proofs.Asked.{no_record}
use Rattle.checked_rungs.proofs.result.Goals as goal

pub returns-clause-answer : goal.returns-clause-answer
returns-clause-answer c =
    c.named.ensures.answer ∙ sym (no_record c.args.table.now (c.args.res ∷ []))
