-- `types_reading::sides_if` meets its contract. Assumes nothing.
use mathlib.Core.Path.{refl, sym, ◌∙◌}
use lib.Dec.{eqb}
use Rattle.tables.specs.Kinds.{kind_no}
use Rattle.checked_present.proofs.Asking.{own_holds, own_passes}
use Rattle.types_reading.proofs.Read.{kinds_alike}
use Rattle.types_reading.proofs.sides_if.Goals as goal

pub returns-then-eq : goal.returns-then-eq
returns-then-eq c =
    let f = c.args.facts in
    own_passes (eqb (kind_no f.kind) (kind_no c.args.kind)) 7 _ (kinds_alike f.kind c.args.kind ∙ sym c.eq.ensures ∙ c.if-eq.true) _ refl

pub returns : goal.returns
returns c =
    let f = c.args.facts in
    own_holds (eqb (kind_no f.kind) (kind_no c.args.kind)) 7 _ (kinds_alike f.kind c.args.kind ∙ sym c.eq.ensures ∙ c.if-eq.false)
