-- `groups::put_group` meets its contract: a yes or no is laid as its number. Assumes nothing.
use Rattle.std.proofs.Common.{ℕ, ◌*◌, ap, ◌∙◌, rules}
use Rattle.std.proofs.Math.Seq.{paste}
use Rattle.meaning.specs.Groups.{group, group_size}
use Rattle.groups.proofs.put_group.Goals as goal

pub returns : goal.returns
returns c =
    let a = c.args in
    c.put_facts.ensures
    ∙ ap (λ (p : ℕ). paste a.groups.now (group_size * a.n) (group a.facts.width a.facts.size p a.facts.class a.facts.least) group_size) (search rules)
