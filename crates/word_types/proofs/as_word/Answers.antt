-- `word_types::as_word` meets its contract: a word type has an n below 32. Assumes nothing.
use Prim.Native.Nat.{◌<◌}
use mathlib.Core.Path.{◌≡◌, ap, ◌∙◌, subst}
use mathlib.Core.List.{[], ◌∷◌}
use lib.Dec.{ltb}
use Rattle.std.specs.Prelude.{MatchOption}
use Rattle.meaning.specs.Tables.{Table}
use Rattle.meaning.specs.Words.{as_word}
use Rattle.meaning.specs.Ladder.{type_at, shaped}
use Rattle.answers.specs.Verdicts.{count_of}
use Rattle.answers.proofs.Exits.{handed_on}
use Rattle.checked.proofs.Handed.{checked_present}
use Rattle.checked_present.proofs.Asking.{asks_stop}
use Rattle.word_types.proofs.Shaped.{word_told}
use Rattle.word_types.proofs.as_word.Goals as goal

pub returns-in_err-checked : goal.returns-in_err-checked
returns-in_err-checked c =
    let a = c.args in
    let w = as_word (type_at a.table.now a.node) in
    handed_on (λ n. n) _ _ c.from_residual.ensures.1 _
    (asks_stop a.table.now (a.node ∷ []) (shaped (ltb w 32)) w _ _ c.in_err-checked.ensures.answer)

pub word_of-requires : goal.word_of-requires
word_of-requires c =
    (checked_present c.args.table.now _ c.in_ok-checked.ensures.same (c.args.node ∷ []) c.in_ok-checked.ensures.answer).0.here

pub returns : goal.returns
returns c =
    let a = c.args in
    let o = c.word_of.result in
    ap count_of c.ok_or.ensures.value
    ∙ word_told a.table.now a.node c.in_ok-checked.ensures.answer o
    (subst (λ (t : Table). MatchOption o (as_word (type_at t a.node) ≡ 32) (λ n. (n < 32) × (as_word (type_at t a.node) ≡ n))) c.in_ok-checked.ensures.same
    c.word_of.ensures)
