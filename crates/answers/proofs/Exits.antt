-- Where a call hands a refusal on, it answers that refusal.
--
--   handed_on                   the exit of a `?`
-- Assumes nothing.
use mathlib.Core.Path.{◌≡◌, ap, ◌∙◌}
use Rattle.std.specs.Prelude.{Result, Err, IsErrAnd}
use Rattle.std.proofs.lemmas.Result.{err_from_is_err_and}
use Rattle.meaning.specs.Ladder.{Answer}
use Rattle.answers.specs.declared.Refusal.{Refusal}
use Rattle.answers.specs.Verdicts.{refusal_of, answer_of}

pub handed_on : {T A : Type 0} (f : T → A) (r : Result T Refusal) (e : Refusal) → IsErrAnd r (λ y. y ≡ e) → (a : Answer A) → refusal_of e ≡ a
    → answer_of f r ≡ a
handed_on f r e h a k =
    let p = err_from_is_err_and r h in ap (answer_of f) p.1 ∙ ap refusal_of p.2 ∙ k
