-- Which answer of a call on records a view stands for: where it stands, whatever its bytes.
--
--   place          the offset and the node of a view
--   view_of views_of     the answers: one view, two views
use Rattle.std.specs.Prelude.{Result}
use Rattle.meaning.specs.Ladder.{Answer}
use Rattle.meaning.specs.RecordCalls.{Spot, Spots}
use Rattle.answers.specs.declared.Refusal.{Refusal}
use Rattle.answers.specs.Verdicts.{answer_of}
use Rattle.view.specs.declared.View.{View}

-- Where a view stands: its offset and its node.
abbrev pub place : View → Spot
place v = record { offset = v.offset; node = v.node }

-- A view of a side, or a refusal.
abbrev pub view_of : Result View Refusal → Answer Spot
view_of r = answer_of place r

-- Views of both parts, the first before the second, or a refusal.
abbrev pub views_of : Result (View × View) Refusal → Answer Spots
views_of r = answer_of (λ v. record { first = place v.0; second = place v.1 }) r
