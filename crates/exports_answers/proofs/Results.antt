-- What a caller reads off a result.
--
--   number_again place_again    number and place come apart again
--   refused_code                a refusal is never 0
-- Assumes nothing.
use Prim.Native.Nat.{ℕ, ◌/◌, ◌%◌, ◌≤◌, ◌<◌}
use mathlib.Core.Path.{◌≡◌}
use native.Mathlib.Omega.{arith}
use Rattle.meaning.specs.Ladder.{refused}
use Rattle.exports_answers.specs.Codes.{code}

-- The results of refusals, whatever would have been accepted.
module _ (A : Type 0) (n p : ℕ) where
  pub number_again : n < 256 → code {A = A} (refused n p) % 256 ≡ n
  number_again l = omega arith

  pub place_again : n < 256 → code {A = A} (refused n p) / 256 ≡ p
  place_again l = omega arith

  pub refused_code : 1 ≤ n → code {A = A} (refused n p) ≡ 0 → ⊥
  refused_code l e = omega arith
