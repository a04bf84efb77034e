-- Tests over numbers and lists that the other files share.
--
--   any p xs        some member of xs passes p
--   least p n       the smallest number below n that passes p; n where none does
--   from n k        the k numbers n, n + 1, …
use Rattle.std.specs.Prelude.{ℕ, zero, suc, Bool, false, cond, ◌||◌, List, [], ◌∷◌}

-- Some member of the list passes.
abbrev pub any : {A : Type 0} → (A → Bool) → List A → Bool
any p [] = false
any p (x ∷ xs) = p x || any p xs

-- The smallest number below n that passes, or n where none does.
unfoldable pub least : (ℕ → Bool) → ℕ → ℕ
least p zero = zero
least p (suc n) = cond (p zero) zero (suc (least (λ k. p (suc k)) n))

-- The k numbers from n on.
unfoldable pub from : ℕ → ℕ → List ℕ
from n zero = []
from n (suc k) = n ∷ from (suc n) k
