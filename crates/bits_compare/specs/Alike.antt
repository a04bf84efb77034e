-- Two runs of bits that begin alike.
--
--   Alike v i w j n k       k bits are alike, out of n that are compared
use Rattle.std.specs.Prelude.{ℕ, ◌≤◌, Bool, List, ◌≡◌, take, drop}

-- Of the n bits of v from bit i on, and of w from bit j on, the first k are the same.
pub record Alike (v : List Bool) (i : ℕ) (w : List Bool) (j n k : ℕ) : Type 0 where
  pub counted : k ≤ n
  pub same : take k (drop i v) ≡ take k (drop j w)
