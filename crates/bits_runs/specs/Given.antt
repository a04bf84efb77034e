-- What the two closures of `write_bits` give of n bits v.
--
--   GivesFew        a few of them, as the lowest bits of a number
--   FillsWhole      whole bytes of them
use Rattle.std.specs.Prelude.{ℕ, ◌+◌, ◌*◌, ◌<◌, ◌≤◌, Bool, List, ◌≡◌, length, take, drop}
use denote.MutBor.{MutBor}
use Rattle.meaning.specs.Bits.{bits_of, to_bits}

-- The k bits from bit i on, at most 8, are the lowest of what is answered.
abbrev pub GivesFew : (ℕ → ℕ → ℕ → Type 0) → List Bool → ℕ → Type 0
GivesFew few v n = (i k x : ℕ) → 0 < k → k ≤ 8 → i + k ≤ n → few i k x → to_bits k x ≡ take k (drop i v)

-- The bytes come to hold the bits from bit i on.
abbrev pub FillsWhole : (ℕ → MutBor (List ℕ) → Unit {0} → MutBor (List ℕ) → Type 0) → List Bool → ℕ → Type 0
FillsWhole whole v n =
    (i : ℕ) (bytes filled : MutBor (List ℕ)) → 0 < i → i + 8 * length bytes.now ≤ n → whole i bytes tt filled
    → bits_of filled.now ≡ take (8 * length bytes.now) (drop i v)
