-- Numbers in bytes, and groups of them: document 02, K9 and K1. The facts of a node lie in one group of bytes, numbers low byte first, one group after
-- the other, no byte spare.
--
--   low low_bytes                the number that bytes say, and the bytes of a number
--   group group_size            the group of five facts, and how many bytes it has
--   fact_in                     one fact of every node that has a whole group
use Rattle.std.specs.Prelude.{ℕ, zero, suc, ◌+◌, ◌*◌, ◌/◌, ◌%◌, List, [], ◌∷◌, ◌++◌, map, length, drop}
use Rattle.meaning.specs.Choice.{from}

-- The number that k bytes say, the low byte first; bytes that are not there are zero.
unfoldable pub low : ℕ → List ℕ → ℕ
low zero s = 0
low (suc k) [] = 0
low (suc k) (b ∷ s) = b + 256 * low k s

-- The k low bytes of a number, the low byte first.
unfoldable pub low_bytes : ℕ → ℕ → List ℕ
low_bytes zero x = []
low_bytes (suc k) x = x % 256 ∷ low_bytes k (x / 256)

-- A group: width in 8 bytes, size in 8, padded in 1, class in 2, least length in 8.
abbrev pub group : ℕ → ℕ → ℕ → ℕ → ℕ → List ℕ
group w z p k l = low_bytes 8 w ++ (low_bytes 8 z ++ (low_bytes 1 p ++ (low_bytes 2 k ++ low_bytes 8 l)))

-- How many bytes a group has.
abbrev pub group_size : ℕ
group_size = 27

-- A fact of every node that has a whole group: the number of the k bytes from byte `at` of its group on.
unfoldable pub fact_in : ℕ → ℕ → List ℕ → List ℕ
fact_in at k groups = map (λ n. low k (drop (group_size * n + at) groups)) (from 0 (length groups / group_size))
