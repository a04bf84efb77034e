-- Runs of bits, and an order as a number.
--
--   Run s at n        n bits from bit `at` on lie within the bytes s
--   order_no          an order as a number: 0 less, 1 equal, 2 greater
use Prim.Native.Nat.{ℕ, ◌+◌, ◌*◌, ◌^◌, ◌<◌, ◌≤◌, Ordering}
use Rattle.std.specs.Prelude.{List, length}

-- A run of n bits from bit `at` on. It lies within the bytes, and a usize holds the number of each bit of it and of the bit after it.
pub record Run (s : List ℕ) (at n : ℕ) : Type 0 where
  pub inside : at + n ≤ 8 * length s
  pub counted : at + n < 2 ^ 64

-- An order as a number.
abbrev pub order_no : Ordering → ℕ
order_no Ordering.lt = 0
order_no Ordering.eq = 1
order_no Ordering.gt = 2
