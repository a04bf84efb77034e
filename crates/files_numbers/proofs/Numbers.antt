-- Laws of a number in a file.
--
--   number_at_gone number_at_one number_at_cut number_at_short number_at_third number_at_two
--                               what a number is, by the bytes at its offset
--   in-range out_of_range       a number that is found, in its range or not
--   number_faulty               a number that is not found
-- Assumes nothing.
use Prim.Native.Nat.{ℕ, ◌+◌, ◌*◌, ◌%◌, ◌≤◌, ◌<◌}
use mathlib.Core.Path.{◌≡◌, ap}
use mathlib.Core.Bool.{Bool, true, false}
use mathlib.Core.List.{List}
use native.Mathlib.Omega.{arith}
use lib.ListN.{length, get_or}
use borrow.Author.Tests.{lt-ltb, le-ltb, le-leb, lt-leb}
use Rattle.meaning.specs.Files.{faulty, found, seven_bit_groups, number_at, number}

-- No byte of it is there.
pub number_at_gone : (file : List ℕ) (at : ℕ) → length file ≤ at → faulty at ≡ number_at file at
unfolding seven_bit_groups
number_at_gone file at h = simp (le-ltb at (length file) h)

-- One group.
pub number_at_one : (file : List ℕ) (at : ℕ) → at < length file → get_or file at 0 < 128 → found (get_or file at 0) (at + 1) ≡ number_at file at
unfolding seven_bit_groups
number_at_one file at h one = simp (lt-ltb at (length file) h, lt-ltb (get_or file at 0) 128 one)

-- A first group that another must follow: the second decides.
module _ (file : List ℕ) (at : ℕ) (h : at < length file) (more : 128 ≤ get_or file at 0) where
  -- The file ends before it.
  pub number_at_cut : length file ≤ at + 1 → faulty at ≡ number_at file at
  unfolding seven_bit_groups
  number_at_cut e = simp (lt-ltb at (length file) h, le-ltb (get_or file at 0) 128 more, le-ltb (at + 1) (length file) e)

  -- It is 0, so one group was enough.
  pub number_at_short : at + 1 < length file → get_or file (at + 1) 0 < 1 → faulty at ≡ number_at file at
  unfolding seven_bit_groups
  number_at_short e s =
      simp (
        lt-ltb at (length file) h,
        le-ltb (get_or file at 0) 128 more,
        lt-ltb (at + 1) (length file) e,
        lt-ltb (get_or file (at + 1) 0) 128 (omega arith),
        lt-leb 1 (get_or file (at + 1) 0) s,
      )

  -- It says that a third follows.
  pub number_at_third : at + 1 < length file → 1 ≤ get_or file (at + 1) 0 → 128 ≤ get_or file (at + 1) 0 → faulty at ≡ number_at file at
  unfolding seven_bit_groups
  number_at_third e s t =
      simp (
        lt-ltb at (length file) h,
        le-ltb (get_or file at 0) 128 more,
        lt-ltb (at + 1) (length file) e,
        le-ltb (get_or file (at + 1) 0) 128 t,
      )

  -- Two groups.
  pub number_at_two : at + 1 < length file → 1 ≤ get_or file (at + 1) 0 → get_or file (at + 1) 0 < 128
      → found (get_or file at 0 % 128 + 128 * get_or file (at + 1) 0) (at + 2) ≡ number_at file at
  unfolding seven_bit_groups
  number_at_two e s t =
      simp (
        lt-ltb at (length file) h,
        le-ltb (get_or file at 0) 128 more,
        lt-ltb (at + 1) (length file) e,
        le-leb 1 (get_or file (at + 1) 0) s,
        lt-ltb (get_or file (at + 1) 0) 128 t,
      )
      (ap (found (get_or file at 0 % 128 + 128 * get_or file (at + 1) 0)) after)
    where
      after : at + 2 ≡ at + 1 + 1
      after = omega arith

-- A number that is found, by the test of its range; and one that is not.
module _ (p : ℕ → Bool) (file : List ℕ) (at : ℕ) where
  pub in-range : (n next : ℕ) → found n next ≡ number_at file at → p n ≡ true → found n next ≡ number p file at
  in-range n next e t = rw (← e, t)

  pub out_of_range : (n next : ℕ) → found n next ≡ number_at file at → p n ≡ false → faulty at ≡ number p file at
  out_of_range n next e t = rw (← e, t)

  pub number_faulty : faulty at ≡ number_at file at → faulty at ≡ number p file at
  number_faulty e = rw (← e)
