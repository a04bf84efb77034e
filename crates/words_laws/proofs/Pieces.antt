-- Records put together from bit 0 of an output on, piece by piece.
--
--   paste_part                  the next piece of a whole, after those before it
--   paste_start                 the first piece
-- Assumes nothing.
use mathlib.Core.Path.{◌≡◌, refl, sym}
use mathlib.Core.List.{List}
use Prim.Native.Nat.{ℕ, ◌+◌, ◌≤◌, zero-le}
use native.Mathlib.Nat.{zero-add}
use lib.ListN.{length, take, drop}
use lib.Seq.{paste}
use Rattle.meaning.proofs.Pasted.{paste_same, paste_on}

module _ {A : Type 0} where
  pub paste_start : (d whole s : List A) (n : ℕ) → take n s ≡ take n whole → paste d 0 s n ≡ paste d 0 whole n
  paste_start d whole s n e = paste_same d s whole 0 n e

  pub paste_part : (d whole s : List A) (at n : ℕ) → at ≤ length whole → take n s ≡ take n (drop at whole)
      → paste (paste d 0 whole at) at s n ≡ paste d 0 whole (at + n)
  paste_part d whole s at n h e =
      paste_on d whole s (paste d 0 whole at) (paste (paste d 0 whole at) at s n) 0 at at n zero-le h refl refl (sym (zero-add at)) e
