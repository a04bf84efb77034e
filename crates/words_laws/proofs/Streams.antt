-- Words read from a stream: which bits they are.
--
--   rest_take                   the first bits of what is left of a stream
-- Assumes nothing.
use Prim.Native.Nat.{ℕ, ◌+◌, ◌≤◌}
use mathlib.Core.Path.{◌≡◌, ap, ◌∙◌}
use native.Mathlib.Nat.{zero-add}
use lib.ListN.{take, drop}
use Rattle.meaning.specs.Bits.{bits_of}
use Rattle.meaning.specs.Ladder.{Stream, rest_of}
use Rattle.bits.proofs.Runs.{sub_run}

pub rest_take : (s : Stream) (w : ℕ) → s.position + w ≤ s.until → take w (rest_of s) ≡ take w (drop s.position (bits_of s.bytes))
unfolding rest_of
rest_take s w h =
    sub_run (bits_of s.bytes) 0 s.until s.position w h
    ∙ ap (λ (k : ℕ). take w (drop k (bits_of s.bytes))) (zero-add s.position)
