-- Laws of a run of bits, `take n (drop at v)`: the n bits of v from bit `at` on.
--
--   length_run get_d_run              how many bits it has, and which
--   take_run drop_run                 the beginning of a run, and what follows it, are runs
--   sub_run                           a run within a run
use mathlib.Core.Path.{◌≡◌, sym, ap, ◌∙◌}
use mathlib.Core.List.{List}
use Prim.Native.Nat.{ℕ, ◌+◌, ◌-◌, ◌≤◌, ◌<◌}
use native.Mathlib.Omega.{arith}
use lib.ListN.{length, get_or, take, drop, length-take, length-drop}
use lib.Seq.{take-take, drop-drop, get_or-take, get_or-drop}
use Rattle.std.proofs.lemmas.Slice.{between_is}

module _ {A : Type 0} where
  pub length_run : (v : List A) (at n : ℕ) → at + n ≤ length v → length (take n (drop at v)) ≡ n
  length_run v at n h = omega (arith, length-take n (drop at v), length-drop at v)

  pub get_d_run : (v : List A) (at n i : ℕ) (z : A) → i < n → get_or (take n (drop at v)) i z ≡ get_or v (at + i) z
  get_d_run v at n i z h = get_or-take n (drop at v) i z h ∙ get_or-drop at v i z

  pub take_run : (v : List A) (at n k : ℕ) → k ≤ n → take k (take n (drop at v)) ≡ take k (drop at v)
  take_run v at n k h = take-take k n (drop at v) h

  pub drop_run : (v : List A) (at n k : ℕ) → drop k (take n (drop at v)) ≡ take (n - k) (drop (at + k) v)
  drop_run v at n k = sym (between_is (drop at v) k n) ∙ ap (take (n - k)) (drop-drop k at v)

  pub sub_run : (v : List A) (at n k m : ℕ) → k + m ≤ n → take m (drop k (take n (drop at v))) ≡ take m (drop (at + k) v)
  sub_run v at n k m h = ap (take m) (drop_run v at n k) ∙ take_run v (at + k) (n - k) m (omega arith)
