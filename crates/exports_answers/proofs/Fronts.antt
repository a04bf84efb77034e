-- A list copied to the front of another, an element at a time. Assumes nothing.
--
--   front                       the first n elements copied
--   front_more front_all        one element more; all of them
use Prim.Native.Nat.{ℕ, ◌+◌, ◌≤◌, ◌<◌}
use mathlib.Core.Path.{◌≡◌, ap, ap₂, sym, ◌∙◌}
use mathlib.Core.List.{List, ◌++◌}
use native.Mathlib.Omega.{arith}
use native.Mathlib.Nat.{zero-add}
use native.Mathlib.Numerals.{add-one}
use lib.ListN.{length, get_or, set, drop}
use lib.Seq.{paste, paste-suc, take-length}

-- d with the first n elements of s at its front.
abbrev pub front : List ℕ → List ℕ → ℕ → List ℕ
front d s n = paste d 0 s n

pub front_more : (s d l : List ℕ) (i : ℕ) → i < length s → length s ≤ length d → l ≡ front d s i → set l i (get_or s i 0) ≡ front d s (i + 1)
front_more s d l i more room e =
    let z : 0 + i ≡ i = zero-add i in
    ap₂ (λ (x : List ℕ) (k : ℕ). set x k (get_or s i 0)) e (sym z)
    ∙ paste-suc d 0 s i 0 (omega arith) more
    ∙ ap (front d s) (sym (add-one i))

pub front_all : (s d : List ℕ) → front d s (length s) ≡ s ++ drop (length s) d
front_all s d = ap₂ (λ (x : List ℕ) (n : ℕ). x ++ drop n d) (take-length s) (zero-add (length s))
