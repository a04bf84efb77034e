-- `words::words::word_of_bytes` meets its contract: only the number of zeros below the lowest bit can be the exponent. Assumes nothing.
use Prim.Native.Nat.{ℕ, ◌+◌, ◌^◌, ◌≤◌, ◌<◌}
use mathlib.Core.Path.{◌≡◌, refl, sym, ap, ap₂, ◌∙◌}
use mathlib.Core.Bool.{Bool, true, false}
use native.Mathlib.Omega.{arith}
use lib.Count.{count_trailing_zeros}
use lib.Dec.{eqb, ltb}
use lib.ListN.{get_or}
use borrow.Author.Tests.{lt-ltb, le-ltb, eqb-true, eqb-false}
use Rattle.std.specs.Prelude.{Option, None}
use Rattle.std.specs.Bool.{then_some}
use Rattle.meaning.specs.Words.{word_widths, exponent}
use Rattle.meaning.proofs.WordWidths.{word-widths}
use Rattle.words_laws.proofs.Ranges.{exponent_pow, exponent_is, exponent_zeros}
use Rattle.words.proofs.words.word_of_bytes.Goals as goal

module _ (len : ℕ) where
  -- The word of so many bytes.
  abbrev array : Option ℕ
  array = then_some (ltb (exponent len) 29) (3 + exponent len)

  none : 29 ≤ exponent len → None ≡ array
  none l = ap (λ b. then_some b (3 + exponent len)) (sym (le-ltb (exponent len) 29 l))

  past : (k : ℕ) → k ≡ count_trailing_zeros 64 len → 29 ≤ k → None ≡ array
  past k e l =
      let low : exponent len < 29 → ⊥ = λ h. let z = exponent_zeros len h in omega (arith, e, l) in
      none (omega (arith, low))

  candidate : (k w : ℕ) → k ≡ count_trailing_zeros 64 len → k < 29 → w ≡ get_or word_widths k 0 → (b : Bool) → b ≡ eqb w len
      → then_some b (3 + k) ≡ array
  candidate k w e l f true g =
      let p : w ≡ 2 ^ k = f ∙ word-widths k (omega (arith, l)) in
      let x = exponent_is k len l (sym p ∙ eqb-true w len (sym g)) in
      ap₂ then_some (sym (lt-ltb (exponent len) 29 (omega (arith, x, l)))) (ap (λ (j : ℕ). 3 + j) (sym x))
  candidate k w e l f false g =
      let p : w ≡ 2 ^ k = f ∙ word-widths k (omega (arith, l)) in
      let low : exponent len < 29 → ⊥ =
      λ h. eqb-false w len (sym g) (p ∙ ap (λ (j : ℕ). 2 ^ j) (e ∙ exponent_zeros len h) ∙ exponent_pow len h) in
      none (omega (arith, low))

pub returns-then-n-ge-WORDS : goal.returns-then-n-ge-WORDS
returns-then-n-ge-WORDS c =
    past c.args.size (count_trailing_zeros 64 c.args.size) refl (omega arith)

pub returns : goal.returns
returns c =
    c.then_some.ensures
    ∙ candidate c.args.size (count_trailing_zeros 64 c.args.size) _ refl (omega arith) c.word_width.ensures _ refl
