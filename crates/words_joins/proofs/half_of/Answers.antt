-- `words_joins::half_of` meets its contract: the three tests of a join, and the width of a word. Assumes nothing.
use Prim.Native.Nat.{ℕ, suc, ◌+◌, ◌<◌}
use mathlib.Core.Path.{◌≡◌, sym, ap, ap₂, ◌∙◌}
use mathlib.Core.Bool.{Bool, true, ◌&&◌}
use native.Mathlib.Numerals.{add-one}
use native.Mathlib.Omega.{arith}
use lib.Dec.{ltb}
use lib.ListN.{get_or}
use borrow.Author.Tests.{lt-ltb}
use Rattle.std.specs.Bool.{then_some}
use Rattle.meaning.specs.Types.{Ty, bits}
use Rattle.meaning.specs.Words.{word, word_widths, is_word, as_word, joins}
use Rattle.meaning.specs.Ladder.{type_at}
use Rattle.meaning.proofs.Tests.{and_no_left}
use Rattle.meaning.proofs.WordWidths.{word_widths_bits}
use Rattle.meaning.proofs.WordNames.{as_word_word}
use Rattle.words_joins.proofs.half_of.Goals as goal
use Rattle.words_joins.proofs.half_of.Goals.{then-is_word, else-is_word}

-- The first type is word n.
module _ (x y z : Ty) (n : ℕ) (h : (n < 32) × (as_word x ≡ n)) where
  wide : (w : ℕ) → w ≡ get_or word_widths n 0 → w ≡ bits x
  wide w e =
      let low : as_word x < 32 = omega (arith, h.0, h.1) in
      e ∙ word_widths_bits n h.0 ∙ ap (λ (k : ℕ). bits (word k)) (sym h.1) ∙ sym (ap bits (as_word_word x low))

  alike : n + 1 < 32 → (is_word n y && is_word (n + 1) z) ≡ joins x y z
  alike l =
      let small : ltb (as_word x) 31 ≡ true = lt-ltb (as_word x) 31 (omega (arith, h.1)) in
      ap₂ (λ (j k : ℕ). is_word j y && is_word k z) (sym h.1) (add-one n ∙ ap suc (sym h.1))
      ∙ ap (λ (b : Bool). b && is_word (as_word x) y && is_word (suc (as_word x)) z) (sym small)

-- The second test is asked where the first passes.
after_first : {p q v : Bool} → true ≡ p → v ≡ q → v ≡ (p && q)
after_first {q = q} e f = f ∙ ap (λ (b : Bool). b && q) e

pub returns : goal.returns
returns c =
    let t = c.args.table.now in
    let n = c.in_ok-n.n in
    let x = type_at t c.args.a in
    let y = type_at t c.args.b in
    let z = type_at t c.args.whole in
    let both : c.if-is_word.alike ≡ (is_word n y && is_word (n + 1) z) =
    elim c.if-is_word.branch [
      | then-is_word w ↦ after_first w.if-is_word.ensures (w.alike-is ∙ w.is_word-alike.ensures)
      | else-is_word w ↦ w.alike-is ∙ w.if-is_word.false ∙ sym (and_no_left _ _ (sym w.if-is_word.ensures))
    ]
    in
    c.then_some.ensures
    ∙ ap₂ then_some (both ∙ alike x y z n c.in_ok-n.ensures (omega arith)) (wide x y z n c.in_ok-n.ensures _ c.word_width.ensures)
