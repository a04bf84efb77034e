-- `words_bytes::fixed_word` meets its contract: 2^(n − 3) bytes are 2^n bits. Assumes nothing.
use Prim.Native.Nat.{ℕ, ◌-◌, ◌*◌, ◌^◌, ◌≤◌, ◌<◌}
use mathlib.Core.Path.{◌≡◌, sym, ap, ◌∙◌, subst}
use mathlib.Core.Bool.{Bool, true, false}
use mathlib.Core.List.{List}
use native.Mathlib.Omega.{arith}
use lib.Dec.{eqb}
use lib.ListN.{length, get_or}
use borrow.Author.Tests.{eqb-true}
use Rattle.std.specs.Prelude.{Option, IfSome}
use Rattle.std.specs.Bool.{then_some}
use Rattle.meaning.specs.Tables.{Table}
use Rattle.meaning.specs.Bits.{bits_of}
use Rattle.meaning.specs.Words.{word_widths}
use Rattle.meaning.specs.Ladder.{makes, made}
use Rattle.meaning.specs.WordCalls.{bytes_call, bytes_out}
use Rattle.meaning.proofs.WordWidths.{word-widths}
use Rattle.words_laws.proofs.Ranges.{eight_times}
use Rattle.words_bytes.specs.Chosen.{chosen_rungs}
use Rattle.words_bytes.proofs.Picked.{picked}
use Rattle.words_bytes.proofs.fixed_word.Goals as goal

module _ (n : ℕ) (given : List ℕ) (l : 3 ≤ n) (m : n < 32) (w : ℕ) (e : w ≡ get_or word_widths (n - 3) 0) where
  asked : w ≡ 2 ^ (n - 3)
  asked = e ∙ word-widths (n - 3) (omega (arith, m))

  as_many : (b : Bool) → b ≡ eqb (length given) w → IfSome (then_some b n) (λ k. 8 * length given ≡ 2 ^ k)
  as_many true f = ap (λ (k : ℕ). 8 * k) (eqb-true (length given) w (sym f) ∙ asked) ∙ eight_times n l
  as_many false f = tt

  -- What is asked for, and the answer.
  module _ (o : Option ℕ) (f : o ≡ then_some (eqb (length given) w) n) where
    fills : IfSome o (λ k. 8 * length given ≡ 2 ^ k)
    fills = subst (λ p. IfSome p (λ k. 8 * length given ≡ 2 ^ k)) (sym f) (as_many (eqb (length given) w) (λ i. eqb (length given) w))

    call : (t : Table) (res : ℕ) (out : List ℕ)
        → (makes (chosen_rungs t o res) (bits_of given) out ≡ bytes_call t n given res out)
        × (made (chosen_rungs t o res) (bits_of given) out ≡ bytes_out t n given res out)
    call t res out =
        let both = picked t n res (bits_of given) out (eqb (length given) (2 ^ (n - 3))) in
        let g = f ∙ ap (λ (k : ℕ). then_some (eqb (length given) k) n) asked in (
          ap (λ p. makes (chosen_rungs t p res) (bits_of given) out) g ∙ both.0,
          ap (λ p. made (chosen_rungs t p res) (bits_of given) out) g ∙ both.1,
        )

pub bytes_word-requires : goal.bytes_word-requires
bytes_word-requires c =
    let a = c.args in
    fills a.n a.bytes.now c.requires.le_n c.requires.n_bound _ c.word_width-asked.ensures _ c.then_some-word.ensures

pub returns : goal.returns
returns c =
    let a = c.args in
    let both =
    call a.n a.bytes.now c.requires.le_n c.requires.n_bound _ c.word_width-asked.ensures _ c.then_some-word.ensures a.table.now a.res a.out.now in
    record { result_value = c.bytes_word.ensures.result_value ∙ both.0; out_after = c.bytes_word.ensures.out_after ∙ both.1 }
