-- `words::words::from_byte_array` meets its contract: a length of 2^k bytes is that of word 3 + k. Assumes nothing.
use Prim.Native.Nat.{ℕ, ◌+◌, ◌*◌, ◌^◌}
use mathlib.Core.Path.{◌≡◌, refl, sym, ap, ◌∙◌, subst}
use mathlib.Core.Bool.{Bool, true, false}
use mathlib.Core.List.{List}
use lib.Dec.{ltb}
use lib.ListN.{length}
use borrow.Author.Tests.{ltb-true}
use Rattle.std.specs.Prelude.{Option, IfSome}
use Rattle.std.specs.Bool.{then_some}
use Rattle.meaning.specs.Tables.{Table}
use Rattle.meaning.specs.Bits.{bits_of}
use Rattle.meaning.specs.Words.{exponent}
use Rattle.meaning.specs.Ladder.{makes, made}
use Rattle.meaning.specs.WordCalls.{array_call, array_out}
use Rattle.words_laws.proofs.Ranges.{exponent_bytes}
use Rattle.words_bytes.specs.Chosen.{chosen_rungs}
use Rattle.words_bytes.proofs.Picked.{picked}
use Rattle.words.proofs.words.from_byte_array.Goals as goal

module _ (given : List ℕ) (o : Option ℕ) where
  -- The exponent of the length.
  abbrev k : ℕ
  k = exponent (length given)

  as_many : (b : Bool) → b ≡ ltb k 29 → IfSome (then_some b (3 + k)) (λ n. 8 * length given ≡ 2 ^ n)
  as_many true e = exponent_bytes k (length given) refl (ltb-true k 29 (sym e))
  as_many false e = tt

  module _ (e : o ≡ then_some (ltb k 29) (3 + k)) where
    fills : IfSome o (λ n. 8 * length given ≡ 2 ^ n)
    fills = subst (λ p. IfSome p (λ n. 8 * length given ≡ 2 ^ n)) (sym e) (as_many (ltb k 29) refl)

    call : (t : Table) (res : ℕ) (out : List ℕ)
        → (makes (chosen_rungs t o res) (bits_of given) out ≡ array_call t given res out)
        × (made (chosen_rungs t o res) (bits_of given) out ≡ array_out t given res out)
    call t res out =
        let both = picked t (3 + k) res (bits_of given) out (ltb k 29) in (
          ap (λ p. makes (chosen_rungs t p res) (bits_of given) out) e ∙ both.0,
          ap (λ p. made (chosen_rungs t p res) (bits_of given) out) e ∙ both.1,
        )

pub bytes_word-requires : goal.bytes_word-requires
bytes_word-requires c =
    fills c.args.bytes.now _ c.word_of_bytes-word.ensures

pub returns : goal.returns
returns c =
    let a = c.args in
    let both = call a.bytes.now _ c.word_of_bytes-word.ensures a.table.now a.res a.out.now in
    record { result_value = c.bytes_word.ensures.result_value ∙ both.0; out_after = c.bytes_word.ensures.out_after ∙ both.1 }
