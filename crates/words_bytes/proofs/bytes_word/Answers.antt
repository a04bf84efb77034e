-- `words_bytes::bytes_word` meets its contract: the ladder's numbers in their order, then the bits of the bytes. Assumes nothing.
use Prim.Native.Nat.{ℕ, ◌*◌, ◌^◌, ◌≤◌, ◌<◌}
use mathlib.Core.Path.{◌≡◌, sym, ap, ◌∙◌, subst}
use mathlib.Core.Bool.{Bool, true, false}
use mathlib.Core.List.{List, [], ◌∷◌}
use native.Mathlib.Nat.{le_of_eq}
use native.Mathlib.Omega.{arith}
use lib.ListN.{length, take}
use lib.Seq.{take_all}
use Rattle.std.specs.Prelude.{Option, None, Some, IfSome}
use Rattle.std.specs.Option.{ok_or}
use Rattle.answers.specs.declared.Refusal.{Refusal}
use Rattle.answers.specs.Verdicts.{count_of}
use Rattle.answers.proofs.Exits.{handed_on}
use Rattle.meaning.specs.Tables.{Table}
use Rattle.meaning.specs.Bits.{bits_of, written}
use Rattle.meaning.specs.Words.{is_word}
use Rattle.meaning.specs.Ladder.{refused, accepted, Rung, ladder, named, type_at, makes, made}
use Rattle.meaning.proofs.Words.{is_word_bits}
use Rattle.bits.proofs.OfBytes.{length_bits_of}
use Rattle.checked.proofs.Handed.{checked_named}
use Rattle.checked.proofs.Passed.{named_passed}
use Rattle.checked.proofs.Made.{stopped, short, done}
use Rattle.checked.proofs.Shaped.{range_stop, range_missed, range_shape, range_pass}
use Rattle.words_bytes.specs.Chosen.{chosen_rungs}
use Rattle.words_bytes.proofs.bytes_word.Goals as goal

module _ (t : Table) (given : List ℕ) (res : ℕ) (out : List ℕ) where
  abbrev first : List Rung
  first = named t (res ∷ [])

  -- A refusal of the call with that word, and nothing written.
  abbrev Refused : Option ℕ → ℕ → ℕ → Type 0
  Refused o m p =
      (refused m p ≡ makes (chosen_rungs t o res) (bits_of given) out) × (out ≡ made (chosen_rungs t o res) (bits_of given) out)

  unnamed : (o : Option ℕ) (m p : ℕ) → refused m p ≡ ladder first (tt {0}) → Refused o m p
  unnamed None m p e = stopped (chosen_rungs t None res) (bits_of given) out m p (range_stop first false false m p (sym e))
  unnamed (Some n) m p e =
      stopped (chosen_rungs t (Some n) res) (bits_of given) out m p (range_stop first true (is_word n (type_at t res)) m p (sym e))

  module _ (h : accepted (tt {0}) ≡ ladder first (tt {0})) where
    no_word : (o : Option ℕ) → o ≡ None → Refused o 6 0
    no_word o e =
        subst (λ q. Refused q 6 0) (sym e)
        (stopped (chosen_rungs t None res) (bits_of given) out 6 0 (range_missed first false false (sym h) (λ i. false)))

    other_shape : (o : Option ℕ) (n : ℕ) → o ≡ Some n → is_word n (type_at t res) ≡ false → Refused o 7 0
    other_shape o n e f =
        subst (λ q. Refused q 7 0) (sym e)
        (stopped (chosen_rungs t (Some n) res) (bits_of given) out 7 0
        (range_shape first true (is_word n (type_at t res)) (sym h) (λ i. true) f))

    module _ (o : Option ℕ) (n : ℕ) (e : o ≡ Some n) (f : is_word n (type_at t res) ≡ true) where
      clear : ladder (chosen_rungs t (Some n) res) (tt {0}) ≡ accepted (tt {0})
      clear = range_pass first true (is_word n (type_at t res)) (sym h) (λ i. true) f

      -- The bytes are those of a word that is not too wide.
      narrow : IfSome o (λ k. 8 * length given ≡ 2 ^ k) → 8 * length given ≤ 524288
      narrow g =
          let w : 8 * length given ≡ 2 ^ n = subst (λ q. IfSome q (λ k. 8 * length given ≡ 2 ^ k)) e g in
          let b = is_word_bits n (type_at t res) f in
          omega (arith, w, b, (named_passed t (res ∷ []) (sym h)).1.0.narrow)

      no_room : length out < length given → Refused o 9 0
      no_room k =
          subst (λ q. Refused q 9 0) (sym e)
          (short (chosen_rungs t (Some n) res) (bits_of given) out clear (omega (arith, length_bits_of given, k)))

      wrote : length given ≤ length out → (new : List ℕ) → new ≡ written (take (8 * length given) (bits_of given)) out
          → (accepted (8 * length given) ≡ makes (chosen_rungs t o res) (bits_of given) out)
          × (new ≡ made (chosen_rungs t o res) (bits_of given) out)
      wrote k new d =
          subst
          (λ q.
          (accepted (8 * length given) ≡ makes (chosen_rungs t q res) (bits_of given) out)
          × (new ≡ made (chosen_rungs t q res) (bits_of given) out))
          (sym e)
          (done (chosen_rungs t (Some n) res) (bits_of given) out clear (omega (arith, length_bits_of given, k)) (8 * length given)
          (sym (length_bits_of given)) new
          (d ∙ ap (λ (v : List Bool). written v out) (take_all (8 * length given) (bits_of given) (le_of_eq (length_bits_of given)))))

pub returns-in_err-checked : goal.returns-in_err-checked
returns-in_err-checked c =
    let a = c.args in
    let both = unnamed a.table.now a.bytes.now a.res a.out.now a.word _ _ c.in_err-checked.ensures.answer in
    record { result_value = handed_on (λ n. n) _ _ c.from_residual.ensures.1 _ both.0; out_after = both.1 }

pub returns-in_err-n : goal.returns-in_err-n
returns-in_err-n c =
    let a = c.args in
    let none = c.in_err-n.ensures.ok_part in
    let both = no_word a.table.now a.bytes.now a.res a.out.now c.in_ok-checked.ensures.answer a.word none in
    record {
      result_value =
          handed_on (λ n. n) _ _ c.from_residual-in_err-n.ensures.1 _
          (ap count_of (c.in_err-n.ensures.value ∙ ap (λ (o : Option ℕ). ok_or o Refusal.OutOfRange) none) ∙ both.0);
      out_after = both.1;
    }

pub is_word-requires : goal.is_word-requires
is_word-requires c =
    (checked_named c.args.table.now _ c.in_ok-checked.ensures.same (c.args.res ∷ []) c.in_ok-checked.ensures.answer).0.here

-- Whether the result is word n of the table that was asked.
asked : (t u : Table) (n res : ℕ) {b d : Bool} → u ≡ t → b ≡ is_word n (type_at u res) → b ≡ d → is_word n (type_at t res) ≡ d
asked t u n res s e f = ap (λ (z : Table). is_word n (type_at z res)) (sym s) ∙ sym e ∙ f

pub returns-then-not-is_word : goal.returns-then-not-is_word
returns-then-not-is_word c =
    let a = c.args in
    let both =
    other_shape a.table.now a.bytes.now a.res a.out.now c.in_ok-checked.ensures.answer a.word _ c.in_ok-n.ensures.ok_part
    (asked a.table.now _ _ a.res c.in_ok-checked.ensures.same c.is_word.ensures c.if-not-is_word.true) in
    record { result_value = both.0; out_after = both.1 }

pub returns-then-out-bytes : goal.returns-then-out-bytes
returns-then-out-bytes c =
    let a = c.args in
    let both =
    no_room a.table.now a.bytes.now a.res a.out.now c.in_ok-checked.ensures.answer a.word _ c.in_ok-n.ensures.ok_part
    (asked a.table.now _ _ a.res c.in_ok-checked.ensures.same c.is_word.ensures c.if-not-is_word.false)
    (omega arith) in
    record { result_value = both.0; out_after = both.1 }

pub overflow_mul-width : goal.overflow_mul-width
overflow_mul-width c =
    let a = c.args in
    let m =
    narrow a.table.now a.bytes.now a.res a.out.now c.in_ok-checked.ensures.answer a.word _ c.in_ok-n.ensures.ok_part
    (asked a.table.now _ _ a.res c.in_ok-checked.ensures.same c.is_word.ensures c.if-not-is_word.false) c.requires in
    record { fits = omega arith }

pub write_run-requires : goal.write_run-requires
write_run-requires c =
    let a = c.args in
    let m =
    narrow a.table.now a.bytes.now a.res a.out.now c.in_ok-checked.ensures.answer a.word _ c.in_ok-n.ensures.ok_part
    (asked a.table.now _ _ a.res c.in_ok-checked.ensures.same c.is_word.ensures c.if-not-is_word.false) c.requires in
    record { run = record { inside = omega arith; counted = omega arith }; run_2 = record { inside = omega arith; counted = omega arith } }

pub returns : goal.returns
returns c =
    let a = c.args in
    let both =
    wrote a.table.now a.bytes.now a.res a.out.now c.in_ok-checked.ensures.answer a.word _ c.in_ok-n.ensures.ok_part
    (asked a.table.now _ _ a.res c.in_ok-checked.ensures.same c.is_word.ensures c.if-not-is_word.false)
    (omega arith) c.write_run.new.out c.write_run.ensures in
    record { result_value = both.0; out_after = both.1 }
