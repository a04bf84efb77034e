-- `words_numbers::number_word` meets its contract: the ladder's numbers in their order, then the bits of the number. Assumes nothing.
use Prim.Native.Nat.{ℕ, ◌/◌, ◌^◌, ◌≤◌, ◌<◌}
use mathlib.Core.Path.{◌≡◌, sym, ap, ◌∙◌}
use mathlib.Core.Bool.{Bool, true, false}
use mathlib.Core.List.{List, [], ◌∷◌}
use native.Mathlib.Omega.{arith}
use lib.Dec.{ltb}
use lib.ListN.{length, get_or}
use lib.Pow.{pow_mono}
use Rattle.answers.proofs.Exits.{handed_on}
use Rattle.meaning.specs.Tables.{Table}
use Rattle.meaning.specs.Bits.{to_bits, room, written}
use Rattle.meaning.specs.Words.{word_widths, is_word}
use Rattle.meaning.specs.Ladder.{refused, accepted, Rung, ladder, named, type_at}
use Rattle.meaning.specs.WordCalls.{number_rungs, number_call, number_out}
use Rattle.meaning.proofs.WordWidths.{word-widths}
use Rattle.bits.proofs.Numbers.{length_to_bits}
use Rattle.checked.proofs.Handed.{checked_named}
use Rattle.checked.proofs.Made.{stopped, short, done}
use Rattle.checked.proofs.Shaped.{range_stop, range_missed, range_shape, range_pass}
use Rattle.words_laws.proofs.Ranges.{shifted_in, shifted_out}
use Rattle.words_numbers.proofs.number_word.Goals as goal

module _ (t : Table) (n x res : ℕ) (out : List ℕ) where
  -- The first rungs, the tests of 6 and 7, the call's rungs and the record's bits.
  abbrev first : List Rung
  first = named t (res ∷ [])

  abbrev ranges : Bool
  ranges = ltb x (2 ^ (2 ^ n))

  abbrev fits : Bool
  fits = is_word n (type_at t res)

  abbrev rungs : List Rung
  rungs = number_rungs t n x res

  abbrev bits-of : List Bool
  bits-of = to_bits (2 ^ n) x

  unnamed : (m p : ℕ) → refused m p ≡ ladder first (tt {0}) → (refused m p ≡ number_call t n x res out) × (out ≡ number_out t n x res out)
  unnamed m p e = stopped rungs bits-of out m p (range_stop first ranges fits m p (sym e))

  module _ (h : accepted (tt {0}) ≡ ladder first (tt {0})) (l : n < 3) (w : ℕ) (e : w ≡ get_or word_widths n 0) where
    -- The width is 2 to the n, at most 4.
    width_is : w ≡ 2 ^ n
    width_is = e ∙ word-widths n (omega (arith, l))

    narrow : w ≤ 4
    narrow = let m : 2 ^ n ≤ 2 ^ 2 = pow_mono {i = n} {j = 2} (omega (arith, l)) in omega (arith, width_is, m)

    many : length bits-of ≡ w
    many = length_to_bits (2 ^ n) x ∙ sym width_is

    too_great : (x / 2 ^ w ≡ 0 → ⊥) → (refused 6 0 ≡ number_call t n x res out) × (out ≡ number_out t n x res out)
    too_great f =
        stopped rungs bits-of out 6 0
        (range_missed first ranges fits (sym h) (ap (λ (k : ℕ). ltb x (2 ^ k)) (sym width_is) ∙ shifted_out x w f))

    module _ (f : x / 2 ^ w ≡ 0) where
      in-range : ranges ≡ true
      in-range = ap (λ (k : ℕ). ltb x (2 ^ k)) (sym width_is) ∙ shifted_in x w f

      other_shape : fits ≡ false → (refused 7 0 ≡ number_call t n x res out) × (out ≡ number_out t n x res out)
      other_shape g = stopped rungs bits-of out 7 0 (range_shape first ranges fits (sym h) in-range g)

      module _ (g : fits ≡ true) where
        clear : ladder rungs (tt {0}) ≡ accepted (tt {0})
        clear = range_pass first ranges fits (sym h) in-range g

        no_room : length out < room w → (refused 9 0 ≡ number_call t n x res out) × (out ≡ number_out t n x res out)
        no_room k = short rungs bits-of out clear (omega (arith, many, k))

        wrote : room w ≤ length out → (new : List ℕ) → new ≡ written (to_bits w x) out
            → (accepted w ≡ number_call t n x res out) × (new ≡ number_out t n x res out)
        wrote k new d =
            done rungs bits-of out clear (omega (arith, many, k)) w (sym many) new
            (d ∙ ap (λ (j : ℕ). written (to_bits j x) out) width_is)

pub returns-in_err-checked : goal.returns-in_err-checked
returns-in_err-checked c =
    let a = c.args in
    let both = unnamed a.table.now a.n a.number a.res a.out.now _ _ c.in_err-checked.ensures.answer in
    record { result_value = handed_on (λ n. n) _ _ c.from_residual.ensures.1 _ both.0; out_after = both.1 }

pub overflow_shr-number : goal.overflow_shr-number
overflow_shr-number c =
    let a = c.args in
    let m = narrow a.table.now a.n a.number a.res a.out.now c.in_ok-checked.ensures.answer c.requires _ c.word_width-width.ensures in
    omega arith

pub returns-then-number-width-ne0 : goal.returns-then-number-width-ne0
returns-then-number-width-ne0 c =
    let a = c.args in
    let both =
    too_great a.table.now a.n a.number a.res a.out.now c.in_ok-checked.ensures.answer c.requires _ c.word_width-width.ensures
    c.if-number-width-ne0.true in
    record { result_value = both.0; out_after = both.1 }

pub is_word-requires : goal.is_word-requires
is_word-requires c =
    (checked_named c.args.table.now _ c.in_ok-checked.ensures.same (c.args.res ∷ []) c.in_ok-checked.ensures.answer).0.here

-- Whether the result is word n of the table that was asked.
asked : (t u : Table) (n res : ℕ) {b d : Bool} → u ≡ t → b ≡ is_word n (type_at u res) → b ≡ d → is_word n (type_at t res) ≡ d
asked t u n res s e f = ap (λ (z : Table). is_word n (type_at z res)) (sym s) ∙ sym e ∙ f

pub returns-then-not-is_word : goal.returns-then-not-is_word
returns-then-not-is_word c =
    let a = c.args in
    let both =
    other_shape a.table.now a.n a.number a.res a.out.now c.in_ok-checked.ensures.answer c.requires _ c.word_width-width.ensures
    c.if-number-width-ne0.false
    (asked a.table.now _ a.n a.res c.in_ok-checked.ensures.same c.is_word.ensures c.if-not-is_word.true) in
    record { result_value = both.0; out_after = both.1 }

pub bytes_for-requires : goal.bytes_for-requires
bytes_for-requires c =
    let a = c.args in
    let m = narrow a.table.now a.n a.number a.res a.out.now c.in_ok-checked.ensures.answer c.requires _ c.word_width-width.ensures in
    omega arith

pub returns-then-out-bytes_for : goal.returns-then-out-bytes_for
returns-then-out-bytes_for c =
    let a = c.args in
    let both =
    no_room a.table.now a.n a.number a.res a.out.now c.in_ok-checked.ensures.answer c.requires _ c.word_width-width.ensures
    c.if-number-width-ne0.false
    (asked a.table.now _ a.n a.res c.in_ok-checked.ensures.same c.is_word.ensures c.if-not-is_word.false)
    (omega arith) in
    record { result_value = both.0; out_after = both.1 }

pub write_number-requires : goal.write_number-requires
write_number-requires c =
    let a = c.args in
    let m = narrow a.table.now a.n a.number a.res a.out.now c.in_ok-checked.ensures.answer c.requires _ c.word_width-width.ensures in
    record { n_bound = omega arith; run = record { inside = omega arith; counted = omega arith } }

pub returns : goal.returns
returns c =
    let a = c.args in
    let both =
    wrote a.table.now a.n a.number a.res a.out.now c.in_ok-checked.ensures.answer c.requires _ c.word_width-width.ensures
    c.if-number-width-ne0.false
    (asked a.table.now _ a.n a.res c.in_ok-checked.ensures.same c.is_word.ensures c.if-not-is_word.false)
    (omega arith) c.write_number.new.out c.write_number.ensures in
    record { result_value = both.0; out_after = both.1 }
