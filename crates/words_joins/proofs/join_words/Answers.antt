-- `words_joins::join_words` meets its contract: the types join or they do not, then one word and the other. Assumes nothing.
use Prim.Native.Nat.{ℕ, ◌+◌, ◌-◌, ◌%◌, ◌≤◌, ◌<◌}
use mathlib.Core.Path.{◌≡◌, refl, sym, ap, ap₂, ◌∙◌}
use mathlib.Core.Bool.{Bool, true, false}
use mathlib.Core.List.{List, [], ◌∷◌, ◌++◌}
use native.Mathlib.Omega.{arith}
use lib.ListN.{length, take, drop, length-append}
use Rattle.std.specs.Prelude.{Option, None, Some}
use Rattle.std.specs.Bool.{then_some}
use Rattle.std.specs.Option.{ok_or}
use Rattle.answers.specs.declared.Refusal.{Refusal}
use Rattle.answers.specs.Verdicts.{count_of}
use Rattle.answers.proofs.Exits.{handed_on}
use Rattle.meaning.specs.Types.{bits}
use Rattle.meaning.specs.Tables.{Table}
use Rattle.meaning.specs.Bits.{bits_of, room, written}
use Rattle.meaning.specs.Words.{joins}
use Rattle.meaning.specs.Ladder.{refused, accepted, Rung, ladder, Record, record_of, type_at, type_of, record_bits}
use Rattle.meaning.specs.RecordCalls.{handed, product_bits}
use Rattle.meaning.specs.WordCalls.{join_rungs, join_call, join_out}
use Rattle.bits.specs.Runs.{Run}
use Rattle.checked.specs.Passed.{Held, Named}
use Rattle.checked.proofs.Passes.{handed_passes}
use Rattle.checked.proofs.Made.{stopped, short, done}
use Rattle.checked.proofs.Shaped.{shape_wrong, shape-right}
use Rattle.checked.proofs.Lent.{lent, lent_run, lent_bits, own_length}
use Rattle.words_laws.proofs.Joins.{second_width, whole_width}
use Rattle.words_joins.proofs.join_words.Goals as goal

-- What an answer of `half_of` says.
some_half : (j : Bool) (w h : ℕ) → then_some j w ≡ Some h → (j ≡ true) × (h ≡ w)
some_half true w h e = (refl, cc)
some_half false w h e = absurd (cc)

no_half : (j : Bool) (w : ℕ) → then_some j w ≡ None → j ≡ false
no_half true w e = absurd (cc)
no_half false w e = refl

module _ (t : Table) (a b : Record) (res : ℕ) (out : List ℕ) (ha : Held t a) (hb : Held t b) (hr : Named t res) where
  -- The rungs before 7, and its test.
  abbrev before7 : List Rung
  before7 = handed t (a ∷ b ∷ []) (res ∷ [])

  abbrev fits : Bool
  fits = joins (type_of t a) (type_of t b) (type_at t res)

  passed : ladder before7 (tt {0}) ≡ accepted (tt {0})
  passed = handed_passes t hr.sound (a ∷ b ∷ []) (res ∷ []) (ha, (hb, tt)) (hr, tt)

  apart : fits ≡ false → (refused 7 0 ≡ join_call t a b res out) × (out ≡ join_out t a b res out)
  apart f = stopped (join_rungs t a b res) (product_bits t a b) out 7 0 (shape_wrong before7 fits passed f)

  -- Past the test of 7 the types join, and the width is that of either word and half of the result's.
  module _ (h : ℕ) (e : then_some fits (bits (type_of t a)) ≡ Some h) where
    joining : fits ≡ true
    joining = (some_half fits _ h e).0

    one : h ≡ bits (type_of t a)
    one = (some_half fits _ h e).1

    two : h ≡ bits (type_of t b)
    two = one ∙ second_width (type_of t a) (type_of t b) (type_at t res) joining

    most : h + h ≤ 524288
    most = omega (arith, one, whole_width (type_of t a) (type_of t b) (type_at t res) joining, hr.narrow)

    count_is : length (product_bits t a b) ≡ h + h
    count_is =
        omega (arith, one, two, own_length t a ha, own_length t b hb, length-append (record_bits t a) (record_bits t b))

    clear : ladder (join_rungs t a b res) (tt {0}) ≡ accepted (tt {0})
    clear = shape-right before7 fits passed joining

    no_room : length out < room (h + h) → (refused 9 0 ≡ join_call t a b res out) × (out ≡ join_out t a b res out)
    no_room l = short (join_rungs t a b res) (product_bits t a b) out clear (omega (arith, count_is, l))

    -- The other half of the whole.
    rest_is : h + h - h ≡ bits (type_of t b)
    rest_is = omega (arith, two)

    second_run : Run (lent b) (b.offset % 8) (h + h - h)
    second_run = lent_run t b hb (h + h - h) rest_is

    wrote : room (h + h) ≤ length out → (new : List ℕ)
        → new ≡ written (take h (drop (a.offset % 8) (bits_of (lent a))) ++ take (h + h - h) (drop (b.offset % 8) (bits_of (lent b)))) out
        → (accepted (h + h) ≡ join_call t a b res out) × (new ≡ join_out t a b res out)
    wrote l new w =
        done (join_rungs t a b res) (product_bits t a b) out clear (omega (arith, count_is, l)) (h + h) (sym count_is) new
        (w ∙ ap₂ (λ (p q : List Bool). written (p ++ q) out) (lent_bits t a ha h one) (lent_bits t b hb (h + h - h) rest_is))

pub returns-in_err-half : goal.returns-in_err-half
returns-in_err-half c =
    let a = c.args in
    let r = c.requires in
    let first = record_of a.a_bytes.now a.a_offset a.a_node in
    let second = record_of a.b_bytes.now a.b_offset a.b_node in
    let none = c.in_err-half.ensures.ok_part in
    let both = apart a.table.now first second a.res a.out.now r.held r.held_2 r.named (no_half _ _ (sym c.half_of.ensures ∙ none)) in record {
      result_value =
          handed_on (λ n. n) _ _ c.from_residual.ensures.1 _
          (ap count_of (c.in_err-half.ensures.value ∙ ap (λ (o : Option ℕ). ok_or o Refusal.WrongShape) none) ∙ both.0);
      out_after = both.1;
    }

pub returns-then-out-bytes_for : goal.returns-then-out-bytes_for
returns-then-out-bytes_for c =
    let a = c.args in
    let r = c.requires in
    let first = record_of a.a_bytes.now a.a_offset a.a_node in
    let second = record_of a.b_bytes.now a.b_offset a.b_node in
    let both =
    no_room a.table.now first second a.res a.out.now r.held r.held_2 r.named c.in_ok-half.half (sym c.half_of.ensures ∙ c.in_ok-half.ensures.ok_part)
    (omega arith) in
    record { result_value = both.0; out_after = both.1 }

pub write_product-requires-clause-run_3 : goal.write_product-requires-clause-run_3
write_product-requires-clause-run_3 c =
    let a = c.args in
    let r = c.requires in
    let first = record_of a.a_bytes.now a.a_offset a.a_node in
    let second = record_of a.b_bytes.now a.b_offset a.b_node in
    second_run a.table.now first second a.res a.out.now r.held r.held_2 r.named c.in_ok-half.half (sym c.half_of.ensures ∙ c.in_ok-half.ensures.ok_part)

pub returns : goal.returns
returns c =
    let a = c.args in
    let r = c.requires in
    let first = record_of a.a_bytes.now a.a_offset a.a_node in
    let second = record_of a.b_bytes.now a.b_offset a.b_node in
    let both =
    wrote a.table.now first second a.res a.out.now r.held r.held_2 r.named c.in_ok-half.half (sym c.half_of.ensures ∙ c.in_ok-half.ensures.ok_part)
    (omega arith) c.write_product.new.out c.write_product.ensures in
    record { result_value = both.0; out_after = both.1 }
