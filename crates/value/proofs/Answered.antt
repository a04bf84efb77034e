-- What a public call answers, once a first call has handed the table t back, checked, as u: first refusals are the call's, and past them the
-- inner function answers.
--
--   viewed                      of a call that only answers
--   refused_made then_made      of a call that writes a record too
--   no_option option_made       `none`: the shape is wrong, or the record is all zero bits
--   no_payload payload_made     `some`: the shape is wrong, or the record is made
--   not_unit unit_made          `unit`: the shape is wrong, or nothing is written
-- Assumes nothing.
use Prim.Native.Nat.{ℕ, zero-le}
use mathlib.Core.Path.{◌≡◌, refl, sym, ap, ◌∙◌, subst}
use mathlib.Core.Bool.{Bool, true, false, ◌&&◌}
use mathlib.Core.List.{List, [], ◌++◌}
use Rattle.std.specs.Prelude.{Result, IsErrAnd}
use Rattle.meaning.specs.Types.{same, is_unit, right_side}
use Rattle.meaning.specs.Tables.{Table}
use Rattle.meaning.specs.Ladder.{Answer, refused, accepted, Rung, ladder, Record, type_at, type_of, shaped, makes, made}
use Rattle.meaning.specs.RecordCalls.{zero_bits, none_bits}
use Rattle.answers.specs.declared.Refusal.{Refusal}
use Rattle.answers.specs.Verdicts.{refusal_of, count_of}
use Rattle.answers.proofs.Exits.{handed_on}
use Rattle.checked.proofs.Handed.{then_own}
use Rattle.checked.proofs.Made.{stopped, done, first_stopped, handed-on}
use Rattle.checked.proofs.Shaped.{misshapen, shapely}
use Rattle.value_fitting.specs.Fits.{wrap_fits, option_fits}
use Rattle.value_making.specs.Wraps.{wrap_bits}
use Rattle.value_making.proofs.Payloads.{none_zeros, some_fits, nothing_written}

module _ (t u : Table) (e : u ≡ t) (gs : List Rung) (h : accepted (tt {0}) ≡ ladder gs (tt {0})) where
  pub viewed : {A : Type 0} (own : Table → List Rung) (v : Table → A) (x : Answer A) → x ≡ ladder (own u) (v u) → x ≡ ladder (gs ++ own t) (v t)
  viewed own v x k = then_own gs (own t) (v t) h x (subst (λ (y : Table). x ≡ ladder (own y) (v y)) e k)

  pub then_made : (rs : Table → List Rung) (v : Table → List Bool) (out : List ℕ) (x : Answer ℕ) (new : List ℕ) → x ≡ makes (rs u) (v u) out
      → new ≡ made (rs u) (v u) out → (x ≡ makes (gs ++ rs t) (v t) out) × (new ≡ made (gs ++ rs t) (v t) out)
  then_made rs v out x new k l =
      let on = handed-on (rs t) (v t) out gs (sym h) in (
        subst (λ (y : Table). x ≡ makes (rs y) (v y) out) e k ∙ on.0,
        subst (λ (y : Table). new ≡ made (rs y) (v y) out) e l ∙ on.1,
      )

pub refused_made : (gs rs : List Rung) (v : List Bool) (out : List ℕ) (r : Result ℕ Refusal) (f : Refusal) → IsErrAnd r (λ y. y ≡ f)
    → refusal_of f ≡ ladder gs (tt {0}) → (count_of r ≡ makes (gs ++ rs) v out) × (out ≡ made (gs ++ rs) v out)
refused_made gs rs v out r f i k =
    let both = first_stopped gs rs v out _ _ (sym k) in (handed_on (λ n. n) r f i _ both.0, both.1)

module _ (t : Table) (res : ℕ) (out : List ℕ) (b : Bool) where
  -- Whether the result is an option.
  module _ (e : b ≡ option_fits t res) where
    pub no_option : b ≡ false
        → (refused 7 0 ≡ makes (shaped (option_fits t res)) (none_bits t res) out)
        × (out ≡ made (shaped (option_fits t res)) (none_bits t res) out)
    no_option f = stopped (shaped (option_fits t res)) (none_bits t res) out 7 0 (misshapen (option_fits t res) (sym e ∙ f))

    pub option_made : b ≡ true → (x : Answer ℕ) (new : List ℕ) → x ≡ makes [] (zero_bits t res) out → new ≡ made [] (zero_bits t res) out
        → (x ≡ makes (shaped (option_fits t res)) (none_bits t res) out)
        × (new ≡ made (shaped (option_fits t res)) (none_bits t res) out)
    option_made f x new k l =
        let zeros = sym (none_zeros t res (sym e ∙ f)) in
        let on = handed-on [] (none_bits t res) out (shaped (option_fits t res)) (shapely (option_fits t res) (sym e ∙ f)) in
        (k ∙ ap (λ (v : List Bool). makes [] v out) zeros ∙ on.0, l ∙ ap (λ (v : List Bool). made [] v out) zeros ∙ on.1)

    -- And of this payload.
    module _ (p : Record) where
      abbrev fits : Bool
      fits = option_fits t res && same (right_side (type_at t res)) (type_of t p)

      pub no_payload : b ≡ false
          → (refused 7 0 ≡ makes (shaped (option_fits t res && same (right_side (type_at t res)) (type_of t p))) (wrap_bits true t p res) out)
          × (out ≡ made (shaped (option_fits t res && same (right_side (type_at t res)) (type_of t p))) (wrap_bits true t p res) out)
      no_payload f =
          stopped (shaped fits) (wrap_bits true t p res) out 7 0
          (misshapen fits (ap (λ (x : Bool). x && same (right_side (type_at t res)) (type_of t p)) (sym e ∙ f)))

      pub payload_made : b ≡ true → (x : Answer ℕ) (new : List ℕ)
          → x ≡ makes (shaped (wrap_fits true t p.node res)) (wrap_bits true t p res) out
          → new ≡ made (shaped (wrap_fits true t p.node res)) (wrap_bits true t p res) out
          → (x ≡ makes (shaped (option_fits t res && same (right_side (type_at t res)) (type_of t p))) (wrap_bits true t p res) out)
          × (new ≡ made (shaped (option_fits t res && same (right_side (type_at t res)) (type_of t p))) (wrap_bits true t p res) out)
      payload_made f x new k l =
          let shape = some_fits t p.node res (sym e ∙ f) in (
            k ∙ ap (λ (y : Bool). makes (shaped y) (wrap_bits true t p res) out) shape,
            l ∙ ap (λ (y : Bool). made (shaped y) (wrap_bits true t p res) out) shape,
          )

pub not_unit : (t : Table) (res : ℕ) (out : List ℕ) → is_unit (type_at t res) ≡ false
    → (refused 7 0 ≡ makes (shaped (is_unit (type_at t res))) [] out) × (out ≡ made (shaped (is_unit (type_at t res))) [] out)
not_unit t res out f = stopped (shaped (is_unit (type_at t res))) [] out 7 0 (misshapen (is_unit (type_at t res)) f)

pub unit_made : (t : Table) (res : ℕ) (out : List ℕ) → is_unit (type_at t res) ≡ true
    → (accepted 0 ≡ makes (shaped (is_unit (type_at t res))) [] out) × (out ≡ made (shaped (is_unit (type_at t res))) [] out)
unit_made t res out f =
    done (shaped (is_unit (type_at t res))) [] out (shapely (is_unit (type_at t res)) f) zero-le 0 refl out (sym (nothing_written out))
