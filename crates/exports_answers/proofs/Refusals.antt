-- When an answer whose values go to lent entries refuses.
--
--   roomy_nine                  9 exactly if the call's own answer is 9, or it is accepted and there are fewer entries than values
--   roomy_nine_only             of a call that never answers 9 by itself: exactly if it is accepted and there are fewer entries than values
--   facts_of_nine type_as_sum_nine type_as_product_nine as_left_nine as_right_nine as_product_nine      so it is for these six
--   roomy_refuses               any other refusal is the call's own
--   roomy_accepts               accepted exactly if the call's own answer is and there are entries for all values
-- Assumes nothing.
use Prim.Native.Nat.{ℕ, ◌+◌, ◌≤◌, ◌<◌}
use mathlib.Core.Path.{◌≡◌, refl, sym, ap, ◌∙◌, subst}
use mathlib.Core.Logic.{◌↔◌, ◌⊎◌, inl, inr, ⊎_elim}
use mathlib.Core.Bool.{Bool, true, cond, not, ◌&&◌}
use mathlib.Core.List.{List, [], ◌∷◌, ◌++◌}
use lib.ListN.{length}
use lib.Dec.{ltb}
use borrow.Author.Tests.{ltb-true, ltb-false, lt-ltb, le-ltb}
use Rattle.meaning.specs.Types.{bits, is_sum, is_prod, left_side, right_side}
use Rattle.meaning.specs.Tables.{Table, left, right, facts_at}
use Rattle.meaning.specs.Records.{tag, pad_left, pad_right}
use Rattle.meaning.specs.Ladder.{Answer, refused, accepted, Rung, ladder, Record, type_at, type_of, record_bits, sound, present, shaped}
use Rattle.meaning.specs.TypeCalls.{facts_of_call, sides_at, type_as_sum_call, type_as_product_call}
use Rattle.meaning.specs.RecordCalls.{handed, addressed, as_left_call, as_right_call, as_product_call}
use Rattle.meaning.proofs.Choices.{either}
use Rattle.meaning.proofs.Ladders.{accepted_refused, number_of}
use Rattle.meaning.proofs.Refusals.{without, without_unanswered}
use Rattle.exports_answers.specs.Codes.{roomy, facts_list, sides_list, spot_list, spots_list}

module _ {A : Type 0} (values : A → List ℕ) (lent : List ℕ) where
  -- The last rung over an accepted value, by what its test says.
  short : (v : A) → length lent < length (values v) → roomy values lent (accepted v) ≡ refused 9 0
  short v l = ap (λ b. cond b (refused 9 0) (accepted v)) (lt-ltb (length lent) (length (values v)) l)

  long : (v : A) → length (values v) ≤ length lent → roomy values lent (accepted v) ≡ accepted v
  long v l = ap (λ b. cond b (refused 9 0) (accepted v)) (le-ltb (length lent) (length (values v)) l)

  -- An accepted value, by whether there are entries enough.
  by_room : (v : A) → (length lent < length (values v)) ⊎ (length (values v) ≤ length lent)
  by_room v =
      ⊎_elim (λ e. inl (ltb-true (length lent) (length (values v)) e)) (λ e. inr (ltb-false (length lent) (length (values v)) e))
      (either (ltb (length lent) (length (values v))))

  pub roomy_nine : (a : Answer A)
      → (roomy values lent a ≡ refused 9 0) ↔ ((a ≡ refused 9 0) ⊎ ((v : A) × (a ≡ accepted v) × (length lent < length (values v))))
  roomy_nine a = (to a, ⊎_elim (ap (roomy values lent)) (λ s. ap (roomy values lent) s.1 ∙ short s.0 s.2))
    where
      to : (x : Answer A) → roomy values lent x ≡ refused 9 0
          → (x ≡ refused 9 0) ⊎ ((v : A) × (x ≡ accepted v) × (length lent < length (values v)))
      to (refused n p) e = inl e
      to (accepted v) e = ⊎_elim (λ l. inr (v, refl, l)) (λ l. absurd (accepted_refused v 9 0 (sym (long v l) ∙ e))) (by_room v)

  pub roomy_nine_only : (a : Answer A) → (a ≡ refused 9 0 → ⊥)
      → (roomy values lent a ≡ refused 9 0) ↔ ((v : A) × (a ≡ accepted v) × (length lent < length (values v)))
  roomy_nine_only a never = (λ e. ⊎_elim (λ r. absurd (never r)) (λ s. s) ((roomy_nine a).0 e), λ s. (roomy_nine a).1 (inr s))

  pub roomy_refuses : (a : Answer A) (n p : ℕ) → (n ≡ 9 → ⊥) → (roomy values lent a ≡ refused n p) ↔ (a ≡ refused n p)
  roomy_refuses a n p other = (to a, ap (roomy values lent))
    where
      to : (x : Answer A) → roomy values lent x ≡ refused n p → x ≡ refused n p
      to (refused m q) e = e
      to (accepted v) e =
          ⊎_elim (λ l. absurd (other (ap number_of (sym e ∙ short v l)))) (λ l. absurd (accepted_refused v n p (sym (long v l) ∙ e))) (by_room v)

  pub roomy_accepts : (a : Answer A) (v : A) → (roomy values lent a ≡ accepted v) ↔ ((a ≡ accepted v) × (length (values v) ≤ length lent))
  roomy_accepts a v = (to a, λ s. ap (roomy values lent) s.0 ∙ long v s.1)
    where
      to : (x : Answer A) → roomy values lent x ≡ accepted v → (x ≡ accepted v) × (length (values v) ≤ length lent)
      to (refused m q) e = absurd (accepted_refused v m q (sym e))
      to (accepted w) e =
          ⊎_elim (λ l. absurd (accepted_refused v 9 0 (sym e ∙ short w l)))
          (λ l.
          let h : accepted w ≡ accepted v = sym (long w l) ∙ e in
          let same : w ≡ v = cc in
          (h, subst (λ u. length (values u) ≤ length lent) same l))
          (by_room w)

-- The calls that are lent entries, by their rungs.
module _ (t : Table) (lent : List ℕ) where
  -- 9 of a call, exactly.
  abbrev Nine : {A : Type 0} → (A → List ℕ) → Answer A → Type 0
  Nine {A} values a = (roomy values lent a ≡ refused 9 0) ↔ ((v : A) × (a ≡ accepted v) × (length lent < length (values v)))

  -- A call whose rungs have no 9.
  nine : {A : Type 0} (values : A → List ℕ) (rs : List Rung) (a : A) → without 9 rs ≡ true → Nine values (ladder rs a)
  nine values rs a w = roomy_nine_only values lent (ladder rs a) (without_unanswered rs a 9 0 w)

  pub facts_of_nine : (n : ℕ) → Nine facts_list (facts_of_call t n)
  facts_of_nine n = nine facts_list (sound t ++ (present t (n ∷ []) ++ [])) (facts_at t.columns n) refl

  pub type_as_sum_nine : (n : ℕ) → Nine sides_list (type_as_sum_call t n)
  type_as_sum_nine n = nine sides_list (sound t ++ (present t (n ∷ []) ++ shaped (is_sum (type_at t n)))) (sides_at t n) refl

  pub type_as_product_nine : (n : ℕ) → Nine sides_list (type_as_product_call t n)
  type_as_product_nine n = nine sides_list (sound t ++ (present t (n ∷ []) ++ shaped (is_prod (type_at t n)))) (sides_at t n) refl

  -- The rungs of a view.
  abbrev viewed : Record → Bool → List Rung
  viewed r right = handed t (r ∷ []) [] ++ (addressed t r ++ shaped right)

  pub as_left_nine : (r : Record) → Nine spot_list (as_left_call t r)
  as_left_nine r =
      nine spot_list (viewed r (is_sum (type_of t r) && not (tag (record_bits t r))))
      (record { offset = r.offset + (1 + pad_left (left_side (type_of t r)) (right_side (type_of t r))); node = left t.columns r.node })
      refl

  pub as_right_nine : (r : Record) → Nine spot_list (as_right_call t r)
  as_right_nine r =
      nine spot_list (viewed r (is_sum (type_of t r) && tag (record_bits t r)))
      (record { offset = r.offset + (1 + pad_right (left_side (type_of t r)) (right_side (type_of t r))); node = right t.columns r.node })
      refl

  pub as_product_nine : (r : Record) → Nine spots_list (as_product_call t r)
  as_product_nine r =
      nine spots_list (viewed r (is_prod (type_of t r)))
      (record {
        first = record { offset = r.offset; node = left t.columns r.node };
        second = record { offset = r.offset + bits (left_side (type_of t r)); node = right t.columns r.node };
      })
      refl
