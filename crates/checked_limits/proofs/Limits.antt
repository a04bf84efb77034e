-- Laws of the numbers of the rungs 2 to 5.
--
--   first_two … first_none      which number it is
--   first_any first_six         a number below 6 does not depend on the bounds; 6 tells that 2 to 4 fail
--   no_limit                    a number that is none of 2 to 5 is accepted
--   same_test                   two comparisons that agree
--   wide_bits                   a 64-bit width is above the limit exactly if the true one is
--   passed                      what is known of a node that is accepted, by its width and its size
--   runs_past inside            how the bounds decide then
--   reached                     what asking takes of a sound table: groups that reach the count
--   true_node true_record       the numbers as they are asked, by the groups of a sound table, are those of the types
--   earlier_first               the least number is the earlier refusal
-- Assumes nothing.
use Prim.Native.Nat.{ℕ, zero, suc, ◌+◌, ◌*◌, ◌-◌, ◌<◌, ◌≤◌, min}
use native.Mathlib.Omega.{arith}
use mathlib.Core.Path.{◌≡◌, refl, sym, ap, ap₂, ◌∙◌}
use mathlib.Core.Logic.{⊎_elim}
use mathlib.Core.Bool.{Bool, true, false, true≢false, false≢true}
use mathlib.Core.List.{List}
use lib.Dec.{ltb, leb}
use lib.ListN.{length, get_or}
use borrow.Author.Tests.{lt-ltb, le-ltb, ltb-true, ltb-false, leb-false}
use Rattle.meaning.specs.Types.{Ty, bits, width, size}
use Rattle.meaning.specs.Groups.{group_size}
use Rattle.meaning.specs.Tables.{Table, table}
use Rattle.meaning.specs.Ladder.{Answer, refused, accepted, type_at}
use Rattle.meaning.specs.Checked.{Sound}
use Rattle.meaning.proofs.Types.{width_bits}
use Rattle.meaning.proofs.Sounds.{sound_width, sound_size}
use Rattle.meaning.proofs.GroupLaws.{sound_group}
use Rattle.meaning.proofs.Ladders.{accepted_refused}
use Rattle.meaning.proofs.Choices.{either}
use Rattle.checked_limits.specs.Limits.{first_rung, limit_answer, node_limit, bounded_limit, earlier}

pub first_two : (m w l p : Bool) → m ≡ true → 2 ≡ first_rung m w l p
first_two true w l p h = refl
first_two false w l p h = absurd (false≢true h)

pub first_three : (m w l p : Bool) → m ≡ false → w ≡ true → 3 ≡ first_rung m w l p
first_three false true l p h g = refl
first_three false false l p h g = absurd (false≢true g)
first_three true w l p h g = absurd (true≢false h)

pub first_four : (m w l p : Bool) → m ≡ false → w ≡ false → l ≡ true → 4 ≡ first_rung m w l p
first_four false false true p h g f = refl
first_four false false false p h g f = absurd (false≢true f)
first_four false true l p h g f = absurd (true≢false g)
first_four true w l p h g f = absurd (true≢false h)

pub first_five : (m w l p : Bool) → m ≡ false → w ≡ false → l ≡ false → p ≡ true → 5 ≡ first_rung m w l p
first_five false false false true h g f e = refl
first_five false false false false h g f e = absurd (false≢true e)
first_five false false true p h g f e = absurd (true≢false f)
first_five false true l p h g f e = absurd (true≢false g)
first_five true w l p h g f e = absurd (true≢false h)

pub first_none : (m w l p : Bool) → m ≡ false → w ≡ false → l ≡ false → p ≡ false → 6 ≡ first_rung m w l p
first_none false false false false h g f e = refl
first_none false false false true h g f e = absurd (true≢false e)
first_none false false true p h g f e = absurd (true≢false f)
first_none false true l p h g f e = absurd (true≢false g)
first_none true w l p h g f e = absurd (true≢false h)

pub first_any : (m w l p : Bool) → (first_rung m w l false ≡ 6 → ⊥) → first_rung m w l false ≡ first_rung m w l p
first_any true w l p h = refl
first_any false true l p h = refl
first_any false false true p h = refl
first_any false false false p h = absurd (h refl)

pub first_six : (m w l : Bool) → first_rung m w l false ≡ 6 → (m ≡ false) × (w ≡ false) × (l ≡ false)
first_six true w l h = absurd (omega arith)
first_six false true l h = absurd (omega arith)
first_six false false true h = absurd (omega arith)
first_six false false false h = (refl, refl, refl)

pub no_limit : (n : ℕ) → (n ≡ 2 → ⊥) → (n ≡ 3 → ⊥) → (n ≡ 4 → ⊥) → (n ≡ 5 → ⊥) → accepted tt ≡ limit_answer n
no_limit zero a b c d = refl
no_limit (suc zero) a b c d = refl
no_limit (suc (suc zero)) a b c d = absurd (a refl)
no_limit (suc (suc (suc zero))) a b c d = absurd (b refl)
no_limit (suc (suc (suc (suc zero)))) a b c d = absurd (c refl)
no_limit (suc (suc (suc (suc (suc zero))))) a b c d = absurd (d refl)
no_limit (suc (suc (suc (suc (suc (suc n)))))) a b c d = refl

pub same_test : (a b c d : ℕ) → (a < b → c < d) → (c < d → a < b) → ltb a b ≡ ltb c d
same_test a b c d f g = ⊎_elim above below (either (ltb a b))
  where
    above : ltb a b ≡ true → ltb a b ≡ ltb c d
    above h = h ∙ sym (lt-ltb c d (f (ltb-true a b h)))

    not_above : b ≤ a → c < d → ⊥
    not_above h l = let k : a < b = g l in omega arith

    below : ltb a b ≡ false → ltb a b ≡ ltb c d
    below h = let n : c < d → ⊥ = not_above (ltb-false a b h) in h ∙ sym (le-ltb c d (omega arith))

pub wide_bits : (x : Ty) → ltb 524288 (width x) ≡ ltb 524288 (bits x)
wide_bits x = let e = width_bits x in same_test 524288 (width x) 524288 (bits x) (λ h. omega arith) (λ h. omega arith)

-- By the width and the size that are read of a node.
module _ (count n w z : ℕ) where
  abbrev missing : Bool
  missing = leb count n

  abbrev wide : Bool
  wide = ltb 524288 w

  abbrev large : Bool
  large = ltb 2097152 z

  -- What a node that is named as a record type is answered.
  abbrev named : Answer (Unit {0})
  named = limit_answer (first_rung missing wide large false)

  -- None of 2 to 4 refuses a node that is accepted.
  clear : (m w l : Bool) → accepted (tt {0}) ≡ limit_answer (first_rung m w l false) → (m ≡ false) × (w ≡ false) × (l ≡ false)
  clear true w l e = absurd (accepted_refused (tt {0}) 2 0 e)
  clear false true l e = absurd (accepted_refused (tt {0}) 3 0 e)
  clear false false true e = absurd (accepted_refused (tt {0}) 4 0 e)
  clear false false false e = (refl, refl, refl)

  pub passed : accepted (tt {0}) ≡ named → (missing ≡ false) × (wide ≡ false) × (large ≡ false)
  passed e = clear missing wide large e

  pub passed_here : accepted (tt {0}) ≡ named → n < count
  passed_here e = leb-false count n (passed e).0

  pub passed_narrow : accepted (tt {0}) ≡ named → w ≤ 524288
  passed_narrow e = ltb-false 524288 w (passed e).1

  module _ (len offset : ℕ) where
    abbrev beyond : Bool
    beyond = ltb (8 * len) (offset + w)

    -- What a record of it is answered.
    abbrev recorded : Answer (Unit {0})
    recorded = limit_answer (first_rung missing wide large beyond)

    pub runs_past : accepted (tt {0}) ≡ named → true ≡ beyond → refused 5 0 ≡ recorded
    runs_past e f =
        let p = passed e in ap limit_answer (first_five missing wide large beyond p.0 p.1 p.2 (sym f))

    pub inside : accepted (tt {0}) ≡ named → false ≡ beyond → accepted (tt {0}) ≡ recorded
    inside e f =
        let p = passed e in ap limit_answer (first_none missing wide large beyond p.0 p.1 p.2 (sym f))

-- The width and the size that a group tells decide as the true ones do; the bounds matter to a narrow type alone.
same_first : (m w l p w' l' p' : Bool) → (m ≡ false → (w ≡ w') × (l ≡ l') × (w' ≡ false → p ≡ p')) → first_rung m w l p ≡ first_rung m w' l' p'
same_first true w l p w' l' p' h = refl
same_first false w l p w' l' p' h = let f = h refl in ap₂ (λ (x y : Bool). first_rung false x y p) f.0 f.1 ∙ last w' l' f.2
  where
    last : (x y : Bool) → (x ≡ false → p ≡ p') → first_rung false x y p ≡ first_rung false x y p'
    last true y e = refl
    last false true e = refl
    last false false e = ap (λ (z : Bool). first_rung false false false z) (e refl)

pub reached : (ks ls rs gs : List ℕ) (n : ℕ) → Sound (table ks ls rs gs n) → (n ≤ 1024) × (group_size * n ≤ length gs)
reached ks ls rs gs n s =
    let some = s.some_node in
    let g = sound_group ks ls rs gs n (n - 1) s (omega arith) in
    (s.few_nodes, omega arith)

module _ (t : Table) (s : Sound t) where
  module _ (n : ℕ) (h : leb t.count n ≡ false) where
    wide_is : ltb 524288 (get_or t.facts.widths n 0) ≡ ltb 524288 (bits (type_at t n))
    wide_is = ap (ltb 524288) (sound_width t s n (leb-false t.count n h)) ∙ wide_bits (type_at t n)

    large_is : ltb 2097152 (get_or t.facts.sizes n 0) ≡ ltb 2097152 (size (type_at t n))
    large_is = ap (ltb 2097152) (sound_size t s n (leb-false t.count n h))

    width_is : ltb 524288 (bits (type_at t n)) ≡ false → get_or t.facts.widths n 0 ≡ bits (type_at t n)
    width_is e =
        let l = ltb-false 524288 (bits (type_at t n)) e in
        omega (arith, sound_width t s n (leb-false t.count n h), width_bits (type_at t n))

  pub true_node : (n : ℕ)
      → first_rung (leb t.count n) (ltb 524288 (get_or t.facts.widths n 0)) (ltb 2097152 (get_or t.facts.sizes n 0)) false ≡ node_limit t n
  true_node n =
      same_first (leb t.count n) (ltb 524288 (get_or t.facts.widths n 0)) (ltb 2097152 (get_or t.facts.sizes n 0)) false
      (ltb 524288 (bits (type_at t n))) (ltb 2097152 (size (type_at t n))) false
      (λ h. (wide_is n h, large_is n h, λ e. refl))

  pub true_record : (len offset n : ℕ)
      → first_rung (leb t.count n) (ltb 524288 (get_or t.facts.widths n 0)) (ltb 2097152 (get_or t.facts.sizes n 0))
      (ltb (8 * len) (offset + get_or t.facts.widths n 0))
      ≡ bounded_limit t len offset n
  true_record len offset n =
      same_first (leb t.count n) (ltb 524288 (get_or t.facts.widths n 0)) (ltb 2097152 (get_or t.facts.sizes n 0))
      (ltb (8 * len) (offset + get_or t.facts.widths n 0))
      (ltb 524288 (bits (type_at t n))) (ltb 2097152 (size (type_at t n))) (ltb (8 * len) (offset + bits (type_at t n)))
      (λ h. (wide_is n h, large_is n h, λ e. ap (λ (k : ℕ). ltb (8 * len) (offset + k)) (width_is n h e)))

pub earlier_first : (m w l p m' w' l' p' : Bool)
    → limit_answer (min (first_rung m w l p) (first_rung m' w' l' p')) ≡ earlier (limit_answer (first_rung m w l p)) (limit_answer (first_rung m' w' l' p'))
earlier_first true w l p true w' l' p' = refl
earlier_first true w l p false true l' p' = refl
earlier_first true w l p false false true p' = refl
earlier_first true w l p false false false true = refl
earlier_first true w l p false false false false = refl
earlier_first false true l p true w' l' p' = refl
earlier_first false true l p false true l' p' = refl
earlier_first false true l p false false true p' = refl
earlier_first false true l p false false false true = refl
earlier_first false true l p false false false false = refl
earlier_first false false true p true w' l' p' = refl
earlier_first false false true p false true l' p' = refl
earlier_first false false true p false false true p' = refl
earlier_first false false true p false false false true = refl
earlier_first false false true p false false false false = refl
earlier_first false false false true true w' l' p' = refl
earlier_first false false false true false true l' p' = refl
earlier_first false false false true false false true p' = refl
earlier_first false false false true false false false true = refl
earlier_first false false false true false false false false = refl
earlier_first false false false false true w' l' p' = refl
earlier_first false false false false false true l' p' = refl
earlier_first false false false false false false true p' = refl
earlier_first false false false false false false false true = refl
earlier_first false false false false false false false false = refl
