-- What a reading was, by how it is told.
--
--   not_found                   a fault that is told is the reading's
--   was_found                   what is told stood there, and the reader is behind it
--   same_file                   a reader stays in its file
--   number_fault                a faulty number's place is its first byte
--   seen number_seen            what is told of a number and where the reader is then: that is the number at the offset
-- Assumes nothing.
use Rattle.std.proofs.Common.{◌≡◌, refl, sym, ap, subst, ◌∙◌, ℕ, zero, suc, ◌+◌, ◌*◌, ◌%◌, Bool, true, false, cond, ltb, leb, List, length, get_or, Option, Some, None, Result, Ok, Err}
use Rattle.meaning.specs.Files.{Reading, faulty, found, and_then, seven_bit_groups, number_at, number}
use Rattle.files_numbers.specs.declared.Fault.{Fault}
use Rattle.files_numbers.specs.Places.{Place, behind}
use Rattle.files_numbers.specs.Readings.{answer_of, seen_at}

pub not_found : {A : Type 0} (r : Reading A) (f : Fault) → Err f ≡ answer_of r → faulty f.place ≡ r
not_found (faulty p) f e = cc
not_found (found a next) f e = cc

pub was_found : {A : Type 0} (r : Reading A) (a : A) (p q : Place) → Ok a ≡ answer_of r → q ≡ behind p r → found a q.at ≡ r
was_found (faulty p) a p' q e g = cc
was_found (found b next) a p q e g = cc

pub same_file : {A : Type 0} (r : Reading A) (p q : Place) → q ≡ behind p r → q.file ≡ p.file
same_file (faulty x) p q g = ap (λ k. k.file) g
same_file (found b next) p q g = ap (λ k. k.file) g

-- A fault that is found stands at an offset.
abbrev FaultsAt : {A : Type 0} → ℕ → Reading A → Type 0
FaultsAt first (faulty p) = p ≡ first
FaultsAt first (found a next) = Unit {0}

by_test : {A : Type 0} (first : ℕ) (b : Bool) (r s : Reading A) → FaultsAt first r → FaultsAt first s → FaultsAt first (cond b r s)
by_test first true r s h k = h
by_test first false r s h k = k

by_step : {A B : Type 0} (first : ℕ) (r : Reading A) (f : A → ℕ → Reading B) → FaultsAt first r
    → ((a : A) (next : ℕ) → FaultsAt first (f a next)) → FaultsAt first (and_then r f)
by_step first (faulty p) f h k = h
by_step first (found a next) f h k = k a next

groups_fault : (k : ℕ) (file : List ℕ) (first at : ℕ) → FaultsAt first (seven_bit_groups k file first at)
unfolding seven_bit_groups
groups_fault zero file first at = refl
groups_fault (suc k) file first at =
    by_test first (ltb at (length file)) _ _
    (by_test first (ltb (get_or file at 0) 128) _ _ tt
    (by_step first (seven_bit_groups k file first (at + 1)) _ (groups_fault k file first (at + 1))
    (λ rest next. by_test first (leb 1 rest) (found (get_or file at 0 % 128 + 128 * rest) next) (faulty first) tt refl)))
    refl

module _ (p : ℕ → Bool) (file : List ℕ) (at : ℕ) where
  number_faults : FaultsAt at (number p file at)
  number_faults =
      by_step at (number_at file at) (λ n next. cond (p n) (found n next) (faulty at)) (groups_fault 2 file at at)
      (λ n next. by_test at (p n) (found n next) (faulty at) tt refl)

  -- A faulty number's place is its first byte.
  pub number_fault : (q : ℕ) → faulty q ≡ number p file at → q ≡ at
  number_fault q e = subst (FaultsAt at) (sym e) number_faults

-- A number that was told, with the offset at which the reader is then.
abbrev pub seen : Result ℕ Fault → ℕ → Option (ℕ × ℕ)
seen (Ok n) next = Some (n, next)
seen (Err f) next = None

-- That is the number at the offset where the reader was.
pub number_seen : (p : ℕ → Bool) (q k : Place) (r : Result ℕ Fault) → r ≡ answer_of (number p q.file q.at) → k ≡ behind q (number p q.file q.at)
    → seen_at q.at (seen r k.at) ≡ number p q.file q.at
number_seen p q k (Ok n) e g = was_found (number p q.file q.at) n q k e g
number_seen p q k (Err f) e g =
    let h = not_found (number p q.file q.at) f e in
    ap faulty (sym (number_fault p q.file q.at f.place h)) ∙ h
