-- K9: columns and groups hold the same facts of every sound table, and any columns of 64-, 8- and 16-bit numbers can be laid as groups and read
-- back. With `LayoutCalls`, every call then answers the same.
--
--   held_same                   layouts that hold the same five numbers of a node
--   sound_facts sound_same      a table that is sound in two layouts has the same facts in both
--   sound_carries               a layout that holds the same facts as a sound table's is sound
--   InRange                     what u64, u8 and u16 promise of the facts below a count
--   sound_in_range groups_in_range      the facts of a sound table are such numbers; so are those that any groups of bytes hold
--   grouped length_grouped bytes_grouped    facts laid as groups: how many bytes, and that they are bytes
--   grouped_before grouped_same     they hold the same facts, whatever bytes follow; and if none do
--   columns_as_groups           columns of such numbers, of any lengths, right or wrong, have groups of bytes that hold the same facts
--   sound_grouped               a sound table with its facts laid as groups is sound
--   sound_layouts               so every sound table has groups of bytes that hold its facts and are sound
-- Assumes nothing.
use Prim.Native.Nat.{ℕ, zero, suc, ◌+◌, ◌*◌, ◌/◌, ◌^◌, ◌≤◌, ◌<◌, zero-le}
use mathlib.Core.Path.{◌≡◌, refl, sym, ◌∙◌, subst}
use mathlib.Core.Bool.{true, false, ◌&&◌, true≢false}
use mathlib.Core.List.{List, [], ◌∷◌, ◌++◌, append-nil}
use mathlib.Core.Logic.{⊎_elim}
use native.Mathlib.Omega.{arith}
use native.Mathlib.Numerals.{unary_clauses}
use native.Mathlib.Nat.{not-suc-le-zero}
use lib.Dec.{leb}
use lib.ListN.{length, drop, get_or, length-append, length-drop, get_or-eq_default}
use lib.Seq.{get_or-drop}
use borrow.Author.Tests.{leb-true, leb-false, le-leb, lt-leb}
use Rattle.meaning.specs.Types.{width, size, padded, least_length}
use Rattle.meaning.specs.Groups.{group, low, low_bytes, group_size, fact_in}
use Rattle.meaning.specs.Tables.{Columns, Facts, facts_in, ty_at, class_of, digit, count_right, columns_reach, facts_reach}
use Rattle.meaning.specs.Checked.{Sound, Bytes}
use Rattle.meaning.proofs.Tests.{and_right}
use Rattle.meaning.proofs.Choices.{either}
use Rattle.meaning.proofs.Ladders.{right_shape, sound_shape, sound_accepted, accepted_sound}
use Rattle.meaning.proofs.Types.{width_top, size_top}
use Rattle.meaning.proofs.Leasts.{least_top}
use Rattle.meaning.proofs.Trees.{class_le}
use Rattle.meaning.proofs.Groups.{length_fact, fact_at, groups-reach}
use Rattle.meaning.proofs.GroupLaws.{Holds, right_holds, length_group, laid, length_laid, laid_at, digit_low}
use Rattle.laws.proofs.Layouts.{SameAt, SameFacts, table_with}
use Rattle.laws.proofs.LayoutCalls.{check_table_same}

-- Facts that hold the same five numbers of a node.
pub held_same : (f g : Facts) (n w z p k l : ℕ) → Holds f n w z p k l → Holds g n w z p k l → SameAt f g n
held_same f g n w z p k l a b =
    record {
      widths_same = a.width_held ∙ sym b.width_held;
      sizes_same = a.size_held ∙ sym b.size_held;
      paddeds_same = a.padded_held ∙ sym b.padded_held;
      classes_same = a.class_held ∙ sym b.class_held;
      leasts_same = a.least_held ∙ sym b.least_held;
    }

module _ (c : Columns) (n : ℕ) (f : Facts) (s : Sound (table_with c n f)) where
  sound_reach : facts_reach f n ≡ true
  sound_reach =
      and_right (count_right n && columns_reach c n) (facts_reach f n) (right_shape (table_with c n f) (sound_shape (table_with c n f) s))

  sound_holds : (k : ℕ) → k < n → Holds f k (width (ty_at c k)) (size (ty_at c k)) (digit (padded (ty_at c k))) (class_of c k) (least_length (ty_at c k))
  sound_holds k h = right_holds c f k (s.told k h)

module _ (c : Columns) (n : ℕ) (f g : Facts) where
  pub sound_facts : Sound (table_with c n f) → Sound (table_with c n g) → (k : ℕ) → k < n → SameAt f g k
  sound_facts s t k h = held_same f g k _ _ _ _ _ (sound_holds c n f s k h) (sound_holds c n g t k h)

  pub sound_same : Sound (table_with c n f) → Sound (table_with c n g) → SameFacts n f g
  sound_same s t = record { reach_same = sound_reach c n f s ∙ sym (sound_reach c n g t); all_same = λ _. sound_facts s t }

  pub sound_carries : SameFacts n f g → Sound (table_with c n f) → Sound (table_with c n g)
  sound_carries e s = accepted_sound (table_with c n g) (sym (check_table_same c n f g e) ∙ sound_accepted (table_with c n f) s)

-- The numbers below the count are 64-bit, 8-bit and 16-bit ones.
pub record InRange (f : Facts) (n : ℕ) : Type 0 where
  pub widths_below : (k : ℕ) → k < n → get_or f.widths k 0 < 2 ^ 64
  pub sizes_below : (k : ℕ) → k < n → get_or f.sizes k 0 < 2 ^ 64
  pub paddeds_below : (k : ℕ) → k < n → get_or f.paddeds k 0 < 2 ^ 8
  pub classes_below : (k : ℕ) → k < n → get_or f.classes k 0 < 2 ^ 16
  pub leasts_below : (k : ℕ) → k < n → get_or f.leasts k 0 < 2 ^ 64

pub sound_in_range : (c : Columns) (n : ℕ) (f : Facts) → Sound (table_with c n f) → InRange f n
sound_in_range c n f s =
    record {
      widths_below = λ k h. let e = (sound_holds c n f s k h).width_held in let l = width_top (ty_at c k) in omega arith;
      sizes_below = λ k h. let e = (sound_holds c n f s k h).size_held in let l = size_top (ty_at c k) in omega arith;
      paddeds_below = λ k h. let e = (sound_holds c n f s k h).padded_held in let l = digit_low (padded (ty_at c k)) in omega arith;
      classes_below = λ k h. let e = (sound_holds c n f s k h).class_held in let l = class_le c k in let m = s.few_nodes in omega arith;
      leasts_below = λ k h. let e = (sound_holds c n f s k h).least_held in let l = least_top (ty_at c k) in omega arith;
    }

low_below : (k : ℕ) (s : List ℕ) → ((i : ℕ) → i < length s → get_or s i 0 < 256) → low k s < 256 ^ k
unfolding low
low_below zero s h = let e : 256 ^ 0 ≡ 1 = refl in omega arith
low_below (suc k) [] h = let r = low_below k [] h in let e : 256 ^ suc k ≡ 256 * 256 ^ k = simp unary_clauses (omega arith) in omega arith
low_below (suc k) (b ∷ s) h =
    let r = low_below k s (λ i l. h (suc i) (omega arith)) in
    let d = h 0 (omega arith) in
    let e : 256 ^ suc k ≡ 256 * 256 ^ k = simp unary_clauses (omega arith) in
    omega arith

fact_below : (at k n : ℕ) (g : List ℕ) → Bytes g → get_or (fact_in at k g) n 0 < 256 ^ k
fact_below at k n g b =
    ⊎_elim
    (λ e.
    let i = group_size * n + at in
    rw (fact_at at k n g (leb-true (group_size * (n + 1)) (length g) e))
    (low_below k (drop i g) (λ j l. let d = length-drop i g in rw (get_or-drop i g j 0) (b.below (i + j) (omega arith)))))
    (λ e.
    let h = leb-false (group_size * (n + 1)) (length g) e in
    let d = length_fact at k g in
    let z = get_or-eq_default (fact_in at k g) 0 (let l : length (fact_in at k g) ≤ n = omega arith in l) in
    let p = low_below k [] (λ _ l. absurd (not-suc-le-zero l)) in
    omega arith)
    (either (leb (group_size * (n + 1)) (length g)))

pub groups_in_range : (g : List ℕ) (n : ℕ) → Bytes g → InRange (facts_in g) n
groups_in_range g n b =
    record {
      widths_below = λ k _. fact_below 0 8 k g b;
      sizes_below = λ k _. fact_below 8 8 k g b;
      paddeds_below = λ k _. fact_below 16 1 k g b;
      classes_below = λ k _. fact_below 17 2 k g b;
      leasts_below = λ k _. fact_below 19 8 k g b;
    }

-- The facts of the first n nodes laid as groups, one group after the other.
abbrev pub grouped : Facts → ℕ → List ℕ
grouped f n = laid (λ k. group (get_or f.widths k 0) (get_or f.sizes k 0) (get_or f.paddeds k 0) (get_or f.classes k 0) (get_or f.leasts k 0)) n

-- Columns are too short only for some node.
short_some : (f : Facts) (n : ℕ) → facts_reach f n ≡ false → 0 < n
short_some f zero e =
    absurd (true≢false
    (sym (rw (
      le-leb 0 (length f.widths) zero-le,
      le-leb 0 (length f.sizes) zero-le,
      le-leb 0 (length f.paddeds) zero-le,
      le-leb 0 (length f.classes) zero-le,
      le-leb 0 (length f.leasts) zero-le,
    ))
    ∙ e))
short_some f (suc n) e = omega arith

pub length_grouped : (f : Facts) (n : ℕ) → length (grouped f n) ≡ group_size * n
length_grouped f n =
    length_laid _ n
    (λ k. length_group (get_or f.widths k 0) (get_or f.sizes k 0) (get_or f.paddeds k 0) (get_or f.classes k 0) (get_or f.leasts k 0))

-- Bytes and bytes after them are bytes; past their end a list of numbers reads 0, so no length is asked for.
append_below : (s t : List ℕ) → ((i : ℕ) → get_or s i 0 < 256) → ((i : ℕ) → get_or t i 0 < 256) → (i : ℕ) → get_or (s ++ t) i 0 < 256
append_below [] t a b i = b i
append_below (x ∷ s) t a b zero = a 0
append_below (x ∷ s) t a b (suc i) = append_below s t (λ j. a (suc j)) b i

low_bytes_below : (k x i : ℕ) → get_or (low_bytes k x) i 0 < 256
unfolding low_bytes
low_bytes_below zero x i = omega arith
low_bytes_below (suc k) x zero = omega arith
low_bytes_below (suc k) x (suc i) = low_bytes_below k (x / 256) i

group_below : (w z p k l i : ℕ) → get_or (group w z p k l) i 0 < 256
group_below w z p k l =
    append_below (low_bytes 8 w) _ (low_bytes_below 8 w)
    (append_below (low_bytes 8 z) _ (low_bytes_below 8 z)
    (append_below (low_bytes 1 p) _ (low_bytes_below 1 p) (append_below (low_bytes 2 k) _ (low_bytes_below 2 k) (low_bytes_below 8 l))))

laid_below : (g : ℕ → List ℕ) (n : ℕ) → ((k i : ℕ) → get_or (g k) i 0 < 256) → (i : ℕ) → get_or (laid g n) i 0 < 256
unfolding laid
laid_below g zero h i = omega arith
laid_below g (suc n) h i = append_below (laid g n) (g n) (laid_below g n h) (h n) i

pub bytes_grouped : (f : Facts) (n : ℕ) → Bytes (grouped f n)
bytes_grouped f n =
    record {
      below = λ i _. laid_below _ n
          (λ k. group_below (get_or f.widths k 0) (get_or f.sizes k 0) (get_or f.paddeds k 0) (get_or f.classes k 0) (get_or f.leasts k 0)) i;
    }

module _ (f : Facts) (n : ℕ) (r : InRange f n) where
  pub grouped_before : facts_reach f n ≡ true → (after : List ℕ) → SameFacts n f (facts_in (grouped f n ++ after))
  grouped_before e after =
      let l = length_grouped f n in
      let d = length-append (grouped f n) after in
      record {
        reach_same = e ∙ sym (groups-reach n (grouped f n ++ after) ∙ le-leb (group_size * n) (length (grouped f n ++ after)) (omega arith));
        all_same = λ _ k h. held_same f (facts_in (grouped f n ++ after)) k _ _ _ _ _
            (record { width_held = refl; size_held = refl; padded_held = refl; class_held = refl; least_held = refl })
            (laid_at (λ j. get_or f.widths j 0) (λ j. get_or f.sizes j 0) (λ j. get_or f.paddeds j 0) (λ j. get_or f.classes j 0)
            (λ j. get_or f.leasts j 0) n k after h
            (r.widths_below k h) (r.sizes_below k h) (r.paddeds_below k h) (r.classes_below k h) (r.leasts_below k h));
      }

  pub grouped_same : facts_reach f n ≡ true → SameFacts n f (facts_in (grouped f n))
  grouped_same e = subst (λ (s : List ℕ). SameFacts n f (facts_in s)) (append-nil (grouped f n)) (grouped_before e [])

  pub columns_as_groups : (g : List ℕ) × Bytes g × SameFacts n f (facts_in g)
  columns_as_groups =
      ⊎_elim (λ e. (grouped f n, bytes_grouped f n, grouped_same e))
      (λ e.
      let h = short_some f n e in (
        [],
        record { below = λ i _. omega arith },
        record {
          reach_same = e ∙ sym (groups-reach n [] ∙ lt-leb (group_size * n) 0 (omega arith));
          all_same = λ d. absurd (true≢false (sym d ∙ e));
        },
      ))
      (either (facts_reach f n))

pub sound_grouped : (c : Columns) (n : ℕ) (f : Facts) → Sound (table_with c n f) → Sound (table_with c n (facts_in (grouped f n)))
sound_grouped c n f s = sound_carries c n f (facts_in (grouped f n)) (grouped_same f n (sound_in_range c n f s) (sound_reach c n f s)) s

-- The way back: the facts that groups of bytes hold are themselves columns, `facts_in g`, of such numbers (`groups_in_range`), and a table with the
-- one is a table with the other (`groups_table`).
pub sound_layouts : (c : Columns) (n : ℕ) (f : Facts) → Sound (table_with c n f)
    → (g : List ℕ) × Bytes g × SameFacts n f (facts_in g) × Sound (table_with c n (facts_in g))
sound_layouts c n f s =
    (grouped f n, bytes_grouped f n, grouped_same f n (sound_in_range c n f s) (sound_reach c n f s), sound_grouped c n f s)
