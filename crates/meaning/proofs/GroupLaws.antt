-- Groups laid one after the other: what was laid is read again, node by node, and a buffer that is filled group by group.
--
--   length_group                the bytes of a group
--   laid length_laid laid_split     groups one after the other: their bytes, and the group of a number among them
--   Holds holds_right right_holds   the facts of a node are these numbers; they are right exactly if they are those of its tree
--   group_at                    a group is read back, whatever bytes lie before it and follow it
--   laid_at                     so is each of those laid one after the other
--   length_group_of length_groups_of length_groups_written  the bytes of a node's group, of the first n nodes', and of a buffer afterwards
--   groups_laid groups_more     the groups of the first n nodes lie one after the other; one more in a buffer
--   digit_low                   a yes or no is a byte
--   written_holds               in a buffer with the groups of the first n nodes, the facts of each are those of its tree
--   written_width written_size written_padded written_class written_least written_right     each of them, and all as one test
--   sound_group                 each node of a sound table has its group
-- Assumes nothing.
use Prim.Native.Nat.{ℕ, zero, suc, ◌+◌, ◌*◌, ◌^◌, ◌≤◌, ◌<◌}
use mathlib.Core.Path.{◌≡◌, refl, sym, ap, ◌∙◌, subst}
use mathlib.Core.Bool.{Bool, true, false, ◌&&◌}
use mathlib.Core.List.{List, [], ◌++◌, append_assoc, append-nil}
use mathlib.Core.Logic.{⊎_elim}
use native.Mathlib.Omega.{arith}
use native.Mathlib.Numerals.{add-one}
use native.Mathlib.Nat.{eq-or-lt_of_le}
use lib.ListN.{length, drop, get_or, length-append, length-drop}
use lib.Seq.{take_all, take_at, drop_at, drop-drop, drop-append-add, paste}
use lib.Dec.{eqb}
use borrow.Author.Tests.{eqb-true, eq-eqb}
use Rattle.meaning.specs.Types.{width, size, padded, least_length}
use Rattle.meaning.specs.Groups.{low, low_bytes, group, group_size, fact_in}
use Rattle.meaning.specs.Tables.{Columns, Facts, facts_in, table, ty_at, class_of, digit, facts_right}
use Rattle.meaning.specs.Checked.{Sound}
use Rattle.meaning.specs.TypeCalls.{group_of, groups_of, groups_written}
use Rattle.meaning.proofs.Tests.{and_left, and_right}
use Rattle.meaning.proofs.Types.{width_top, size_top}
use Rattle.meaning.proofs.Leasts.{least_top}
use Rattle.meaning.proofs.Trees.{class_le}
use Rattle.meaning.proofs.Groups.{length_low_bytes, low_low_bytes, length_fact, fact_at}

pub length_group : (w z p k l : ℕ) → length (group w z p k l) ≡ group_size
length_group w z p k l = simp (length-append, length_low_bytes)

-- Groups of the first n numbers, one after the other.
unfoldable pub laid : (ℕ → List ℕ) → ℕ → List ℕ
laid g zero = []
laid g (suc n) = laid g n ++ g n

pub length_laid : (g : ℕ → List ℕ) (n : ℕ) → ((k : ℕ) → length (g k) ≡ group_size) → length (laid g n) ≡ group_size * n
unfolding laid
length_laid g zero h = refl
length_laid g (suc n) h = let e = length_laid g n h in let d = h n in simp length-append (omega arith)

pub laid_split : (g : ℕ → List ℕ) (n k : ℕ) → k < n → (r : List ℕ) × (laid g n ≡ laid g k ++ (g k ++ r))
unfolding laid
laid_split g zero k h = absurd (never h)
  where
    never : k < 0 → ⊥
    never l = omega arith
laid_split g (suc n) k h =
    ⊎_elim (λ e. ([], ap (λ (l : List ℕ). laid g n ++ l) (sym (append-nil (g n))) ∙ ap (λ (m : ℕ). laid g m ++ (g m ++ [])) (sym e)))
    (λ l. let s = laid_split g n k l in (s.0 ++ g n, ap (λ (x : List ℕ). x ++ g n) s.1 ∙ simp append_assoc))
    (eq-or-lt_of_le (let l : k ≤ n = omega arith in l))

-- The facts of a node are these five numbers.
pub record Holds (f : Facts) (n w z p k l : ℕ) : Type 0 where
  pub width_held : get_or f.widths n 0 ≡ w
  pub size_held : get_or f.sizes n 0 ≡ z
  pub padded_held : get_or f.paddeds n 0 ≡ p
  pub class_held : get_or f.classes n 0 ≡ k
  pub least_held : get_or f.leasts n 0 ≡ l

-- One number of a group: what lies before it has so many bytes.
number_at : (at k n x : ℕ) (g p r : List ℕ) → g ≡ p ++ (low_bytes k x ++ r) → length p ≡ group_size * n + at → group_size * (n + 1) ≤ length g → x < 256 ^ k
    → get_or (fact_in at k g) n 0 ≡ x
number_at at k n x g p r e d h l =
    fact_at at k n g h
    ∙ ap (λ (s : List ℕ). low k (drop (group_size * n + at) s)) e
    ∙ ap (low k) (drop_at p (low_bytes k x ++ r) (group_size * n + at) d)
    ∙ low_low_bytes k x r l

pub group_at : (before after : List ℕ) (n w z p k l : ℕ) → length before ≡ group_size * n → w < 256 ^ 8 → z < 256 ^ 8 → p < 256 → k < 65536 → l < 256 ^ 8
    → Holds (facts_in (before ++ (group w z p k l ++ after))) n w z p k l
group_at before after n w z p k l e hw hz hp hk hl =
    let r : length (before ++ (group w z p k l ++ after)) ≡ length before + (group_size + length after) = simp (length-append, length_low_bytes) (omega arith) in
    let g : List ℕ = before ++ (group w z p k l ++ after) in
    record {
      width_held = number_at 0 8 n w g before (low_bytes 8 z ++ (low_bytes 1 p ++ (low_bytes 2 k ++ low_bytes 8 l)) ++ after) (simp append_assoc) (omega arith) (omega arith) hw;
      size_held = number_at 8 8 n z g (before ++ low_bytes 8 w) (low_bytes 1 p ++ (low_bytes 2 k ++ low_bytes 8 l) ++ after) (simp append_assoc) (simp (length-append, length_low_bytes) (omega arith)) (omega arith) hz;
      padded_held = number_at 16 1 n p g (before ++ low_bytes 8 w ++ low_bytes 8 z) (low_bytes 2 k ++ low_bytes 8 l ++ after) (simp append_assoc) (simp (length-append, length_low_bytes) (omega arith)) (omega arith) hp;
      class_held = number_at 17 2 n k g (before ++ low_bytes 8 w ++ low_bytes 8 z ++ low_bytes 1 p) (low_bytes 8 l ++ after) (simp append_assoc) (simp (length-append, length_low_bytes) (omega arith)) (omega arith) hk;
      least_held = number_at 19 8 n l g (before ++ low_bytes 8 w ++ low_bytes 8 z ++ low_bytes 1 p ++ low_bytes 2 k) after (simp append_assoc) (simp (length-append, length_low_bytes) (omega arith)) (omega arith) hl;
    }

-- Five facts of every number, laid as groups with any bytes after them.
pub laid_at : (w z p k l : ℕ → ℕ) (n i : ℕ) (after : List ℕ) → i < n → w i < 256 ^ 8 → z i < 256 ^ 8 → p i < 256 → k i < 65536 → l i < 256 ^ 8
    → Holds (facts_in (laid (λ j. group (w j) (z j) (p j) (k j) (l j)) n ++ after)) i (w i) (z i) (p i) (k i) (l i)
laid_at w z p k l n i after h hw hz hp hk hl =
    let g : ℕ → List ℕ = λ j. group (w j) (z j) (p j) (k j) (l j) in
    let s = laid_split g n i h in
    let e : laid g n ++ after ≡ laid g i ++ (g i ++ (s.0 ++ after)) = ap (λ (x : List ℕ). x ++ after) s.1 ∙ simp append_assoc in
    subst (λ (x : List ℕ). Holds (facts_in x) i (w i) (z i) (p i) (k i) (l i)) (sym e)
    (group_at (laid g i) (s.0 ++ after) i (w i) (z i) (p i) (k i) (l i) (length_laid g i (λ j. length_group (w j) (z j) (p j) (k j) (l j))) hw hz hp hk hl)

pub length_group_of : (c : Columns) (n : ℕ) → length (group_of c n) ≡ group_size
unfolding group_of
length_group_of c n = length_group (width (ty_at c n)) (size (ty_at c n)) (digit (padded (ty_at c n))) (class_of c n) (least_length (ty_at c n))

pub groups_laid : (c : Columns) (n : ℕ) → groups_of c n ≡ laid (group_of c) n
unfolding groups_of laid
groups_laid c zero = refl
groups_laid c (suc n) = ap (λ (s : List ℕ). s ++ group_of c n) (groups_laid c n)

pub length_groups_of : (c : Columns) (n : ℕ) → length (groups_of c n) ≡ group_size * n
length_groups_of c n = ap length (groups_laid c n) ∙ length_laid (group_of c) n (length_group_of c)

pub length_groups_written : (c : Columns) (n : ℕ) (old : List ℕ) → group_size * n ≤ length old → length (groups_written c n old) ≡ length old
length_groups_written c n old h = let e = length_groups_of c n in simp (length-append, length-drop) (omega arith)

pub groups_more : (c : Columns) (n : ℕ) (old : List ℕ) → paste (groups_written c n old) (group_size * n) (group_of c n) group_size ≡ groups_written c (n + 1) old
unfolding groups_of
groups_more c n old =
    let g : List ℕ = groups_of c n in
    let d : List ℕ = drop (group_size * n) old in
    let l = length_groups_of c n in
    let e : group_size * (n + 1) ≡ group_size * n + group_size = omega arith in
    let after : drop (group_size * n + group_size) (g ++ d) ≡ drop (group_size * (n + 1)) old =
    ap (λ (i : ℕ). drop (i + group_size) (g ++ d)) (sym l) ∙ drop-append-add g d group_size ∙ drop-drop group_size (group_size * n) old ∙ ap (λ (i : ℕ). drop i old) (sym e) in
    let o = length_group_of c n in
    rw (take_at g d (group_size * n) l, take_all group_size (group_of c n) (omega arith), after, add-one)

pub holds_right : (c : Columns) (f : Facts) (n : ℕ) → Holds f n (width (ty_at c n)) (size (ty_at c n)) (digit (padded (ty_at c n))) (class_of c n) (least_length (ty_at c n)) → facts_right c f n ≡ true
unfolding facts_right
holds_right c f n s =
    rw (eq-eqb _ _ s.width_held, eq-eqb _ _ s.size_held, eq-eqb _ _ s.padded_held, eq-eqb _ _ s.class_held, eq-eqb _ _ s.least_held)

module _ (c : Columns) (f : Facts) (n : ℕ) where
  -- The five tests of a node's facts.
  abbrev w : Bool
  w = eqb (get_or f.widths n 0) (width (ty_at c n))

  abbrev z : Bool
  z = eqb (get_or f.sizes n 0) (size (ty_at c n))

  abbrev p : Bool
  p = eqb (get_or f.paddeds n 0) (digit (padded (ty_at c n)))

  abbrev k : Bool
  k = eqb (get_or f.classes n 0) (class_of c n)

  abbrev l : Bool
  l = eqb (get_or f.leasts n 0) (least_length (ty_at c n))

  pub right_holds : facts_right c f n ≡ true → Holds f n (width (ty_at c n)) (size (ty_at c n)) (digit (padded (ty_at c n))) (class_of c n) (least_length (ty_at c n))
  unfolding facts_right
  right_holds all =
      let four = and_left (w && z && p && k) l all in
      let three = and_left (w && z && p) k four in
      let both = and_left (w && z) p three in
      record {
        width_held = eqb-true (get_or f.widths n 0) (width (ty_at c n)) (and_left w z both);
        size_held = eqb-true (get_or f.sizes n 0) (size (ty_at c n)) (and_right w z both);
        padded_held = eqb-true (get_or f.paddeds n 0) (digit (padded (ty_at c n))) (and_right (w && z) p three);
        class_held = eqb-true (get_or f.classes n 0) (class_of c n) (and_right (w && z && p) k four);
        least_held = eqb-true (get_or f.leasts n 0) (least_length (ty_at c n)) (and_right (w && z && p && k) l all);
      }

pub digit_low : (b : Bool) → digit b < 256
digit_low true = omega arith
digit_low false = omega arith

module _ (c : Columns) (n : ℕ) (old : List ℕ) (k : ℕ) (h : k < n) (few : n ≤ 1024) where
  pub written_holds : Holds (facts_in (groups_written c n old)) k (width (ty_at c k)) (size (ty_at c k)) (digit (padded (ty_at c k))) (class_of c k) (least_length (ty_at c k))
  unfolding group_of
  written_holds =
      let w = width_top (ty_at c k) in
      let z = size_top (ty_at c k) in
      let l = class_le c k in
      let m = least_top (ty_at c k) in
      rw (groups_laid c n)
      (laid_at (λ j. width (ty_at c j)) (λ j. size (ty_at c j)) (λ j. digit (padded (ty_at c j))) (class_of c) (λ j. least_length (ty_at c j)) n k (drop (group_size * n) old) h
      (omega arith) (omega arith) (digit_low (padded (ty_at c k))) (omega arith) (omega arith))

  pub written_width : get_or (facts_in (groups_written c n old)).widths k 0 ≡ width (ty_at c k)
  written_width = written_holds.width_held

  pub written_size : get_or (facts_in (groups_written c n old)).sizes k 0 ≡ size (ty_at c k)
  written_size = written_holds.size_held

  pub written_padded : get_or (facts_in (groups_written c n old)).paddeds k 0 ≡ digit (padded (ty_at c k))
  written_padded = written_holds.padded_held

  pub written_class : get_or (facts_in (groups_written c n old)).classes k 0 ≡ class_of c k
  written_class = written_holds.class_held

  pub written_least : get_or (facts_in (groups_written c n old)).leasts k 0 ≡ least_length (ty_at c k)
  written_least = written_holds.least_held

  pub written_right : facts_right c (facts_in (groups_written c n old)) k ≡ true
  written_right = holds_right c (facts_in (groups_written c n old)) k written_holds

pub sound_group : (ks ls rs gs : List ℕ) (n k : ℕ) → Sound (table ks ls rs gs n) → k < n → group_size * (k + 1) ≤ length gs
sound_group ks ls rs gs n k s h = let e = length_fact 0 8 gs in let r = s.widths_reach in omega arith
