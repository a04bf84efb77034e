-- Bytes that are read are what is laid, so that the groups of a sound table are those of its trees and no others.
--
--   low_bytes_low               the bytes of the number that bytes say
--   group_low                   the group of the facts that a group holds
--   sound_written               writing the groups of a sound table over its own changes nothing
-- Assumes nothing.
use Prim.Native.Nat.{ℕ, zero, suc, ◌+◌, ◌*◌, ◌/◌, ◌%◌, ◌≤◌, ◌<◌}
use mathlib.Core.Path.{◌≡◌, refl, sym, ap, ◌∙◌}
use mathlib.Core.List.{List, [], ◌∷◌, ◌++◌, append_assoc}
use native.Mathlib.Omega.{arith}
use native.Mathlib.Numerals.{add-one}
use lib.ListN.{length, drop, get_or, length-drop}
use lib.Seq.{get_or-drop, drop-drop}
use Rattle.meaning.specs.Groups.{low, low_bytes, group, group_size}
use Rattle.meaning.specs.Tables.{Columns, Table, facts_in}
use Rattle.meaning.specs.Checked.{Sound, Bytes}
use Rattle.meaning.specs.TypeCalls.{group_of, groups_of, groups_written}
use Rattle.meaning.proofs.Groups.{length_fact, fact_at}
use Rattle.meaning.proofs.Sounds.{sound_width, sound_size, sound_digit, sound_class, sound_least}

pub low_bytes_low : (k : ℕ) (s : List ℕ) → ((i : ℕ) → i < length s → get_or s i 0 < 256) → k ≤ length s → low_bytes k (low k s) ++ drop k s ≡ s
unfolding low low_bytes
low_bytes_low zero s b h = refl
low_bytes_low (suc k) [] b h = absurd (never h)
  where
    never : suc k ≤ 0 → ⊥
    never l = omega arith
low_bytes_low (suc k) (x ∷ s) b h =
    let l : x < 256 = b 0 (omega arith) in
    let head : (x + 256 * low k s) % 256 ≡ x = omega arith in
    let rest : (x + 256 * low k s) / 256 ≡ low k s = omega arith in
    (λ i. head i ∷ (low_bytes k (rest i) ++ drop k s)) ∙ ap (λ (t : List ℕ). x ∷ t) (low_bytes_low k s (λ i l. b (suc i) (omega arith)) (omega arith))

-- Bytes from a place on.
below_drop : (n : ℕ) (s : List ℕ) → Bytes s → (i : ℕ) → i < length (drop n s) → get_or (drop n s) i 0 < 256
below_drop n s b i h =
    let e = length-drop n s in let g = get_or-drop n s i 0 in let l = b.below (n + i) (omega arith) in omega arith

pub group_low : (s : List ℕ) (n : ℕ) → Bytes s → group_size * (n + 1) ≤ length s
    → group (get_or (facts_in s).widths n 0) (get_or (facts_in s).sizes n 0) (get_or (facts_in s).paddeds n 0) (get_or (facts_in s).classes n 0) (get_or (facts_in s).leasts n 0) ++ drop (group_size * (n + 1)) s
    ≡ drop (group_size * n) s
group_low s n b h =
    (λ i. group (fact_at 0 8 n s h i) (fact_at 8 8 n s h i) (fact_at 16 1 n s h i) (fact_at 17 2 n s h i) (fact_at 19 8 n s h i) ++ drop (group_size * (n + 1)) s)
    ∙ append_assoc (low_bytes 8 w) (low_bytes 8 z ++ (low_bytes 1 p ++ (low_bytes 2 k ++ low_bytes 8 l))) end
    ∙ ap (λ (t : List ℕ). low_bytes 8 w ++ t)
    (append_assoc (low_bytes 8 z) (low_bytes 1 p ++ (low_bytes 2 k ++ low_bytes 8 l)) end
    ∙ ap (λ (t : List ℕ). low_bytes 8 z ++ t)
    (append_assoc (low_bytes 1 p) (low_bytes 2 k ++ low_bytes 8 l) end
    ∙ ap (λ (t : List ℕ). low_bytes 1 p ++ t)
    (append_assoc (low_bytes 2 k) (low_bytes 8 l) end
    ∙ ap (λ (t : List ℕ). low_bytes 2 k ++ t) (part 19 8 (group_size * (n + 1)) (omega arith) (omega arith))
    ∙ part 17 2 (group_size * n + 19) (omega arith) (omega arith))
    ∙ part 16 1 (group_size * n + 17) (omega arith) (omega arith))
    ∙ part 8 8 (group_size * n + 16) (omega arith) (omega arith))
    ∙ part 0 8 (group_size * n + 8) (omega arith) (omega arith)
    ∙ ap (λ (i : ℕ). drop i s) (let e : group_size * n + 0 ≡ group_size * n = omega arith in e)
  where
    w : ℕ
    w = low 8 (drop (group_size * n + 0) s)

    z : ℕ
    z = low 8 (drop (group_size * n + 8) s)

    p : ℕ
    p = low 1 (drop (group_size * n + 16) s)

    k : ℕ
    k = low 2 (drop (group_size * n + 17) s)

    l : ℕ
    l = low 8 (drop (group_size * n + 19) s)

    end : List ℕ
    end = drop (group_size * (n + 1)) s

    -- One number and what follows it.
    part : (at m next : ℕ) → next ≡ group_size * n + at + m → at + m ≤ group_size → low_bytes m (low m (drop (group_size * n + at) s)) ++ drop next s ≡ drop (group_size * n + at) s
    part at m next e l =
        let d = length-drop (group_size * n + at) s in
        ap (λ (i : ℕ). low_bytes m (low m (drop (group_size * n + at) s)) ++ drop i s) e
        ∙ ap (λ (t : List ℕ). low_bytes m (low m (drop (group_size * n + at) s)) ++ t) (sym (drop-drop m (group_size * n + at) s))
        ∙ low_bytes_low m (drop (group_size * n + at) s) (below_drop (group_size * n + at) s b) (omega arith)

-- The table of these columns, groups and count is sound.
module _ (c : Columns) (n : ℕ) (g : List ℕ) (b : Bytes g) (s : Sound (record { columns = c; facts = facts_in g; count = n })) where
  abbrev t : Table
  t = record { columns = c; facts = facts_in g; count = n }

  group_is : (k : ℕ) → k < n → group_of c k ++ drop (group_size * (k + 1)) g ≡ drop (group_size * k) g
  unfolding group_of
  group_is k h =
      let e = length_fact 0 8 g in
      let r = s.widths_reach in
      (λ i. group (sym (sound_width t s k h) i) (sym (sound_size t s k h) i) (sym (sound_digit t s k h) i) (sym (sound_class t s k h) i) (sym (sound_least t s k h) i) ++ drop (group_size * (k + 1)) g)
      ∙ group_low g k b (omega arith)

  written_to : (k : ℕ) → k ≤ n → groups_written c k g ≡ g
  unfolding groups_of
  written_to zero h = refl
  written_to (suc k) h =
      append_assoc (groups_of c k) (group_of c k) (drop (group_size * suc k) g)
      ∙ ap (λ (r : List ℕ). groups_of c k ++ r) (ap (λ (i : ℕ). group_of c k ++ drop (group_size * i) g) (sym (add-one k)) ∙ group_is k (omega arith))
      ∙ written_to k (omega arith)

  pub sound_written : groups_written c n g ≡ g
  sound_written = written_to n (omega arith)
