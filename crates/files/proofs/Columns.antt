-- Laws of columns that nodes are written to, one after the other from their front.
--
--   column column_length        a column with nodes written to it; it keeps its length
--   written_more                one more is written
-- Assumes nothing.
use Prim.Native.Nat.{ℕ, suc, ◌+◌, ◌≤◌, ◌<◌}
use mathlib.Core.Path.{◌≡◌, ap, sym, ◌∙◌}
use mathlib.Core.List.{List, [], ◌∷◌, ◌++◌, map, map-append}
use native.Mathlib.Numerals.{add-one}
use native.Mathlib.Omega.{arith}
use lib.ListN.{length, drop, set, get_or, length-map, length-append, length-drop}
use lib.Seq.{drop-cons, set_at, append_snoc}
use Rattle.meaning.specs.Tables.{Columns, columns}
use Rattle.meaning.specs.Files.{Entry}
use Rattle.meaning.specs.TypeCalls.{entries_written}

-- A column with the first n nodes written to it.
abbrev pub column : (Entry → ℕ) → List Entry → ℕ → List ℕ → List ℕ
column f es n old = map f es ++ drop n old

pub column_length : (f : Entry → ℕ) (es : List Entry) (n : ℕ) (old : List ℕ) → length es ≡ n → n ≤ length old → length (column f es n old) ≡ length old
column_length f es n old l h = simp (length-append, length-map, length-drop) (omega arith)

-- One column takes one more entry.
column_more : (f : Entry → ℕ) (es : List Entry) (e : Entry) (n : ℕ) (now old : List ℕ) → now ≡ map f es ++ drop (length es) old
    → length es ≡ n → n < length old → set now n (f e) ≡ map f (es ++ (e ∷ [])) ++ drop (length (es ++ (e ∷ []))) old
column_more f es e n now old q l h =
    ap (λ (c : List ℕ). set c n (f e)) (q ∙ ap (λ (k : ℕ). map f es ++ drop k old) l)
    ∙ ap (λ (r : List ℕ). set (map f es ++ r) n (f e)) (drop-cons old n 0 h)
    ∙ set_at (map f es) (get_or old n 0) (drop (suc n) old) (f e) n (length-map es f ∙ l)
    ∙ sym (append_snoc (map f es) (f e) (drop (suc n) old))
    ∙ ap (λ (r : List ℕ). r ++ drop (suc n) old) (sym (map-append f es (e ∷ [])))
    ∙ ap (λ (k : ℕ). map f (es ++ (e ∷ [])) ++ drop k old) (sym (length-append es (e ∷ []) ∙ ap (λ (k : ℕ). k + 1) l ∙ add-one n))

pub written_more : (es : List Entry) (e : Entry) (n : ℕ) (now old : Columns) → now ≡ entries_written es old → length es ≡ n
    → n < length old.kinds → n < length old.lefts → n < length old.rights
    → columns (set now.kinds n e.kind) (set now.lefts n e.left) (set now.rights n e.right) ≡ entries_written (es ++ (e ∷ [])) old
written_more es e n now old q l k h i =
    let ks = column_more (λ x. x.kind) es e n now.kinds old.kinds (ap (λ c. c.kinds) q) l k in
    let ls = column_more (λ x. x.left) es e n now.lefts old.lefts (ap (λ c. c.lefts) q) l h in
    let rs = column_more (λ x. x.right) es e n now.rights old.rights (ap (λ c. c.rights) q) l i in
    λ j. columns (ks j) (ls j) (rs j)
