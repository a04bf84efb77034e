-- The calls read the own bits of a record alone: records that agree (`Agree`: one node, both past their bytes or neither, the same own bits)
-- get the same answer and the same output, wherever they lie and whatever surrounds them. `OwnViews` has the views.
--
--   padded_len_own equal_own compare_own        the answer
--   left_own right_own some_own product_own     answer and output
-- Assumes nothing.
use Prim.Native.Nat.{ℕ}
use mathlib.Core.Path.{◌≡◌, ap}
use mathlib.Core.Bool.{Bool, true, false, ◌&&◌}
use mathlib.Core.List.{List, [], ◌∷◌, ◌++◌}
use Rattle.meaning.specs.Types.{same, bits, is_sum, is_prod, is_unit, left_side, right_side}
use Rattle.meaning.specs.Tables.{Table}
use Rattle.meaning.specs.Records.{same_bits, order_bits}
use Rattle.meaning.specs.Ladder.{ladder, Record, type_at, record_bits, makes, made}
use Rattle.meaning.specs.RecordCalls.{handed, results, equal_call, compare_call, padded_len_call, order_then, order_types}
use Rattle.meaning.specs.RecordCalls.{left_call, left_out, right_call, right_out, some_call, some_out, product_call, product_out, product_bits}
use Rattle.checked.specs.Sides.{wrapped}
use Rattle.checked.proofs.OwnBits.{Agree, handed_own, results_own}

-- One record.
module _ (t : Table) (r s : Record) (g : Agree t r s) where
  pub padded_len_own : padded_len_call t r ≡ padded_len_call t s
  padded_len_own = λ i. ladder (handed_own t (r ∷ []) (s ∷ []) [] (g, tt) i) (bits (type_at t (g.nodes i)))

  module _ (c : ℕ) (out : List ℕ) where
    -- A constructor of one payload: by its tag, and the shape that its result has for the payload's node.
    wrap : (b : Bool) (ok : ℕ → Bool)
        → (makes (results t (r ∷ []) c (ok r.node)) (wrapped b (type_at t c) (record_bits t r)) out
        ≡ makes (results t (s ∷ []) c (ok s.node)) (wrapped b (type_at t c) (record_bits t s)) out)
        × (made (results t (r ∷ []) c (ok r.node)) (wrapped b (type_at t c) (record_bits t r)) out
        ≡ made (results t (s ∷ []) c (ok s.node)) (wrapped b (type_at t c) (record_bits t s)) out)
    wrap b ok =
        results_own t (r ∷ []) (s ∷ []) (g, tt) c (ok r.node) (ok s.node) (wrapped b (type_at t c) (record_bits t r))
        (wrapped b (type_at t c) (record_bits t s))
        out
        (ap ok g.nodes)
        (ap (wrapped b (type_at t c)) g.own)

    pub left_own : (left_call t r c out ≡ left_call t s c out) × (left_out t r c out ≡ left_out t s c out)
    left_own = wrap false (λ n. is_sum (type_at t c) && same (left_side (type_at t c)) (type_at t n))

    pub right_own : (right_call t r c out ≡ right_call t s c out) × (right_out t r c out ≡ right_out t s c out)
    right_own = wrap true (λ n. is_sum (type_at t c) && same (right_side (type_at t c)) (type_at t n))

    pub some_own : (some_call t r c out ≡ some_call t s c out) × (some_out t r c out ≡ some_out t s c out)
    some_own = wrap true (λ n. is_sum (type_at t c) && is_unit (left_side (type_at t c)) && same (right_side (type_at t c)) (type_at t n))

-- Two records, each of which may lie elsewhere.
module _ (t : Table) (r s : Record) (g : Agree t r s) (p q : Record) (h : Agree t p q) where
  both : handed t (r ∷ p ∷ []) [] ≡ handed t (s ∷ q ∷ []) []
  both = handed_own t (r ∷ p ∷ []) (s ∷ q ∷ []) [] (g, (h, tt))

  pub equal_own : equal_call t r p ≡ equal_call t s q
  equal_own = λ i. ladder (both i) (same (type_at t (g.nodes i)) (type_at t (h.nodes i)) && same_bits (g.own i) (h.own i))

  pub compare_own : compare_call t r p ≡ compare_call t s q
  compare_own = λ i. ladder (both i) (order_then (order_types t (g.nodes i) (h.nodes i)) (order_bits (g.own i) (h.own i)))

  -- The result's type is the product of the two.
  abbrev fits : ℕ → ℕ → ℕ → Bool
  fits c n m = is_prod (type_at t c) && same (left_side (type_at t c)) (type_at t n) && same (right_side (type_at t c)) (type_at t m)

  pub product_own : (c : ℕ) (out : List ℕ) → (product_call t r p c out ≡ product_call t s q c out) × (product_out t r p c out ≡ product_out t s q c out)
  product_own c out =
      results_own t (r ∷ p ∷ []) (s ∷ q ∷ []) (g, (h, tt)) c (fits c r.node p.node) (fits c s.node q.node) (product_bits t r p)
      (product_bits t s q)
      out
      (λ i. fits c (g.nodes i) (h.nodes i))
      (λ i. g.own i ++ h.own i)
