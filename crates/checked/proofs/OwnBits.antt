-- Two records that agree, of one node, with the same own bits, and both past their bytes or neither: wherever they lie and whatever surrounds
-- them, the first rungs of a call say the same of both.
--
--   past                        a record runs past its bytes: 5
--   Agree                       two records of one node, both past their bytes or neither, with the same own bits
--   inside_agree                two records within their bytes agree where node and own bits are the same
--   Agrees                      the same of the records of two calls, one by one
--   handed_own                  1 to 5 of two calls whose records agree are the same
--   made_own                    the same rungs, and the same bits to write: the same answer and the same output
--   results_own                 so it is for a call that makes a record of such records, where they have its shape alike
-- Assumes nothing.
use Prim.Native.Nat.{ℕ, ◌+◌, ◌*◌, ◌≤◌}
use mathlib.Core.Path.{◌≡◌, refl, sym, ap₂, ◌∙◌}
use mathlib.Core.Bool.{Bool, ◌||◌}
use mathlib.Core.List.{List, [], ◌∷◌, ◌++◌, map}
use lib.Dec.{ltb}
use lib.ListN.{length}
use borrow.Author.Tests.{le-ltb}
use Rattle.meaning.specs.Choice.{any}
use Rattle.meaning.specs.Types.{bits}
use Rattle.meaning.specs.Tables.{Table}
use Rattle.meaning.specs.Ladder.{Rung, rung, Record, type_of, record_bits, named, shaped, makes, made}
use Rattle.meaning.specs.RecordCalls.{handed, results}

-- A record runs past its bytes.
abbrev pub past : Table → Record → Bool
past t r = ltb (8 * length r.bytes) (r.offset + bits (type_of t r))

-- Two records, wherever they lie.
pub record Agree (t : Table) (r s : Record) : Type 0 where
  pub nodes : r.node ≡ s.node
  pub pasts : past t r ≡ past t s
  pub own : record_bits t r ≡ record_bits t s

pub inside_agree : (t : Table) (r s : Record) → r.offset + bits (type_of t r) ≤ 8 * length r.bytes
    → s.offset + bits (type_of t s) ≤ 8 * length s.bytes → r.node ≡ s.node → record_bits t r ≡ record_bits t s → Agree t r s
inside_agree t r s h k n e =
    let a = le-ltb (8 * length r.bytes) (r.offset + bits (type_of t r)) h in
    let b = le-ltb (8 * length s.bytes) (s.offset + bits (type_of t s)) k in
    record { nodes = n; pasts = a ∙ sym b; own = e }

-- The records of two calls, one by one.
abbrev pub Agrees : Table → List Record → List Record → Type 0
Agrees t [] [] = Unit {0}
Agrees t [] (s ∷ ss) = ⊥
Agrees t (r ∷ rs) [] = ⊥
Agrees t (r ∷ rs) (s ∷ ss) = Agree t r s × Agrees t rs ss

module _ (t : Table) where
  -- They name the same nodes.
  same_nodes : (rs ss : List Record) → Agrees t rs ss → map (λ r. r.node) rs ≡ map (λ r. r.node) ss
  same_nodes [] [] g = refl
  same_nodes [] (s ∷ ss) g = absurd g
  same_nodes (r ∷ rs) [] g = absurd g
  same_nodes (r ∷ rs) (s ∷ ss) g = ap₂ (λ (n : ℕ) (ns : List ℕ). n ∷ ns) g.0.nodes (same_nodes rs ss g.1)

  -- One of them runs past its bytes in both calls, or in neither.
  same_pasts : (rs ss : List Record) → Agrees t rs ss → any (past t) rs ≡ any (past t) ss
  same_pasts [] [] g = refl
  same_pasts [] (s ∷ ss) g = absurd g
  same_pasts (r ∷ rs) [] g = absurd g
  same_pasts (r ∷ rs) (s ∷ ss) g = ap₂ (λ (a b : Bool). a || b) g.0.pasts (same_pasts rs ss g.1)

  pub handed_own : (rs ss : List Record) (ns : List ℕ) → Agrees t rs ss → handed t rs ns ≡ handed t ss ns
  handed_own rs ss ns g =
      ap₂ (λ (ms : List ℕ) (b : Bool). named t (ms ++ ns) ++ (rung b 5 0 ∷ [])) (same_nodes rs ss g) (same_pasts rs ss g)

pub made_own : (rs ss : List Rung) (v w : List Bool) (out : List ℕ) → rs ≡ ss → v ≡ w
    → (makes rs v out ≡ makes ss w out) × (made rs v out ≡ made ss w out)
made_own rs ss v w out e f = (λ i. makes (e i) (f i) out, λ i. made (e i) (f i) out)

pub results_own : (t : Table) (rs ss : List Record) → Agrees t rs ss → (c : ℕ) (a b : Bool) (v w : List Bool) (out : List ℕ) → a ≡ b → v ≡ w
    → (makes (results t rs c a) v out ≡ makes (results t ss c b) w out) × (made (results t rs c a) v out ≡ made (results t ss c b) w out)
results_own t rs ss g c a b v w out e f =
    made_own (results t rs c a) (results t ss c b) v w out (λ i. handed_own t rs ss (c ∷ []) g i ++ shaped (e i)) f
