-- Calls that are not `prune`, each by a record that it cuts otherwise: document 01, "What the statements have to settle". The pruners are those of
-- CutExcluded; these are whole calls, as the contract has them.
--
--   Cutter CutsAs                   what a call answers and what it leaves in its output; it is as `prune` has both, always
--   leaves WorksBy                  what a pruner's bits leave in an output; a call that leaves them, whatever it accepts
--   to_unit_call_excluded           one that for every target works as if it were unit, and so writes nothing, is not `prune`
--   unit_width_excluded             nor is one that answers unit's width, 0, whatever it accepts
--   unchanged_call_excluded         nor is one that writes its input's bits unchanged
--   top_only_call_excluded          nor one that works at the top sum and only copies below
--   clearing_call_excluded          nor one that clears padding when the target equals the type
-- Assumes nothing.
use Prim.Native.Nat.{ℕ}
use mathlib.Core.Path.{◌≡◌, refl, sym, ap, ◌∙◌}
use mathlib.Core.List.{List, [], ◌∷◌}
use native.Mathlib.Omega.{arith}
use lib.ListN.{get_or}
use Rattle.meaning.specs.Choice.{least, from}
use Rattle.meaning.specs.Types.{same, bits, width, size, padded, least_length}
use Rattle.meaning.specs.Groups.{low, low_bytes, fact_in}
use Rattle.meaning.specs.Tables.{Table, table, columns, ty_to, ty_at, class_of, first_bad, entry_right, facts_right}
use Rattle.meaning.specs.Bits.{odd, to_bits, bits_of, value, pack_to, pack, written}
use Rattle.meaning.specs.Records.{plain}
use Rattle.meaning.specs.Cuts.{cut}
use Rattle.meaning.specs.Ladder.{Answer, accepted, ladder, Record, record_of, type_at, type_of, record_bits}
use Rattle.meaning.specs.TypeCalls.{group_of, groups_of}
use Rattle.meaning.specs.CutCalls.{cut_bits, prune_call, prune_out}
use Rattle.laws.proofs.CutExcluded.{Pruner, to_unit, unchanged, top_only, clearing}

-- What a call answers and what it leaves in its output, of a table, a record, a target and the output as it stood.
abbrev pub Cutter : Type 0
Cutter = Table → Record → ℕ → List ℕ → Answer ℕ × List ℕ

-- It is as `prune` has both, always.
abbrev pub CutsAs : Cutter → Type 0
CutsAs c =
    (t : Table) (r : Record) (target : ℕ) (out : List ℕ)
    → ((c t r target out).0 ≡ prune_call t r target out) × ((c t r target out).1 ≡ prune_out t r target out)

-- What a pruner's bits leave in an output.
abbrev pub leaves : Pruner → Table → Record → ℕ → List ℕ → List ℕ
leaves p t r target out = written (cut_bits (p (type_at t target) (type_of t r) (record_bits t r))) out

-- Whatever it accepts, it leaves the bits that the pruner gives.
abbrev pub WorksBy : Pruner → Cutter → Type 0
WorksBy p c =
    (t : Table) (r : Record) (target : ℕ) (out : List ℕ) (n : ℕ) → (c t r target out).0 ≡ accepted n
    → (c t r target out).1 ≡ leaves p t r target out

-- Unit, two = unit + unit, unit + two, two + unit, and the last two each plus unit, with the groups of their facts.
unfoldable sums : Table
sums =
    let ks : List ℕ = 0 ∷ 1 ∷ 1 ∷ 1 ∷ 1 ∷ 1 ∷ [] in
    let ls : List ℕ = 0 ∷ 0 ∷ 0 ∷ 1 ∷ 2 ∷ 3 ∷ [] in
    let rs : List ℕ = 0 ∷ 0 ∷ 1 ∷ 0 ∷ 0 ∷ 0 ∷ [] in
    table ks ls rs (groups_of (columns ks ls rs) 6) 6

-- An output of one byte that is 0.
abbrev zero_byte : List ℕ
zero_byte = 0 ∷ []

-- `prune` accepts a record and leaves the byte x where the pruner's bits leave y.
record Differs (p : Pruner) (r : Record) (target n x y : ℕ) : Type 0 where
  accepts : prune_call sums r target zero_byte ≡ accepted n
  cuts : prune_out sums r target zero_byte ≡ x ∷ []
  works : leaves p sums r target zero_byte ≡ y ∷ []

call_excluded : (p : Pruner) (r : Record) (target n x y : ℕ) → Differs p r target n x y → (x ≡ y → ⊥) → (c : Cutter) → WorksBy p c → ¬ CutsAs c
call_excluded p r target n x y d other c by is =
    let i = is sums r target zero_byte in
    other
    (ap (λ (o : List ℕ). get_or o 0 0)
    (sym d.cuts ∙ sym i.1 ∙ by sums r target zero_byte n (i.0 ∙ d.accepts) ∙ d.works))

-- The bit 1 cut to its own type.
to_unit_differs : Differs to_unit (record_of (0x80 ∷ []) 0 1) 1 1 0x80 0
unfolding sums group_of groups_of low low_bytes fact_in least from same bits width size padded least_length ty_to ty_at class_of first_bad entry_right facts_right odd to_bits bits_of value pack_to pack written cut ladder record_bits
to_unit_differs = record { accepts = refl; cuts = refl; works = refl }

pub to_unit_call_excluded : (c : Cutter) → WorksBy to_unit c → ¬ CutsAs c
to_unit_call_excluded = call_excluded to_unit (record_of (0x80 ∷ []) 0 1) 1 1 0x80 0 to_unit_differs (λ e. omega arith)

pub unit_width_excluded : (c : Cutter)
    → ((t : Table) (r : Record) (target : ℕ) (out : List ℕ) (n : ℕ) → (c t r target out).0 ≡ accepted n → n ≡ 0) → ¬ CutsAs c
unit_width_excluded c never is =
    let r = record_of (0x80 ∷ []) 0 1 in
    let e : ◌≡◌ {A = ℕ} 1 0 = never sums r 1 zero_byte 1 ((is sums r 1 zero_byte).0 ∙ to_unit_differs.accepts) in
    omega arith

-- The left 1 of two + unit becomes a left of unit + two: as wide, and its bit is gone.
unchanged_differs : Differs unchanged (record_of (0x40 ∷ []) 0 3) 2 2 0 0x40
unfolding sums group_of groups_of low low_bytes fact_in least from same bits width size padded least_length ty_to ty_at class_of first_bad entry_right facts_right odd to_bits bits_of value pack_to pack written cut ladder record_bits
unchanged_differs = record { accepts = refl; cuts = refl; works = refl }

pub unchanged_call_excluded : (c : Cutter) → WorksBy unchanged c → ¬ CutsAs c
unchanged_call_excluded = call_excluded unchanged (record_of (0x40 ∷ []) 0 3) 2 2 0 0x40 unchanged_differs (λ e. omega arith)

-- The same change one level down, under a left that stays.
top_only_differs : Differs top_only (record_of (0x20 ∷ []) 0 5) 4 3 0 0x20
unfolding sums group_of groups_of low low_bytes fact_in least from same bits width size padded least_length ty_to ty_at class_of first_bad entry_right facts_right odd to_bits bits_of value pack_to pack written cut ladder record_bits
top_only_differs = record { accepts = refl; cuts = refl; works = refl }

pub top_only_call_excluded : (c : Cutter) → WorksBy top_only c → ¬ CutsAs c
top_only_call_excluded = call_excluded top_only (record_of (0x20 ∷ []) 0 5) 4 3 0 0x20 top_only_differs (λ e. omega arith)

-- The left unit of unit + two with the padding 1, cut to its own type.
clearing_differs : Differs clearing (record_of (0x40 ∷ []) 0 2) 2 2 0x40 0
unfolding sums group_of groups_of low low_bytes fact_in least from same bits width size padded least_length ty_to ty_at class_of first_bad entry_right facts_right odd to_bits bits_of value pack_to pack written cut ladder record_bits plain
clearing_differs = record { accepts = refl; cuts = refl; works = refl }

pub clearing_call_excluded : (c : Cutter) → WorksBy clearing c → ¬ CutsAs c
clearing_call_excluded = call_excluded clearing (record_of (0x40 ∷ []) 0 2) 2 2 0x40 0 clearing_differs (λ e. omega arith)
