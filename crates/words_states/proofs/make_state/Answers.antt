-- `words_states::make_state` meets its contract: the ladder's 6, 7 and 9 in their order, then the bits of the state. Assumes nothing.
use Prim.Native.Nat.{ℕ, ◌≤◌, ◌<◌}
use mathlib.Core.Path.{◌≡◌, sym, ◌∙◌}
use mathlib.Core.Bool.{Bool, true, false}
use mathlib.Core.List.{List, [], ◌∷◌}
use native.Mathlib.Omega.{arith}
use lib.Dec.{leb}
use lib.ListN.{length}
use borrow.Author.Rules.{rules}
use borrow.Author.Tests.{le-leb, lt-leb}
use Rattle.meaning.specs.Types.{same}
use Rattle.meaning.specs.Tables.{Table}
use Rattle.meaning.specs.Bits.{room, written}
use Rattle.meaning.specs.Words.{ctx8, HashState, ctx8_bits}
use Rattle.meaning.specs.Ladder.{refused, accepted, Rung, ladder, named, type_at}
use Rattle.meaning.specs.WordCalls.{ctx8_rungs, ctx8_call, ctx8_out}
use Rattle.checked.specs.Passed.{Named}
use Rattle.checked.proofs.Passes.{named_passes}
use Rattle.checked.proofs.Made.{stopped, short, done}
use Rattle.checked.proofs.Shaped.{range_missed, range_shape, range_pass}
use Rattle.words_laws.proofs.Hashed.{length_state}
use Rattle.words_states.specs.State.{state_of}
use Rattle.words_states.proofs.make_state.Goals as goal

module _ (t : Table) (s : HashState) (res : ℕ) (out : List ℕ) (h : Named t res) where
  -- The rungs before 6, the tests of 6 and 7, and the call's rungs.
  abbrev before6 : List Rung
  before6 = named t (res ∷ [])

  abbrev ranges : Bool
  ranges = leb s.used 63

  abbrev fits : Bool
  fits = same (type_at t res) ctx8

  abbrev rungs : List Rung
  rungs = ctx8_rungs t s res

  passed : ladder before6 (tt {0}) ≡ accepted (tt {0})
  passed = named_passes t h.sound (res ∷ []) (h, tt)

  no_range : 63 < s.used → (refused 6 0 ≡ ctx8_call t s res out) × (out ≡ ctx8_out t s res out)
  no_range l = stopped rungs (ctx8_bits s) out 6 0 (range_missed before6 ranges fits passed (lt-leb s.used 63 l))

  module _ (l : s.used ≤ 63) where
    other_shape : fits ≡ false → (refused 7 0 ≡ ctx8_call t s res out) × (out ≡ ctx8_out t s res out)
    other_shape f = stopped rungs (ctx8_bits s) out 7 0 (range_shape before6 ranges fits passed (le-leb s.used 63 l) f)

    module _ (f : fits ≡ true) (full : length s.midstate ≡ 32) where
      clear : ladder rungs (tt {0}) ≡ accepted (tt {0})
      clear = range_pass before6 ranges fits passed (le-leb s.used 63 l) f

      no_room : length out < room 830 → (refused 9 0 ≡ ctx8_call t s res out) × (out ≡ ctx8_out t s res out)
      no_room k = short rungs (ctx8_bits s) out clear (omega (arith, length_state s full, k))

      wrote : room 830 ≤ length out → (new : List ℕ) → new ≡ written (ctx8_bits s) out
          → (accepted 830 ≡ ctx8_call t s res out) × (new ≡ ctx8_out t s res out)
      wrote k new e = done rungs (ctx8_bits s) out clear (omega (arith, length_state s full, k)) 830 (sym (length_state s full)) new e

pub returns-then-used-gt63 : goal.returns-then-used-gt63
returns-then-used-gt63 c =
    let a = c.args in
    let both = no_range a.table.now (state_of a.state) a.res a.out.now c.requires c.if-used-gt63.true in
    record { result_value = both.0; out_after = both.1 }

pub returns-then-not-is_ctx8 : goal.returns-then-not-is_ctx8
returns-then-not-is_ctx8 c =
    let a = c.args in
    let both =
    other_shape a.table.now (state_of a.state) a.res a.out.now c.requires c.if-used-gt63.false
    (sym c.is_ctx8.ensures ∙ c.if-not-is_ctx8.true) in
    record { result_value = both.0; out_after = both.1 }

pub returns-then-out-bytes_for : goal.returns-then-out-bytes_for
returns-then-out-bytes_for c =
    let a = c.args in
    let both =
    no_room a.table.now (state_of a.state) a.res a.out.now c.requires c.if-used-gt63.false (sym c.is_ctx8.ensures ∙ c.if-not-is_ctx8.false)
    (search rules)
    (omega arith) in
    record { result_value = both.0; out_after = both.1 }

pub returns : goal.returns
returns c =
    let a = c.args in
    let both =
    wrote a.table.now (state_of a.state) a.res a.out.now c.requires c.if-used-gt63.false (sym c.is_ctx8.ensures ∙ c.if-not-is_ctx8.false)
    (search rules)
    (omega arith) c.write_state.new.out c.write_state.ensures in
    record { result_value = both.0; out_after = both.1 }
