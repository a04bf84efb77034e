-- `ctx8` of slices, which only C hands over: its rungs are in the order of their numbers, and 9 is exact. The other calls stand in `RungOrder` and
-- `RoomExact` of the crate laws; the 9 of lent entries in `Refusals` of exports_answers.
--
--   ctx8_handed_order           the answer is the ladder of these rungs, and their numbers never fall
--   ctx8_handed_nine            9 exactly if none of the other rungs refuses and the output is shorter than the state's bits need
-- Assumes nothing.
use Prim.Native.Nat.{ℕ}
use mathlib.Core.Path.{◌≡◌}
use mathlib.Core.Logic.{◌↔◌}
use mathlib.Core.List.{List, ◌++◌}
use lib.ListN.{length}
use Rattle.meaning.specs.Types.{same}
use Rattle.meaning.specs.Tables.{Table}
use Rattle.meaning.specs.Words.{ctx8, ctx8_bits}
use Rattle.meaning.specs.Ladder.{refused, type_at, room_for}
use Rattle.laws.proofs.RungOrder.{InOrder, from_range_order}
use Rattle.laws.proofs.RoomExact.{Short, from_range_nine}
use Rattle.exports.specs.Handed.{in_range, handed_state, handed_rungs, ctx8_handed}

module _ (t : Table) (midstate : List ℕ) (counted : ℕ) (buffer : List ℕ) (result : ℕ) (out : List ℕ) where
  pub ctx8_handed_order : InOrder (ctx8_handed t midstate counted buffer result out)
      (handed_rungs t midstate buffer result ++ room_for (ctx8_bits (handed_state midstate counted buffer)) out)
  ctx8_handed_order =
      from_range_order t result (in_range midstate buffer) (same (type_at t result) ctx8) (ctx8_bits (handed_state midstate counted buffer)) out

  pub ctx8_handed_nine : (ctx8_handed t midstate counted buffer result out ≡ refused 9 0)
      ↔ Short (handed_rungs t midstate buffer result) (length (ctx8_bits (handed_state midstate counted buffer))) out
  ctx8_handed_nine =
      from_range_nine t result (in_range midstate buffer) (same (type_at t result) ctx8) (ctx8_bits (handed_state midstate counted buffer)) out
