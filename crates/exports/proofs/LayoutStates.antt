-- K9 for `ctx8` of slices, which only C hands over: both layouts of the facts get the same answer and leave the same output. The other calls stand
-- in `LayoutCalls` of the crate laws.
--
--   ctx8_handed_same ctx8_handed_out_same   the answer; the output
-- Assumes nothing.
use Prim.Native.Nat.{ℕ}
use mathlib.Core.Path.{◌≡◌}
use mathlib.Core.List.{List}
use Rattle.meaning.specs.Types.{same}
use Rattle.meaning.specs.Tables.{Columns, Facts, ty_at}
use Rattle.meaning.specs.Words.{ctx8, ctx8_bits}
use Rattle.laws.proofs.Layouts.{SameFacts, table_with}
use Rattle.laws.proofs.LayoutCalls.{from_range_same, from_range_out_same}
use Rattle.exports.specs.Handed.{in_range, handed_state, ctx8_handed, ctx8_handed_out}

module _ (c : Columns) (n : ℕ) (f g : Facts) (alike : SameFacts n f g) (midstate : List ℕ) (counted : ℕ) (buffer : List ℕ) (result : ℕ) (out : List ℕ) where
  pub ctx8_handed_same : ctx8_handed (table_with c n f) midstate counted buffer result out ≡ ctx8_handed (table_with c n g) midstate counted buffer result out
  ctx8_handed_same =
      from_range_same c n f g alike result (in_range midstate buffer) (same (ty_at c result) ctx8) (ctx8_bits (handed_state midstate counted buffer)) out

  pub ctx8_handed_out_same : ctx8_handed_out (table_with c n f) midstate counted buffer result out ≡ ctx8_handed_out (table_with c n g) midstate counted buffer result out
  ctx8_handed_out_same =
      from_range_out_same c n f g alike result (in_range midstate buffer) (same (ty_at c result) ctx8) (ctx8_bits (handed_state midstate counted buffer)) out
