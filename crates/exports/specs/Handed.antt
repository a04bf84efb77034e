-- The hash state as C hands it to `ctx8`: slices of any length in the place of the struct's arrays.
--
--   in_range                    the lengths that make a hash state
--   handed_state                midstate, count and buffered bytes, all of which are used
--   handed_rungs                1 to 7 of `ctx8`: other lengths are 6
--   ctx8_handed ctx8_handed_out `ctx8` of them: the answer and the output
--   Stands                      a struct that `ctx8` answers for as for the slices
use Rattle.std.specs.Prelude.{ℕ, ◌≡◌, Bool, true, ◌&&◌, List, length, eqb, leb}
use Rattle.meaning.specs.Types.{same}
use Rattle.meaning.specs.Tables.{Table}
use Rattle.meaning.specs.Words as meant
use Rattle.meaning.specs.Words.{ctx8, ctx8_bits}
use Rattle.meaning.specs.Ladder.{Answer, Rung, type_at, makes, made}
use Rattle.meaning.specs.WordCalls.{from_range}
use Rattle.words_states.specs.declared.HashState.{HashState}
use Rattle.words_states.specs.State.{state_of}

-- A hash state has thirty-two midstate bytes and at most sixty-three buffered ones.
abbrev pub in_range : List ℕ → List ℕ → Bool
in_range midstate buffer = eqb (length midstate) 32 && leb (length buffer) 63

-- The hash state of a midstate, a count and buffered bytes.
abbrev pub handed_state : List ℕ → ℕ → List ℕ → meant.HashState
handed_state midstate counted buffer =
    record { midstate = midstate; counted = counted; buffered = buffer; used = length buffer }

-- 1 to 7 of `ctx8`: other lengths are 6.
abbrev pub handed_rungs : Table → List ℕ → List ℕ → ℕ → List Rung
handed_rungs t midstate buffer result = from_range t result (in_range midstate buffer) (same (type_at t result) ctx8)

-- `ctx8`: the answer.
abbrev pub ctx8_handed : Table → List ℕ → ℕ → List ℕ → ℕ → List ℕ → Answer ℕ
ctx8_handed t midstate counted buffer result out =
    makes (handed_rungs t midstate buffer result) (ctx8_bits (handed_state midstate counted buffer)) out

-- `ctx8`: the output.
abbrev pub ctx8_handed_out : Table → List ℕ → ℕ → List ℕ → ℕ → List ℕ → List ℕ
ctx8_handed_out t midstate counted buffer result out =
    made (handed_rungs t midstate buffer result) (ctx8_bits (handed_state midstate counted buffer)) out

-- A struct that is in range where the slices are, and then has their bits.
pub record Stands (midstate : List ℕ) (counted : ℕ) (buffer : List ℕ) (s : HashState) : Type 0 where
  pub ranges : leb s.used 63 ≡ in_range midstate buffer
  pub means : in_range midstate buffer ≡ true → ctx8_bits (state_of s) ≡ ctx8_bits (handed_state midstate counted buffer)
