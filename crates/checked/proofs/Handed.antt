-- What a call knows once one of the first calls has handed the table back, checked: a table u that equals the table t that was asked.
--
--   checked_present             1 and 2: the nodes are in it
--   checked_named               1 to 4: the nodes are record types within the limits
--   checked_held                1 to 5: so are the records, and they lie within their bytes
--   checked_streamed            1 to 5, of a stream
--   refused_first               a refusal of the first rungs is the call's
--   then_own                    past them the call's own rungs answer
-- Assumes nothing.
use Prim.Native.Nat.{ℕ}
use mathlib.Core.Path.{◌≡◌, sym, ◌∙◌, subst}
use mathlib.Core.List.{List, [], ◌++◌}
use Rattle.meaning.specs.Tables.{Table}
use Rattle.meaning.specs.Ladder.{Answer, refused, accepted, Rung, ladder, named, Record, Stream}
use Rattle.meaning.specs.TypeCalls.{asks}
use Rattle.meaning.specs.RecordCalls.{handed}
use Rattle.meaning.specs.CodecCalls.{read_rungs}
use Rattle.meaning.proofs.Ladders.{ladder_pass, ladder_stop}
use Rattle.checked.specs.Passed.{All, Present, Named, Held, Streamed}
use Rattle.checked.proofs.Passed.{asked_passed, named_passed, handed_passed, stream_passed}

module _ (t u : Table) (e : u ≡ t) where
  pub checked_present : (ns : List ℕ) → accepted (tt {0}) ≡ asks t ns [] (tt {0}) → All (Present u) ns
  checked_present ns h = subst (λ (x : Table). All (Present x) ns) (sym e) (asked_passed t ns (sym h)).1

  pub checked_named : (ns : List ℕ) → accepted (tt {0}) ≡ ladder (named t ns) (tt {0}) → All (Named u) ns
  checked_named ns h = subst (λ (x : Table). All (Named x) ns) (sym e) (named_passed t ns (sym h)).1

  pub checked_held : (rs : List Record) (ns : List ℕ) → accepted (tt {0}) ≡ ladder (handed t rs ns) (tt {0}) → All (Held u) rs × All (Named u) ns
  checked_held rs ns h = subst (λ (x : Table). All (Held x) rs × All (Named x) ns) (sym e) (handed_passed t rs ns (sym h))

  pub checked_streamed : (s : Stream) (n : ℕ) → accepted (tt {0}) ≡ ladder (read_rungs t s n) (tt {0}) → Streamed u s n
  checked_streamed s n h = subst (λ (x : Table). Streamed x s n) (sym e) (stream_passed t s n (sym h))

module _ {A : Type 0} (rs own : List Rung) (a : A) where
  pub refused_first : (n p : ℕ) → refused n p ≡ ladder rs (tt {0}) → refused n p ≡ ladder (rs ++ own) a
  refused_first n p h = sym (ladder_stop rs own (tt {0}) a n p (sym h))

  pub then_own : accepted (tt {0}) ≡ ladder rs (tt {0}) → (x : Answer A) → x ≡ ladder own a → x ≡ ladder (rs ++ own) a
  then_own h x k = k ∙ sym (ladder_pass rs own (tt {0}) (tt {0}) a (sym h))
