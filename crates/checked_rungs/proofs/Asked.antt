-- The first rungs of a list are asked once of each member: the least number decides.
--
--   handed_stop handed_asked    1 refuses; past it the numbers of the records and of the nodes decide
--   last_node last_record       one node, or one record, is a list
--   no_record                   a call that is handed no record has nothing to ask of bounds
--   stream_stop stream_past stream_pass         how the bounds of a stream decide
--   stop_named stop_handed      1 refuses
--   named_asked asked_one .. asked_three    past it one node, one record, a record and a node, two records, two records and a node decide
-- Assumes nothing.
use Prim.Native.Nat.{ℕ, ◌+◌, ◌*◌, ◌-◌, ◌≤◌, min}
use native.Mathlib.Omega.{arith}
use mathlib.Core.Path.{◌≡◌, refl, sym, ap, ap₂, ◌∙◌}
use mathlib.Core.Bool.{Bool, true, false, ◌||◌}
use mathlib.Core.List.{List, [], ◌∷◌, ◌++◌, map}
use lib.Dec.{ltb, leb}
use lib.ListN.{length, get_or}
use borrow.Author.Tests.{leb-false, ltb-false}
use Rattle.meaning.specs.Choice.{any}
use Rattle.meaning.specs.Types.{Ty, bits, width, size}
use Rattle.meaning.specs.Tables.{Table, table}
use Rattle.meaning.specs.Ladder.{Answer, refused, accepted, Rung, rung, ladder, sound, named, stream_fits, Record, Stream, type_at, type_of}
use Rattle.meaning.specs.TypeCalls.{check_table_call}
use Rattle.meaning.specs.RecordCalls.{handed}
use Rattle.meaning.specs.CodecCalls.{read_rungs}
use Rattle.meaning.specs.Checked.{Sound}
use Rattle.meaning.specs.Groups.{group_size}
use Rattle.meaning.proofs.GroupLaws.{sound_group}
use Rattle.meaning.proofs.Types.{width_bits}
use Rattle.meaning.proofs.Sounds.{sound_width, sound_size}
use Rattle.meaning.proofs.Ladders.{ladder_pass, ladder_stop, ladder_holds, ladder_fails}
use Rattle.checked_limits.specs.Limits.{first_rung, limit_answer, node_limit, record_limit, limits_of, earlier}
use Rattle.checked_limits.proofs.Limits.{earlier_first}

-- The least of two numbers is that of both facts together.
least_first : (m w l p m' w' l' p' : Bool) → min (first_rung m w l p) (first_rung m' w' l' p') ≡ first_rung (m || m') (w || w') (l || l') (p || p')
least_first true w l p true w' l' p' = refl
least_first true w l p false true l' p' = refl
least_first true w l p false false true p' = refl
least_first true w l p false false false true = refl
least_first true w l p false false false false = refl
least_first false true l p true w' l' p' = refl
least_first false true l p false true l' p' = refl
least_first false true l p false false true p' = refl
least_first false true l p false false false true = refl
least_first false true l p false false false false = refl
least_first false false true p true w' l' p' = refl
least_first false false true p false true l' p' = refl
least_first false false true p false false true p' = refl
least_first false false true p false false false true = refl
least_first false false true p false false false false = refl
least_first false false false true true w' l' p' = refl
least_first false false false true false true l' p' = refl
least_first false false false true false false true p' = refl
least_first false false false true false false false true = refl
least_first false false false true false false false false = refl
least_first false false false false true w' l' p' = refl
least_first false false false false false true l' p' = refl
least_first false false false false false false true p' = refl
least_first false false false false false false false true = refl
least_first false false false false false false false false = refl

-- The rungs 2 to 5, by their facts.
by_number : (m w l p : Bool) → ladder (rung m 2 0 ∷ rung w 3 0 ∷ rung l 4 0 ∷ rung p 5 0 ∷ []) (tt {0}) ≡ limit_answer (first_rung m w l p)
unfolding ladder
by_number true w l p = refl
by_number false true l p = refl
by_number false false true p = refl
by_number false false false true = refl
by_number false false false false = refl

module _ (t : Table) where
  -- The facts of a node and of a record.
  abbrev missing : ℕ → Bool
  missing n = leb t.count n

  abbrev wide : ℕ → Bool
  wide n = ltb 524288 (bits (type_at t n))

  abbrev large : ℕ → Bool
  large n = ltb 2097152 (size (type_at t n))

  abbrev past : Record → Bool
  past r = ltb (8 * length r.bytes) (r.offset + bits (type_of t r))

  limits_are : (rs : List Record) (ns : List ℕ)
      → limits_of t rs ns
      ≡ first_rung (any missing (map (λ r. r.node) rs ++ ns)) (any wide (map (λ r. r.node) rs ++ ns)) (any large (map (λ r. r.node) rs ++ ns)) (any past rs)
  limits_are [] [] = refl
  limits_are [] (n ∷ ns) =
      ap (min (node_limit t n)) (limits_are [] ns)
      ∙ least_first (missing n) (wide n) (large n) false (any missing ns) (any wide ns) (any large ns) false
  limits_are (r ∷ rs) ns =
      let all = map (λ r. r.node) rs ++ ns in
      ap (min (record_limit t r)) (limits_are rs ns)
      ∙ least_first (missing r.node) (wide r.node) (large r.node) (past r) (any missing all) (any wide all) (any large all) (any past rs)

  pub handed_asked : (rs : List Record) (ns : List ℕ) → check_table_call t ≡ accepted (tt {0}) → ladder (handed t rs ns) (tt {0}) ≡ limit_answer (limits_of t rs ns)
  handed_asked rs ns h =
      let all = map (λ r. r.node) rs ++ ns in
      ladder_pass (sound t) (rung (any missing all) 2 0 ∷ rung (any wide all) 3 0 ∷ rung (any large all) 4 0 ∷ rung (any past rs) 5 0 ∷ []) (tt {0}) (tt {0}) (tt {0}) h
      ∙ by_number (any missing all) (any wide all) (any large all) (any past rs)
      ∙ ap limit_answer (sym (limits_are rs ns))

  pub handed_stop : (rs : List Record) (ns : List ℕ) (n p : ℕ) → check_table_call t ≡ refused n p → ladder (handed t rs ns) (tt {0}) ≡ refused n p
  handed_stop rs ns n p h =
      let all = map (λ r. r.node) rs ++ ns in
      ladder_stop (sound t) (rung (any missing all) 2 0 ∷ rung (any wide all) 3 0 ∷ rung (any large all) 4 0 ∷ rung (any past rs) 5 0 ∷ []) (tt {0}) (tt {0}) n p h

-- The last number of a list.
six_last : (m w l p : Bool) → first_rung m w l p ≡ min (first_rung m w l p) 6
six_last true w l p = refl
six_last false true l p = refl
six_last false false true p = refl
six_last false false false true = refl
six_last false false false false = refl

pub last_node : (t : Table) (n : ℕ) → node_limit t n ≡ limits_of t [] (n ∷ [])
last_node t n = six_last (missing t n) (wide t n) (large t n) false

pub last_record : (t : Table) (r : Record) → record_limit t r ≡ limits_of t (r ∷ []) []
last_record t r = six_last (missing t r.node) (wide t r.node) (large t r.node) (past t r)

-- A last rung that never holds changes nothing.
idle : {A : Type 0} (rs : List Rung) (n p : ℕ) (a : A) → ladder (rs ++ (rung false n p ∷ [])) a ≡ ladder rs a
unfolding ladder
idle [] n p a = refl
idle (rung true m q ∷ rs) n p a = refl
idle (rung false m q ∷ rs) n p a = idle rs n p a

pub no_record : (t : Table) (ns : List ℕ) → ladder (handed t [] ns) (tt {0}) ≡ ladder (named t ns) (tt {0})
no_record t ns = idle (named t ns) 5 0 (tt {0})

-- Rungs 1 to 5 of a stream.
module _ (t : Table) (s : Stream) (n : ℕ) where
  abbrev runs_past : Bool
  runs_past = ltb (8 * length s.bytes) s.until || ltb s.until s.position

  pub stream_stop : (m p : ℕ) → refused m p ≡ ladder (named t (n ∷ [])) (tt {0}) → refused m p ≡ ladder (read_rungs t s n) (tt {0})
  stream_stop m p h = sym (ladder_stop (named t (n ∷ [])) (stream_fits s) (tt {0}) (tt {0}) m p (sym h))

  pub stream_past : ladder (named t (n ∷ [])) (tt {0}) ≡ accepted (tt {0}) → runs_past ≡ true → refused 5 0 ≡ ladder (read_rungs t s n) (tt {0})
  stream_past h p =
      sym (ladder_pass (named t (n ∷ [])) (stream_fits s) (tt {0}) (tt {0}) (tt {0}) h ∙ ladder_holds runs_past 5 0 [] (tt {0}) p)

  pub stream_pass : ladder (named t (n ∷ [])) (tt {0}) ≡ accepted (tt {0}) → runs_past ≡ false → accepted (tt {0}) ≡ ladder (read_rungs t s n) (tt {0})
  unfolding ladder
  stream_pass h p =
      sym (ladder_pass (named t (n ∷ [])) (stream_fits s) (tt {0}) (tt {0}) (tt {0}) h ∙ ladder_fails runs_past 5 0 [] (tt {0}) p)

-- Past rung 1, one node of its own.
pub named_asked : (t : Table) (n : ℕ) → accepted (tt {0}) ≡ check_table_call t → (a : Answer (Unit {0})) → a ≡ limit_answer (node_limit t n)
    → a ≡ ladder (named t (n ∷ [])) (tt {0})
named_asked t n h a e =
    e ∙ ap limit_answer (last_node t n) ∙ sym (handed_asked t [] (n ∷ []) (sym h)) ∙ no_record t (n ∷ [])

pub stop_named : (t : Table) (n : ℕ) (k p : ℕ) → refused k p ≡ check_table_call t → refused k p ≡ ladder (named t (n ∷ [])) (tt {0})
stop_named t n k p h = sym (handed_stop t [] (n ∷ []) k p (sym h)) ∙ no_record t (n ∷ [])

module _ (t : Table) where
  pub stop_handed : (rs : List Record) (ns : List ℕ) (k p : ℕ) → refused k p ≡ check_table_call t → refused k p ≡ ladder (handed t rs ns) (tt {0})
  stop_handed rs ns k p h = sym (handed_stop t rs ns k p (sym h))

  -- The least of the numbers answers.
  by_least : (rs : List Record) (ns : List ℕ) → accepted (tt {0}) ≡ check_table_call t → limit_answer (limits_of t rs ns) ≡ ladder (handed t rs ns) (tt {0})
  by_least rs ns h = sym (handed_asked t rs ns (sym h))

  -- Two numbers, and the earlier of what they answer.
  of_records : (r s : Record) → limit_answer (min (record_limit t r) (record_limit t s)) ≡ earlier (limit_answer (record_limit t r)) (limit_answer (record_limit t s))
  of_records r s =
      earlier_first (missing t r.node) (wide t r.node) (large t r.node) (past t r) (missing t s.node) (wide t s.node) (large t s.node) (past t s)

  of_record_node : (r : Record) (n : ℕ) → limit_answer (min (record_limit t r) (node_limit t n)) ≡ earlier (limit_answer (record_limit t r)) (limit_answer (node_limit t n))
  of_record_node r n =
      earlier_first (missing t r.node) (wide t r.node) (large t r.node) (past t r) (missing t n) (wide t n) (large t n) false

  -- The least of a record's and a node's number is one of these numbers too.
  of_three : (r s : Record) (n : ℕ)
      → limit_answer (min (record_limit t r) (min (record_limit t s) (node_limit t n)))
      ≡ earlier (limit_answer (record_limit t r)) (limit_answer (min (record_limit t s) (node_limit t n)))
  of_three r s n =
      ap (λ (k : ℕ). limit_answer (min (record_limit t r) k)) least
      ∙ earlier_first (missing t r.node) (wide t r.node) (large t r.node) (past t r) (missing t s.node || missing t n) (wide t s.node || wide t n) (large t s.node || large t n) (past t s || false)
      ∙ ap (λ (k : ℕ). earlier (limit_answer (record_limit t r)) (limit_answer k)) (sym least)
    where
      least : min (record_limit t s) (node_limit t n) ≡ first_rung (missing t s.node || missing t n) (wide t s.node || wide t n) (large t s.node || large t n) (past t s || false)
      least = least_first (missing t s.node) (wide t s.node) (large t s.node) (past t s) (missing t n) (wide t n) (large t n) false

  pub asked_one : (r : Record) → accepted (tt {0}) ≡ check_table_call t → (a : Answer (Unit {0})) → a ≡ limit_answer (record_limit t r)
      → a ≡ ladder (handed t (r ∷ []) []) (tt {0})
  asked_one r h a e = e ∙ ap limit_answer (last_record t r) ∙ by_least (r ∷ []) [] h

  pub asked_to : (r : Record) (n : ℕ) → accepted (tt {0}) ≡ check_table_call t → (a x y : Answer (Unit {0})) → a ≡ earlier x y
      → x ≡ limit_answer (record_limit t r) → y ≡ limit_answer (node_limit t n) → a ≡ ladder (handed t (r ∷ []) (n ∷ [])) (tt {0})
  asked_to r n h a x y e f g =
      e ∙ ap₂ earlier f g ∙ sym (of_record_node r n) ∙ ap (λ (k : ℕ). limit_answer (min (record_limit t r) k)) (last_node t n) ∙ by_least (r ∷ []) (n ∷ []) h

  pub asked_two : (r s : Record) → accepted (tt {0}) ≡ check_table_call t → (a x y : Answer (Unit {0})) → a ≡ earlier x y
      → x ≡ limit_answer (record_limit t r) → y ≡ limit_answer (record_limit t s) → a ≡ ladder (handed t (r ∷ s ∷ []) []) (tt {0})
  asked_two r s h a x y e f g =
      e ∙ ap₂ earlier f g ∙ sym (of_records r s) ∙ ap (λ (k : ℕ). limit_answer (min (record_limit t r) k)) (last_record t s) ∙ by_least (r ∷ s ∷ []) [] h

  pub asked_three : (r s : Record) (n : ℕ) → accepted (tt {0}) ≡ check_table_call t → (a x w y z : Answer (Unit {0})) → a ≡ earlier x w → w ≡ earlier y z
      → x ≡ limit_answer (record_limit t r) → y ≡ limit_answer (record_limit t s) → z ≡ limit_answer (node_limit t n)
      → a ≡ ladder (handed t (r ∷ s ∷ []) (n ∷ [])) (tt {0})
  asked_three r s n h a x w y z e d f g k =
      e ∙ ap₂ earlier f (d ∙ ap₂ earlier g k ∙ sym (of_record_node s n)) ∙ sym (of_three r s n)
      ∙ ap (λ (k : ℕ). limit_answer (min (record_limit t r) (min (record_limit t s) k))) (last_node t n)
      ∙ by_least (r ∷ s ∷ []) (n ∷ []) h
