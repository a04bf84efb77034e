-- The laws of `prune` as a caller meets them, over any table, record and target within the limits and any output with room enough. They speak
-- of the equations that the call is proved to meet, `prune_call` for its answer and `prune_out` for its output.
--
--   pruned                      the record that the call has written: at bit 0 of the output, of the target's type
--   prune_held prune_named prune_width  an accepted call was handed a record and a target within the limits, and answers the target's width
--   prune_cut pruned_held       it has cut the record, and what it wrote is a record, ready for the next call
--   cut_prunes                  a record that can be cut is cut, where there is room
--   prune_nine_wide             9 exactly if none of the other rungs refuses and the output is shorter than the target's width needs
--   prune_prune                 demand 3: cut to a and then to b, or straight to b
--   prune_own                   cut to its own type, a record keeps every bit
--   prune_unit                  a cut to unit always works, and writes nothing
--   prune_plain                 a record with zero padding stays one
--   prune_compact               records with the same compact bits are accepted alike, with the same compact bits
--   prune_alike                 records of one type with the same own bits are cut alike, within the limits
--   prune_own_bits              answer and output depend on the record's own bits alone (`Agree` of `checked/proofs/OwnBits`)
-- Assumes nothing.
use mathlib.Core.Path.{◌≡◌, refl, ap, ap₂, sym, ◌∙◌, subst}
use mathlib.Core.Logic.{◌↔◌}
use mathlib.Core.Bool.{Bool, true}
use mathlib.Core.List.{List, [], ◌∷◌}
use mathlib.Core.Option.{Option, some}
use Prim.Native.Nat.{ℕ, ◌≤◌}
use native.Mathlib.Omega.{arith}
use lib.ListN.{length}
use Rattle.meaning.specs.Types.{Ty, unit, bits}
use Rattle.meaning.specs.Tables.{Table}
use Rattle.meaning.specs.Bits.{room, pack_to, pack, written}
use Rattle.meaning.specs.Records.{compact, plain}
use Rattle.meaning.specs.Cuts.{cut}
use Rattle.meaning.specs.Ladder.{Answer, refused, accepted, ladder, Record, record_of, type_at, type_of, record_bits, shaped, makes, made}
use Rattle.meaning.specs.RecordCalls.{handed}
use Rattle.meaning.specs.CutCalls.{is_cut, cut_bits, cut_of, prune_rungs, prune_call, prune_out}
use Rattle.meaning.proofs.Records.{bits_unit}
use Rattle.checked.specs.Passed.{Named, Held}
use Rattle.checked.proofs.Passed.{handed_passed}
use Rattle.checked.proofs.Passes.{handed_passes}
use Rattle.checked.proofs.Made.{Accepted, accepts, done, handed-on, made_length, made_record}
use Rattle.checked.proofs.Shaped.{shape-right, shape_accepted}
use Rattle.checked.proofs.Lent.{own_length}
use Rattle.checked.proofs.OwnBits.{Agree, results_own}
use Rattle.laws.proofs.RoomExact.{Short, makes_nine_wide}
use Rattle.laws.proofs.CutRules.{cut_same, cut_unit}
use Rattle.laws.proofs.CutLaws.{cut_cut, cut_plain, compact_cut}
use Rattle.prune_sides.proofs.CutSteps.{cut_is}
use Rattle.prune.proofs.Lent.{cut_length}

-- The record that a call has written.
abbrev pub pruned : Table → Record → ℕ → List ℕ → Record
pruned t r target out = record_of (prune_out t r target out) 0 target

-- After the first rungs answer and output depend on what the cut is.
abbrev rest : List ℕ → Option (List Bool) → Answer ℕ
rest out o = makes (shaped (is_cut o)) (cut_bits o) out

abbrev rest_out : List ℕ → Option (List Bool) → List ℕ
rest_out out o = made (shaped (is_cut o)) (cut_bits o) out

module _ (t : Table) (r : Record) (target : ℕ) (out : List ℕ) where
  -- The first rungs let pass what is within the limits.
  passes : Held t r → Named t target → ladder (handed t (r ∷ []) (target ∷ [])) (tt {0}) ≡ accepted (tt {0})
  passes h g = handed_passes t g.sound (r ∷ []) (target ∷ []) (h, tt) (g, tt)

  -- An accepted call.
  module _ (n : ℕ) (h : prune_call t r target out ≡ accepted n) where
    found : Accepted (prune_rungs t r target) (cut_bits (cut_of t r target)) out n
    found = accepts (prune_rungs t r target) (cut_bits (cut_of t r target)) out n h

    shape : (ladder (handed t (r ∷ []) (target ∷ [])) (tt {0}) ≡ accepted (tt {0})) × (is_cut (cut_of t r target) ≡ true)
    shape = shape_accepted (handed t (r ∷ []) (target ∷ [])) (is_cut (cut_of t r target)) found.clear

    pub prune_held : Held t r
    prune_held = (handed_passed t (r ∷ []) (target ∷ []) shape.0).0.0

    pub prune_named : Named t target
    prune_named = (handed_passed t (r ∷ []) (target ∷ []) shape.0).1.0

    cut_wide : length (cut_bits (cut_of t r target)) ≡ bits (type_at t target)
    cut_wide = cut_length t r target prune_held shape.1

    pruned_bits : record_bits t (pruned t r target out) ≡ cut_bits (cut_of t r target)
    pruned_bits = made_record t target (prune_rungs t r target) (cut_bits (cut_of t r target)) out n h (sym cut_wide)

    pub prune_width : n ≡ bits (type_at t target)
    prune_width = found.counts ∙ cut_wide

    pub prune_cut : cut (type_at t target) (type_of t r) (record_bits t r) ≡ some (record_bits t (pruned t r target out))
    prune_cut = cut_is (cut_of t r target) shape.1 ∙ ap some (sym pruned_bits)

    -- What was written is a record, ready for the next call.
    pub pruned_held : Held t (pruned t r target out)
    pruned_held =
        let l = found.roomy in
        let w = cut_wide in
        let e = made_length (prune_rungs t r target) (cut_bits (cut_of t r target)) out n h in
        record { named = prune_named; ends = omega arith }

  -- The room that counts is that of the target's width.
  pub prune_nine_wide : (prune_call t r target out ≡ refused 9 0) ↔ Short (prune_rungs t r target) (bits (type_at t target)) out
  prune_nine_wide = makes_nine_wide (prune_rungs t r target) (cut_bits (cut_of t r target)) (bits (type_at t target)) out refl wide
    where
      wide : ladder (prune_rungs t r target) (tt {0}) ≡ accepted (tt {0}) → length (cut_bits (cut_of t r target)) ≡ bits (type_at t target)
      wide e =
          let s = shape_accepted (handed t (r ∷ []) (target ∷ [])) (is_cut (cut_of t r target)) e in
          cut_length t r target (handed_passed t (r ∷ []) (target ∷ []) s.0).0.0 s.1

  -- A record that can be cut to x is cut to it.
  pub cut_prunes : (x : List Bool) → Held t r → Named t target → cut (type_at t target) (type_of t r) (record_bits t r) ≡ some x
      → room (bits (type_at t target)) ≤ length out
      → (prune_call t r target out ≡ accepted (bits (type_at t target))) × (record_bits t (pruned t r target out) ≡ x)
  cut_prunes x h g e l =
      let v = cut_bits (cut_of t r target) in
      let wide : length v ≡ bits (type_at t target) = cut_length t r target h (ap is_cut e) in
      let clear = shape-right (handed t (r ∷ []) (target ∷ [])) (is_cut (cut_of t r target)) (passes h g) (ap is_cut e) in
      let roomy = subst (λ (n : ℕ). room n ≤ length out) (sym wide) l in
      let a : prune_call t r target out ≡ accepted (bits (type_at t target)) =
      sym (done (prune_rungs t r target) v out clear roomy (bits (type_at t target)) (sym wide) (written v out) refl).0 in
      (a, pruned_bits (bits (type_at t target)) a ∙ ap cut_bits e)

  -- Cut to its own type, a record keeps every bit, padding too.
  pub prune_own : Held t r → Named t target → type_at t target ≡ type_of t r → room (bits (type_at t target)) ≤ length out
      → (prune_call t r target out ≡ accepted (bits (type_at t target))) × (record_bits t (pruned t r target out) ≡ record_bits t r)
  prune_own h g e l =
      cut_prunes (record_bits t r) h g
      (ap (λ (a : Ty). cut a (type_of t r) (record_bits t r)) e ∙ cut_same (type_of t r) (record_bits t r)) l

  -- A cut to unit always works, with any output, which stays as it stood.
  pub prune_unit : Held t r → Named t target → type_at t target ≡ unit → (prune_call t r target out ≡ accepted 0) × (prune_out t r target out ≡ out)
  unfolding written pack pack_to
  prune_unit h g e =
      let none : bits (type_at t target) ≡ 0 = ap bits e ∙ bits_unit in
      let c : cut (type_at t target) (type_of t r) (record_bits t r) ≡ some [] =
      ap (λ (a : Ty). cut a (type_of t r) (record_bits t r)) e ∙ cut_unit (type_of t r) (record_bits t r) (own_length t r h) in
      let a = (cut_prunes [] h g c (omega arith)).0 in (
        a ∙ ap accepted none,
        (found (bits (type_at t target)) a).output ∙ ap (λ (o : Option (List Bool)). written (cut_bits o) out) c,
      )

  -- A record with zero padding stays one.
  pub prune_plain : (n : ℕ) → prune_call t r target out ≡ accepted n → plain (type_of t r) (record_bits t r) ≡ record_bits t r
      → plain (type_at t target) (record_bits t (pruned t r target out)) ≡ record_bits t (pruned t r target out)
  prune_plain n h z = cut_plain (type_at t target) (type_of t r) (record_bits t r) (record_bits t (pruned t r target out)) z (prune_cut n h)

  rests : Held t r → Named t target
      → (rest out (cut_of t r target) ≡ prune_call t r target out) × (rest_out out (cut_of t r target) ≡ prune_out t r target out)
  rests h g =
      handed-on (shaped (is_cut (cut_of t r target))) (cut_bits (cut_of t r target)) out (handed t (r ∷ []) (target ∷ [])) (passes h g)

-- Two records of one type.
module _ (t : Table) (r s : Record) (target : ℕ) (alike : type_of t s ≡ type_of t r) where
  -- Whether a record can be cut, and to which compact bits, depends on its compact bits alone.
  pub prune_compact : (out other : List ℕ) (n : ℕ) → prune_call t r target out ≡ accepted n → Held t s
      → room (bits (type_at t target)) ≤ length other → compact (type_of t r) (record_bits t r) ≡ compact (type_of t r) (record_bits t s)
      → (prune_call t s target other ≡ accepted n)
      × (compact (type_at t target) (record_bits t (pruned t s target other)) ≡ compact (type_at t target) (record_bits t (pruned t r target out)))
  prune_compact out other n h held l e =
      let z =
      compact_cut (type_at t target) (type_of t r) (record_bits t r) (record_bits t s) (record_bits t (pruned t r target out))
      (own_length t r (prune_held t r target out n h)) (own_length t s held ∙ ap bits alike) e (prune_cut t r target out n h) in
      let c =
      cut_prunes t s target other z.0 held (prune_named t r target out n h)
      (ap (λ (a : Ty). cut (type_at t target) a (record_bits t s)) alike ∙ z.1) l in
      (c.0 ∙ ap accepted (sym (prune_width t r target out n h)), ap (compact (type_at t target)) c.1 ∙ z.2)

  -- Within the limits records of one type with the same own bits are cut alike, though their nodes differ.
  pub prune_alike : (out : List ℕ) → Held t r → Held t s → Named t target → record_bits t s ≡ record_bits t r
      → (prune_call t s target out ≡ prune_call t r target out) × (prune_out t s target out ≡ prune_out t r target out)
  prune_alike out v w g e =
      let o : cut_of t s target ≡ cut_of t r target = ap₂ (λ (a : Ty) (x : List Bool). cut (type_at t target) a x) alike e in
      let a = rests t s target out w g in
      let b = rests t r target out v g in
      (sym a.0 ∙ ap (rest out) o ∙ b.0, sym a.1 ∙ ap (rest_out out) o ∙ b.1)

-- Two records that agree, wherever they lie.
module _ (t : Table) (r s : Record) (g : Agree t r s) (target : ℕ) (out : List ℕ) where
  same_cut : cut_of t r target ≡ cut_of t s target
  same_cut = λ i. cut (type_at t target) (type_at t (g.nodes i)) (g.own i)

  pub prune_own_bits : (prune_call t r target out ≡ prune_call t s target out) × (prune_out t r target out ≡ prune_out t s target out)
  prune_own_bits =
      results_own t (r ∷ []) (s ∷ []) (g, tt) target (is_cut (cut_of t r target)) (is_cut (cut_of t s target)) (cut_bits (cut_of t r target))
      (cut_bits (cut_of t s target))
      out
      (ap is_cut same_cut)
      (ap cut_bits same_cut)

-- Demand 3. The record r cut to a in `first`, what came of it to b in `second`; straight to b in `straight`, which has room.
module _ (t : Table) (r : Record) (a b : ℕ) (first second straight : List ℕ) (n m : ℕ)
    (one : prune_call t r a first ≡ accepted n)
    (two : prune_call t (pruned t r a first) b second ≡ accepted m)
    (roomy : room (bits (type_at t b)) ≤ length straight) where
  pub prune_prune : (prune_call t r b straight ≡ accepted m)
      × (compact (type_at t b) (record_bits t (pruned t r b straight)) ≡ compact (type_at t b) (record_bits t (pruned t (pruned t r a first) b second)))
      × (plain (type_of t r) (record_bits t r) ≡ record_bits t r
      → record_bits t (pruned t r b straight) ≡ record_bits t (pruned t (pruned t r a first) b second))
  prune_prune =
      let h = prune_held t r a first n one in
      let y = record_bits t (pruned t (pruned t r a first) b second) in
      let z =
      cut_cut (type_at t b) (type_at t a) (type_of t r) (record_bits t r) (record_bits t (pruned t r a first)) y (own_length t r h)
      (prune_cut t r a first n one) (prune_cut t (pruned t r a first) b second m two) in
      let c = cut_prunes t r b straight z.0 h (prune_named t (pruned t r a first) b second m two) z.1 roomy in (
        c.0 ∙ ap accepted (sym (prune_width t (pruned t r a first) b second m two)),
        ap (compact (type_at t b)) c.1 ∙ z.2,
        λ p. c.1 ∙ z.3 p,
      )
