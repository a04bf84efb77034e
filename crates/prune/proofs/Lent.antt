-- What `prune` knows of the record in the bytes that it lends its walks.
--
--   lent_cut                    the record cut in the bytes lent, at its offset in the first byte, is the record cut
--   cut_length                  the cut has as many bits as the target
--   refused_early               the first rungs refuse
--   asked lends                 past them the record and the target are within the limits, and the record lies in the bytes lent
--   unfit cramped written_all   the walk that judges refuses; the output is too short; all is written
-- Assumes nothing.
use mathlib.Core.Path.{◌≡◌, refl, sym, ap, ap₂, subst, ◌∙◌}
use mathlib.Core.Bool.{Bool, true, false}
use mathlib.Core.List.{List, [], ◌∷◌}
use Prim.Native.Nat.{ℕ, ◌-◌, ◌*◌, ◌%◌, ◌≤◌, ◌<◌}
use lib.ListN.{length}
use lib.Seq.{paste}
use Rattle.meaning.specs.Types.{bits}
use Rattle.meaning.specs.Tables.{Table}
use Rattle.meaning.specs.Bits.{bits_of, zeros, room}
use Rattle.meaning.specs.Cuts.{cut}
use Rattle.meaning.specs.Ladder.{refused, accepted, ladder, Record, record_of, type_at, type_of, record_bits, shaped}
use Rattle.meaning.specs.RecordCalls.{handed}
use Rattle.meaning.specs.CutCalls.{is_cut, cut_bits, cut_of, prune_rungs, prune_call, prune_out}
use Rattle.bits.specs.Runs.{Run}
use Rattle.meaning.specs.Checked.{Bytes}
use Rattle.bits.proofs.Packed.{finished}
use Rattle.checked.specs.Passed.{Named, Held}
use Rattle.checked.proofs.Handed.{checked_held}
use Rattle.checked.proofs.Lent.{lent, lent_bits, lent_run, own_length}
use Rattle.checked.proofs.Made.{stopped, short, done, first_stopped}
use Rattle.checked.proofs.Shaped.{shape_wrong, shape-right}
use Rattle.laws.proofs.CutLaws.{length_cut}
use Rattle.prune_sides.proofs.CutSteps.{cut_is}

module _ (t : Table) (r : Record) (target : ℕ) (h : Held t r) where
  pub lent_cut : cut_of t (record_of (lent r) (r.offset % 8) r.node) target ≡ cut_of t r target
  unfolding record_bits
  lent_cut = ap (λ (v : List Bool). cut (type_at t target) (type_of t r) v) (lent_bits t r h (bits (type_of t r)) refl)

  pub cut_length : is_cut (cut_of t r target) ≡ true → length (cut_bits (cut_of t r target)) ≡ bits (type_at t target)
  cut_length a =
      length_cut (type_at t target) (type_of t r) (record_bits t r) (cut_bits (cut_of t r target)) (own_length t r h) (cut_is (cut_of t r target) a)

module _ (t : Table) (r : Record) (target : ℕ) (out : List ℕ) where
  pub refused_early : (n p : ℕ) → refused n p ≡ ladder (handed t (r ∷ []) (target ∷ [])) (tt {0})
      → (refused n p ≡ prune_call t r target out) × (out ≡ prune_out t r target out)
  refused_early n p h =
      first_stopped (handed t (r ∷ []) (target ∷ [])) (shaped (is_cut (cut_of t r target))) (cut_bits (cut_of t r target)) out n p (sym h)

  -- Past the first rungs, which handed the table t back as u, checked.
  module _ (u : Table) (same : u ≡ t) (ok : accepted (tt {0}) ≡ ladder (handed t (r ∷ []) (target ∷ [])) (tt {0})) where
    pub asked : Held u r × Named u target
    asked = let k = checked_held t u same (r ∷ []) (target ∷ []) ok in (k.0.0, k.1.0)

    pub lends : Run (lent r) (r.offset % 8) (bits (type_at u r.node))
    lends = lent_run u r asked.0 (bits (type_at u r.node)) refl

    -- The cut that the walks speak of is the cut of the call.
    cut_here : cut_of u (record_of (lent r) (r.offset % 8) r.node) target ≡ cut_of t r target
    cut_here = lent_cut u r target asked.0 ∙ ap (λ (x : Table). cut_of x r target) same

    module _ (fits : Bool) (judged : fits ≡ is_cut (cut_of u (record_of (lent r) (r.offset % 8) r.node) target)) where
      pub unfit : fits ≡ false → (refused 7 0 ≡ prune_call t r target out) × (out ≡ prune_out t r target out)
      unfit refuses =
          stopped (prune_rungs t r target) (cut_bits (cut_of t r target)) out 7 0
          (shape_wrong (handed t (r ∷ []) (target ∷ [])) (is_cut (cut_of t r target)) (sym ok) (sym (judged ∙ ap is_cut cut_here) ∙ refuses))

      module _ (passes : fits ≡ true) (w : ℕ) (wide : w ≡ bits (type_at u target)) where
        accepts : is_cut (cut_of t r target) ≡ true
        accepts = sym (judged ∙ ap is_cut cut_here) ∙ passes

        clear : ladder (prune_rungs t r target) (tt {0}) ≡ accepted (tt {0})
        clear = shape-right (handed t (r ∷ []) (target ∷ [])) (is_cut (cut_of t r target)) (sym ok) accepts

        -- The width that was read is that of the cut.
        long : length (cut_bits (cut_of t r target)) ≡ w
        long =
            cut_length t r target (subst (λ (x : Table). Held x r) same asked.0) accepts
            ∙ sym (wide ∙ ap (λ (x : Table). bits (type_at x target)) same)

        pub cramped : length out < room w → (refused 9 0 ≡ prune_call t r target out) × (out ≡ prune_out t r target out)
        cramped l =
            short (prune_rungs t r target) (cut_bits (cut_of t r target)) out clear (subst (λ (k : ℕ). length out < room k) (sym long) l)

        pub written_all : room w ≤ length out → (mid new : List ℕ) → Bytes out → Bytes new
            → bits_of mid ≡ paste (bits_of out) 0 (cut_bits (cut_of u (record_of (lent r) (r.offset % 8) r.node) target)) (bits (type_at u target))
            → bits_of new ≡ paste (bits_of mid) w (zeros (8 * room w - w)) (8 * room w - w)
            → (accepted w ≡ prune_call t r target out) × (new ≡ prune_out t r target out)
        written_all l mid new bo bn e f =
            let v = cut_bits (cut_of t r target) in
            done (prune_rungs t r target) v out clear (subst (λ (k : ℕ). room k ≤ length out) (sym long) l) w (sym long) new
            (finished v w out mid new long bo bn (e ∙ ap₂ (paste (bits_of out) 0) (ap cut_bits cut_here) (sym wide)) f)
