-- What was written, piece after piece.
--
--   run_as run_kept           the same run, its length said otherwise; it is one of other bytes that are as many
--   run_front run_back        where the first piece lies, and where the second does
--   wrote                     the same bits
--   wrote_run                 a run of bits that was copied
--   wrote_tag                 a tag, and then the rest
--   wrote_both                one piece after the other
--   wrote_finished            what was written from bit 0 on, with its last byte finished
-- Assumes nothing.
use mathlib.Core.Path.{◌≡◌, refl, sym, ap, ap₂, ◌∙◌, subst}
use mathlib.Core.Bool.{Bool}
use mathlib.Core.List.{List, [], ◌∷◌, ◌++◌}
use Prim.Native.Nat.{ℕ, ◌+◌, ◌-◌, ◌*◌, ◌≤◌, ◌<◌}
use native.Mathlib.Omega.{arith}
use lib.ListN.{length, set, take, length-append}
use lib.Seq.{paste}
use Rattle.meaning.specs.Bits.{bits_of, zeros, room, written}
use Rattle.meaning.specs.Checked.{Bytes}
use Rattle.bits.specs.Runs.{Run}
use Rattle.meaning.proofs.Pasted.{paste_take, paste_append, set_as_paste}
use Rattle.bits.proofs.Packed.{finished}
use Rattle.codec_laws.specs.Walks.{Wrote}

pub run_as : {x : List ℕ} {at m n : ℕ} → m ≡ n → Run x at n → Run x at m
run_as {x} {at} e i = subst (λ (k : ℕ). Run x at k) (sym e) i

pub run_kept : {x y : List ℕ} {at n : ℕ} → length y ≡ length x → Run x at n → Run y at n
run_kept e i = record { inside = omega (arith, i.inside); counted = i.counted }

module _ {x : List ℕ} {to : ℕ} {whole : List Bool} (v w : List Bool) (i : Run x to (length whole)) (e : whole ≡ v ++ w) where
  pub run_front : Run x to (length v)
  run_front =
      let l = ap length e ∙ length-append v w in
      record { inside = omega (arith, i.inside, l); counted = omega (arith, i.counted, l) }

  pub run_back : {y : List ℕ} {next : ℕ} → length y ≡ length x → next ≡ to + length v → Run y next (length w)
  run_back k n =
      let l = ap length e ∙ length-append v w in
      record { inside = omega (arith, i.inside, l, k, n); counted = omega (arith, i.counted, l, n) }

pub wrote : {v u : List Bool} {before after : List ℕ} {to next : ℕ} → v ≡ u → Wrote u before to next after → Wrote v before to next after
wrote {before = before} {after = after} {to = to} {next = next} e p = subst (λ (x : List Bool). Wrote x before to next after) (sym e) p

pub wrote_run : {v : List Bool} (x : List Bool) {n : ℕ} {before after : List ℕ} {to : ℕ} → v ≡ take n x → n ≡ length v
    → bits_of after ≡ paste (bits_of before) to x n → Wrote v before to (to + n) after
wrote_run {v} x {n} {before} {after} {to} e l p =
    record {
      ends = ap (λ (k : ℕ). to + k) l;
      writes = p ∙ sym (paste_take (bits_of before) to x n) ∙ ap₂ (λ (u : List Bool) (k : ℕ). paste (bits_of before) to u k) (sym e) l;
    }

pub wrote_both : {before mid after : List ℕ} {v w : List Bool} {to middle next : ℕ} → to ≤ length (bits_of before)
    → Wrote v before to middle mid → Wrote w mid middle next after → Wrote (v ++ w) before to next after
wrote_both {before} {mid} {after} {v} {w} {to} {middle} {next} h p q =
    record {
      ends = q.ends ∙ omega (arith, p.ends, length-append v w);
      writes =
          q.writes
          ∙ ap₂ (λ (m : List Bool) (i : ℕ). paste m i w (length w)) p.writes p.ends
          ∙ paste_append (bits_of before) to v (length v) w (length w) h refl
          ∙ ap (paste (bits_of before) to (v ++ w)) (sym (length-append v w));
    }

pub wrote_tag : {before mid after : List ℕ} {c : Bool} {w : List Bool} {to next : ℕ} → to < length (bits_of before)
    → bits_of mid ≡ set (bits_of before) to c → Wrote w mid (to + 1) next after → Wrote (c ∷ w) before to next after
wrote_tag {before} {mid} {after} {c} {w} {to} {next} h p q =
    wrote_both {v = c ∷ []} {to = to} (omega arith) (record { ends = refl; writes = p ∙ set_as_paste (bits_of before) to c h }) q

pub wrote_finished : {v : List Bool} {old mid new : List ℕ} {next w : ℕ} → Wrote v old 0 next mid → w ≡ length v → Bytes old → Bytes new
    → bits_of new ≡ paste (bits_of mid) w (zeros (8 * room w - w)) (8 * room w - w) → new ≡ written v old
wrote_finished {v} {old} {mid} {new} {next} {w} p e o n f =
    finished v w old mid new (sym e) o n (p.writes ∙ ap (paste (bits_of old) 0 v) (sym e)) f
