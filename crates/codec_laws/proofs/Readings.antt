-- What was read and written, piece after piece, of a reading that is known to be whole.
--
--   whole                       a reading that does not end early is a record and a count
--   wide_whole                  no reading of as many bits as the type is wide ends early
--   run_enough tag_enough first_whole   what a whole reading at a node says: enough bits, a tag, a whole first part
--   Tagged tagged_whole         the payload after a tag is whole too, and what the sum adds to it
--   Joined joined_whole         the same of the second part of a product
--   read_run read_tag read_both what was written, by the pieces
-- Assumes nothing.
use mathlib.Core.Path.{◌≡◌, refl, sym, ap, ◌∙◌, subst}
use mathlib.Core.Bool.{Bool, true, false, true≢false}
use mathlib.Core.List.{List, ◌++◌}
use Prim.Native.Nat.{ℕ, ◌+◌, ◌-◌, ◌≤◌, ◌<◌}
use native.Mathlib.Decide.{dec_le}
use native.Mathlib.Omega.{arith}
use lib.ListN.{length, set, take, drop, length-replicate}
use lib.Seq.{paste, length-take-le}
use Rattle.meaning.specs.Types.{Ty, bits}
use Rattle.meaning.specs.Tables.{Table, ty_at}
use Rattle.meaning.specs.Bits.{bits_of, zeros}
use Rattle.meaning.specs.Codecs.{Decoded, early, decoded, under_tag, after_first, decode_compact, is_early, decoded_record, consumed}
use Rattle.laws.proofs.CodecExact.{compact_wide_enough}
use Rattle.tables.specs.declared.Kind.{Kind}
use Rattle.nodes.specs.declared.Node.{Node}
use Rattle.codec_laws.specs.Walks.{Wrote, ReadTo}
use Rattle.codec_laws.proofs.Writing.{wrote, wrote_run, wrote_tag, wrote_both}
use Rattle.codec_laws.proofs.Nodes.{NodeRead}
use Rattle.codec_laws.proofs.Streams.{under, decode_short, decode_none, decode_first_early}

pub whole : {d : Decoded} → is_early d ≡ false → d ≡ decoded (decoded_record d) (consumed d)
whole {d} h = go d h
  where
    go : (x : Decoded) → is_early x ≡ false → x ≡ decoded (decoded_record x) (consumed x)
    go early e = absurd (true≢false e)
    go (decoded v n) e = refl

pub wide_whole : (t : Ty) (s : List Bool) → bits t ≤ length s → is_early (decode_compact t s) ≡ false
wide_whole t s l = go (decode_compact t s) refl
  where
    go : (x : Decoded) → decode_compact t s ≡ x → is_early x ≡ false
    go early e = absurd (compact_wide_enough t s l e)
    go (decoded v n) e = refl

-- A whole reading at the node that a walk has read, in the bits s from bit `at` on.
module _ {t : Table} {n : ℕ} {r : Node} (h : NodeRead t n r) (s : List Bool) (at : ℕ)
    (g : is_early (decode_compact (ty_at t.columns n) (drop at s)) ≡ false) where
  -- So it is no early end.
  not_early : decode_compact (ty_at t.columns n) (drop at s) ≡ early → ⊥
  not_early e = true≢false (sym (ap is_early e) ∙ g)

  pub run_enough : r.padded ≡ false → r.width ≤ length s - at
  run_enough p = elim (dec_le r.width (length s - at)) [ yes l ↦ l | no f ↦ absurd (not_early (decode_short h s at p (omega arith))) ]

  pub tag_enough : r.kind ≡ Kind.Sum → at < length s
  tag_enough k = elim (dec_le (length s) at) [ yes l ↦ absurd (not_early (decode_none h s at k l)) | no f ↦ omega arith ]

  pub first_whole : r.padded ≡ true → (r.kind ≡ Kind.Sum → ⊥) → is_early (decode_compact (ty_at t.columns r.left) (drop at s)) ≡ false
  first_whole p k = go (decode_compact (ty_at t.columns r.left) (drop at s)) refl
    where
      go : (x : Decoded) → decode_compact (ty_at t.columns r.left) (drop at s) ≡ x → is_early x ≡ false
      go early e = absurd (not_early (decode_first_early h s at p k e))
      go (decoded v m) e = refl

-- A reading of a sum that is whole, by that of its payload.
pub record Tagged (d p : Decoded) (c : Bool) (k : ℕ) : Type 0 where
  pub payload_whole : is_early p ≡ false
  pub record_is : decoded_record d ≡ under c k (decoded_record p)
  pub count_is : consumed d ≡ 1 + consumed p

pub tagged_whole : {d : Decoded} (p : Decoded) {c : Bool} {k : ℕ} → d ≡ under_tag (under c k) p → is_early d ≡ false → Tagged d p c k
tagged_whole {d} p {c} {k} e h = subst (λ (x : Decoded). Tagged x p c k) (sym e) (go p (ap is_early (sym e) ∙ h))
  where
    go : (x : Decoded) → is_early (under_tag (under c k) x) ≡ false → Tagged (under_tag (under c k) x) x c k
    go early f = absurd (true≢false f)
    go (decoded v n) f = record { payload_whole = refl; record_is = refl; count_is = refl }

-- A reading of a product that is whole, by that of its second part.
pub record Joined (d : Decoded) (v : List Bool) (m : ℕ) (p : Decoded) : Type 0 where
  pub second_whole : is_early p ≡ false
  pub record_is : decoded_record d ≡ v ++ decoded_record p
  pub count_is : consumed d ≡ m + consumed p

pub joined_whole : {d : Decoded} {v : List Bool} {m : ℕ} (p : Decoded) → d ≡ after_first v m p → is_early d ≡ false → Joined d v m p
joined_whole {d} {v} {m} p e h = subst (λ (x : Decoded). Joined x v m p) (sym e) (go p (ap is_early (sym e) ∙ h))
  where
    go : (x : Decoded) → is_early (after_first v m x) ≡ false → Joined (after_first v m x) v m x
    go early f = absurd (true≢false f)
    go (decoded w n) f = record { second_whole = refl; record_is = refl; count_is = refl }

-- What was written ends where its length says.
wrote_end : {v u : List Bool} {before after : List ℕ} {to next : ℕ} → v ≡ u → Wrote u before to next after
    → Wrote v before to (to + length v) after
wrote_end {v} {u} {before} {after} {to} {next} e p =
    wrote e (subst (λ (k : ℕ). Wrote u before to k after) (p.ends ∙ ap (λ (x : List Bool). to + length x) (sym e)) p)

pub read_run : {d : Decoded} (x : List Bool) {w : ℕ} {before after : List ℕ} {at to : ℕ} → d ≡ decoded (take w x) w → w ≤ length x
    → bits_of after ≡ paste (bits_of before) to x w → ReadTo d at before to (at + w) after
read_run {d} x {w} {before} {after} {at} {to} e l p =
    record {
      consumes = ap (λ (y : Decoded). at + consumed y) (sym e);
      wrote = wrote_end {u = take w x} (ap decoded_record e) (wrote_run x refl (sym (length-take-le w x l)) p);
    }

pub read_tag : {d p : Decoded} {c : Bool} {k : ℕ} {before : List ℕ} (tag : List ℕ) {cleared after : List ℕ} {at to next : ℕ} → Tagged d p c k
    → to < length (bits_of before) → to + 1 ≤ length (bits_of tag)
    → bits_of tag ≡ set (bits_of before) to c
    → bits_of cleared ≡ paste (bits_of tag) (to + 1) (zeros k) k
    → ReadTo p (at + 1) cleared (to + 1 + k) next after
    → ReadTo d at before to next after
read_tag {k = k} {before = before} tag {to = to} g h l e f q =
    record {
      consumes = omega (arith, q.consumes, g.count_is);
      wrote =
          wrote_end g.record_is
          (wrote_tag h e
          (wrote_both {v = zeros k} {to = to + 1} {middle = to + 1 + k} l
          (record { ends = ap (λ (i : ℕ). to + 1 + i) (sym (length-replicate k false)); writes = f ∙ ap (paste (bits_of tag) (to + 1) (zeros k)) (sym (length-replicate k false)) })
          q.wrote));
    }

pub read_both : {d p q : Decoded} {before mid after : List ℕ} {at to middle second next : ℕ} → Joined d (decoded_record p) (consumed p) q
    → to ≤ length (bits_of before)
    → second ≡ to + length (decoded_record p)
    → ReadTo p at before to middle mid
    → ReadTo q middle mid second next after
    → ReadTo d at before to next after
read_both {q = q} {mid = mid} {after = after} {second = second} g h e a b =
    record {
      consumes = omega (arith, a.consumes, b.consumes, g.count_is);
      wrote =
          wrote_end g.record_is
          (wrote_both h a.wrote (subst (λ (k : ℕ). Wrote (decoded_record q) mid k (second + length (decoded_record q)) after) e b.wrote));
    }
