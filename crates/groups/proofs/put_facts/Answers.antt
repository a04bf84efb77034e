-- `groups::put_facts` meets its contract: five runs side by side are one. Assumes nothing.
use Rattle.std.proofs.Common.{ℕ, ◌≡◌, ◌+◌, ◌*◌, ◌-◌, ◌%◌, ◌≤◌, ◌<◌, List, [], ◌∷◌, ◌++◌, length, refl, sym, ap, ap₂, ◌∙◌, append_assoc, arith, length-append, slice_set, w16, w64}
use Rattle.std.proofs.Math.Seq.{paste}
use Rattle.std.specs.Int.{to_le_bytes}
use Rattle.std.proofs.lemmas.List.Edits.{length-paste}
use Rattle.std.proofs.lemmas.Slice.{put_mid-paste}
use borrow.Rule.Slice.PartMut.{put_mid}
use Rattle.meaning.specs.Groups.{low_bytes, group, group_size}
use Rattle.meaning.proofs.Groups.{length_low_bytes}
use Rattle.meaning.proofs.Pasted.{paste_append, set_as_paste}
use Rattle.groups.proofs.Lows.{bytes_two, bytes_eight}
use Rattle.groups.proofs.put_facts.Goals as goal

-- The bytes of a number, written over a part of a buffer.
laid : (d bytes : List ℕ) (at end k x : ℕ) → bytes ≡ low_bytes k x → end ≡ at + k → put_mid at (end - at) d bytes ≡ paste d at (low_bytes k x) k
laid d bytes at end k x e f = put_mid-paste at (end - at) d bytes (low_bytes k x) k e (omega arith) (sym (length_low_bytes k x))

-- One byte is laid as it is.
one_byte : (p : ℕ) → p < 256 → p ∷ [] ≡ low_bytes 1 p
unfolding low_bytes
one_byte p h = ap (λ n. n ∷ []) (let e : p ≡ p % 256 = omega arith in e)

-- A run v of m bytes was laid.
record Run (d new : List ℕ) (at m : ℕ) (v : List ℕ) : Type 0 where
  is : new ≡ paste d at v m
  long : length v ≡ m

-- One more run after it.
more : {d new v : List ℕ} {at m : ℕ} (next k x : ℕ) (newer : List ℕ) → Run d new at m v → at ≤ length d → next ≡ at + m
    → newer ≡ paste new next (low_bytes k x) k → Run d newer at (m + k) (v ++ low_bytes k x)
more {d} {new} {v} {at} {m} next k x newer r h e p =
    record {
      is = p ∙ ap₂ (λ (b : List ℕ) (i : ℕ). paste b i (low_bytes k x) k) r.is e ∙ paste_append d at v m (low_bytes k x) k h r.long;
      long = length-append v (low_bytes k x) ∙ ap₂ ◌+◌ r.long (length_low_bytes k x);
    }

-- Where the second run begins and ends, and the others; the third is one byte.
record Places (at i₂ j₂ i₃ i₄ j₄ i₅ j₅ : ℕ) : Type 0 where
  second : i₂ ≡ at + 8
  second_end : j₂ ≡ i₂ + 8
  third : i₃ ≡ at + 16
  fourth : i₄ ≡ at + 17
  fourth_end : j₄ ≡ i₄ + 2
  fifth : i₅ ≡ at + 19
  fifth_end : j₅ ≡ i₅ + 8

side_by_side : (d b₁ b₂ b₄ b₅ : List ℕ) (i₂ j₂ i₃ i₄ j₄ i₅ j₅ at w z b p k l : ℕ) → at + 27 ≤ length d → p < 256 → Places at i₂ j₂ i₃ i₄ j₄ i₅ j₅
    → b₁ ≡ to_le_bytes w64 w → b₂ ≡ to_le_bytes w64 z → b ≡ p → b₄ ≡ to_le_bytes w16 k → b₅ ≡ to_le_bytes w64 l
    → put_mid i₅ (j₅ - i₅)
    (put_mid i₄ (j₄ - i₄)
    (slice_set (put_mid i₂ (j₂ - i₂) (put_mid at (at + 8 - at) d b₁) b₂) i₃ b)
    b₄)
    b₅
    ≡ paste d at (group w z p k l) group_size
side_by_side d b₁ b₂ b₄ b₅ i₂ j₂ i₃ i₄ j₄ i₅ j₅ at w z b p k l h byte s e₁ e₂ e₃ e₄ e₅ =
    let low : at ≤ length d = omega arith in
    let first : Run d (put_mid at (at + 8 - at) d b₁) at 8 (low_bytes 8 w) =
    record { is = laid d b₁ at (at + 8) 8 w (e₁ ∙ bytes_eight w) refl; long = length_low_bytes 8 w } in
    let second = more i₂ 8 z _ first low s.second (laid _ b₂ i₂ j₂ 8 z (e₂ ∙ bytes_eight z) s.second_end) in
    let both : List ℕ = put_mid i₂ (j₂ - i₂) (put_mid at (at + 8 - at) d b₁) b₂ in
    let room : i₃ < length both =
    (let f = ap length second.is in let g = length-paste d at (low_bytes 8 w ++ low_bytes 8 z) 16 (omega arith) in let e = second.long in let t = s.third in omega arith) in
    let third = more i₃ 1 p _ second low s.third
    (set_as_paste both i₃ b room ∙ ap (λ v. paste both i₃ v 1) (ap (λ n. n ∷ []) e₃ ∙ one_byte p byte)) in
    let fourth = more i₄ 2 k _ third low s.fourth (laid _ b₄ i₄ j₄ 2 k (e₄ ∙ bytes_two k) s.fourth_end) in
    let fifth = more i₅ 8 l _ fourth low s.fifth (laid _ b₅ i₅ j₅ 8 l (e₅ ∙ bytes_eight l) s.fifth_end) in
    fifth.is ∙ ap (λ v. paste d at v group_size) (simp append_assoc)

pub returns : goal.returns
returns c =
    let a = c.args in
    side_by_side a.groups.now _ _ _ _ _ _ _ _ _ _ _ (27 * a.n) a.width a.size _ a.padded a.class a.least (omega arith) (omega arith)
    (record {
      second = omega arith;
      second_end = omega arith;
      third = omega arith;
      fourth = omega arith;
      fourth_end = omega arith;
      fifth = omega arith;
      fifth_end = omega arith;
    })
    (c.copy_from_slice.ensures.after ∙ c.to_le_bytes.ensures)
    (c.copy_from_slice-2.ensures.after ∙ c.to_le_bytes-2.ensures)
    (omega arith)
    (c.copy_from_slice-3.ensures.after ∙ c.to_le_bytes-3.ensures)
    (c.copy_from_slice-4.ensures.after ∙ c.to_le_bytes-4.ensures)
