-- Laws of a buffer that text is written to.
--
--   put_none put_length         no text changes nothing; a buffer keeps its length
--   put_put                     one text after another is both
--   wrote_none wrote_byte       no text, and one byte
--   wrote_then wrote_short      one text after another
--   wrote_length                a buffer that was written to keeps its length
--   wrote_within                a short text ends soon
--   wrote_text                  another name of the same text
--   printed                     a text at offset 0 is at the front
--   printed_text                what the buffer begins with is the text
--   text_none text_then text_as the same of a lent buffer
--   text_printed                what was written to a fresh one stands at its front
-- Assumes nothing.
use Prim.Native.Nat.{ℕ, suc, ◌+◌, ◌≤◌, ◌<◌}
use mathlib.Core.Path.{◌≡◌, refl, ap, sym, ◌∙◌, subst}
use mathlib.Core.List.{List, [], ◌∷◌, ◌++◌, append_assoc, append-nil}
use native.Mathlib.Nat.{zero-add, add-zero}
use native.Mathlib.Numerals.{add-one}
use native.Mathlib.Omega.{arith}
use lib.ListN.{length, take, drop, set, length-append, length-take, length-drop, take-append-drop}
use lib.Seq.{set_split, take_at, drop-append-add, drop-drop, append_snoc}
use Rattle.lines_digits.specs.declared.Text.{Text}
use Rattle.lines_digits.specs.Buffer.{put, PutAt, Printed, HasRoom, Wrote}

pub put_none : (b : List ℕ) (at : ℕ) → put b at [] ≡ b
put_none b at = rw (add-zero, append-nil) (take-append-drop at b)

-- What stands before the end of a text.
front_length : (b : List ℕ) (at : ℕ) (s : List ℕ) → at + length s ≤ length b → length (take at b ++ s) ≡ at + length s
front_length b at s h = simp (length-append, length-take) (omega arith)

pub put_length : (b : List ℕ) (at : ℕ) (s : List ℕ) → at + length s ≤ length b → length (put b at s) ≡ length b
put_length b at s h = simp (length-append, length-take, length-drop) (omega arith)

pub put_put : (b : List ℕ) (at : ℕ) (s t : List ℕ) → at + length s ≤ length b → put (put b at s) (at + length s) t ≡ put b at (s ++ t)
put_put b at s t h =
    let p = take at b ++ s in
    let q = drop (at + length s) b in
    let e : at + length s + length t ≡ at + length (s ++ t) = omega (arith, length-append s t) in
    ap (λ x. x ++ t ++ drop (at + length s + length t) (p ++ q)) (take_at p q (at + length s) (front_length b at s h))
    ∙ ap (λ x. p ++ t ++ x)
    (ap (λ n. drop (n + length t) (p ++ q)) (sym (front_length b at s h)) ∙ drop-append-add p q (length t) ∙ drop-drop (length t) (at + length s) b)
    ∙ ap (λ x. x ++ drop (at + length s + length t) b) (append_assoc (take at b) s t)
    ∙ ap (λ n. take at b ++ (s ++ t) ++ drop n b) e

pub wrote_byte : (b : List ℕ) (at v : ℕ) → at < length b → PutAt b at (v ∷ []) (set b at v) (at + 1)
wrote_byte b at v h =
    record {
      ends = refl;
      holds = set_split b at v h ∙ sym (append_snoc (take at b) v (drop (suc at) b)) ∙ ap (λ n. take at b ++ (v ∷ []) ++ drop n b) (sym (add-one at));
    }

pub wrote_then : {b : List ℕ} {at : ℕ} {s m : List ℕ} {x : ℕ} {t a : List ℕ} {y : ℕ} → PutAt b at s m x → at + length s ≤ length b → PutAt m x t a y
    → PutAt b at (s ++ t) a y
wrote_then {b} {at} {s} {m} {x} {t} {a} {y} w h v =
    record {
      ends = (let e = w.ends in let f = v.ends in omega (arith, length-append s t));
      holds = v.holds ∙ (λ i. put (w.holds i) (w.ends i) t) ∙ put_put b at s t h;
    }

-- The same, where the first text is known to be short.
pub wrote_short : {b : List ℕ} {at : ℕ} {s m : List ℕ} {x k : ℕ} {t a : List ℕ} {y : ℕ} → PutAt b at s m x → length s ≤ k → at + k ≤ length b
    → PutAt m x t a y → PutAt b at (s ++ t) a y
wrote_short w short room v = wrote_then w (omega arith) v

pub wrote_length : (b : List ℕ) (at : ℕ) (s a : List ℕ) (x : ℕ) → at + length s ≤ length b → PutAt b at s a x → length a ≡ length b
wrote_length b at s a x h w = ap length w.holds ∙ put_length b at s h

pub wrote_within : {b : List ℕ} {at : ℕ} {s a : List ℕ} {x m : ℕ} → PutAt b at s a x → length s ≤ m → x ≤ at + m
wrote_within w h = omega (arith, w.ends)

pub wrote_text : {b : List ℕ} {at : ℕ} {s t a : List ℕ} {x : ℕ} → s ≡ t → PutAt b at s a x → PutAt b at t a x
wrote_text {b} {at} {s} {t} {a} {x} e w = subst (λ u. PutAt b at u a x) e w

pub printed : {b s a : List ℕ} {x : ℕ} → PutAt b 0 s a x → Printed b s a x
printed {b} {s} {a} {x} w =
    record { counts = w.ends ∙ zero-add (length s); holds = w.holds ∙ ap (λ n. s ++ drop n b) (zero-add (length s)) }

pub printed_text : {b s a : List ℕ} {x : ℕ} → Printed b s a x → take x a ≡ s
printed_text {b} {s} {a} {x} w = ap (take x) w.holds ∙ take_at s (drop (length s) b) x (sym w.counts)

pub wrote_none : (b : List ℕ) (at : ℕ) → PutAt b at [] b at
wrote_none b at = record { ends = sym (add-zero at); holds = sym (put_none b at) }

-- One text after another, in a lent buffer.
pub text_then : {a b c : Text} {s t : List ℕ} → Wrote a s b → HasRoom a (length s) → Wrote b t c → Wrote a (s ++ t) c
text_then w h v =
    record {
      same_buffer = v.same_buffer ∙ w.same_buffer;
      same_length = v.same_length ∙ w.same_length;
      written = wrote_then w.written h v.written;
    }

pub text_as : {a b : Text} {s t : List ℕ} → s ≡ t → Wrote a s b → Wrote a t b
text_as e w = record { same_buffer = w.same_buffer; same_length = w.same_length; written = wrote_text e w.written }

pub text_none : (a : Text) → Wrote a [] a
text_none a = record { same_buffer = refl; same_length = refl; written = wrote_none a.out.now a.len }

-- What was written to a fresh buffer stands at its front.
pub text_printed : {a b : Text} {s old new : List ℕ} → a.len ≡ 0 → a.out.now ≡ old → Wrote a s b → new ≡ b.out.now → Printed old s new b.len
text_printed {a} {b} {s} {old} {new} e k w n =
    subst (λ o. Printed old s o b.len) (sym n)
    (printed (subst (λ m. PutAt old m s b.out.now b.len) e (subst (λ o. PutAt o a.len s b.out.now b.len) k w.written)))
