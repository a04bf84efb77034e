-- Laws of types and their facts.
--
--   same_refl same_eq eq_same       equal types are the same tree
--   same_comm                       sameness goes both ways
--   width_bits                      the 64-bit width is the true one, stopped at the end
--   bits_width                      below the end they are the same
--   width_top size_top              facts fit 64 bits
--   size_pos                        a size is at least 1
-- Assumes nothing.
use Prim.Native.Nat.{ℕ, ◌+◌, ◌≤◌, ◌<◌, min, max}
use mathlib.Core.Path.{◌≡◌, refl, ap₂, subst}
use mathlib.Core.Bool.{true, ◌&&◌, false≢true}
use native.Mathlib.Omega.{arith}
use Rattle.meaning.specs.Types.{Ty, unit, sum, prod, same, bits, width, size, top, stop}
use Rattle.meaning.proofs.Tests.{and_left, and_right, and_both}

pub same_refl : (t : Ty) → same t t ≡ true
unfolding same
same_refl unit = refl
same_refl (sum a b) = and_both (same a a) (same b b) (same_refl a) (same_refl b)
same_refl (prod a b) = and_both (same a a) (same b b) (same_refl a) (same_refl b)

pub same_eq : (a b : Ty) → same a b ≡ true → a ≡ b
unfolding same
same_eq unit unit h = refl
same_eq unit (sum c d) h = absurd (false≢true h)
same_eq unit (prod c d) h = absurd (false≢true h)
same_eq (sum a b) unit h = absurd (false≢true h)
same_eq (sum a b) (sum c d) h =
    ap₂ sum (same_eq a c (and_left (same a c) (same b d) h)) (same_eq b d (and_right (same a c) (same b d) h))
same_eq (sum a b) (prod c d) h = absurd (false≢true h)
same_eq (prod a b) unit h = absurd (false≢true h)
same_eq (prod a b) (sum c d) h = absurd (false≢true h)
same_eq (prod a b) (prod c d) h =
    ap₂ prod (same_eq a c (and_left (same a c) (same b d) h)) (same_eq b d (and_right (same a c) (same b d) h))

pub eq_same : (a b : Ty) → a ≡ b → same a b ≡ true
eq_same a b e = subst (λ (t : Ty). same a t ≡ true) e (same_refl a)

pub same_comm : (a b : Ty) → same a b ≡ same b a
unfolding same
same_comm unit unit = refl
same_comm unit (sum c d) = refl
same_comm unit (prod c d) = refl
same_comm (sum a b) unit = refl
same_comm (sum a b) (sum c d) = ap₂ ◌&&◌ (same_comm a c) (same_comm b d)
same_comm (sum a b) (prod c d) = refl
same_comm (prod a b) unit = refl
same_comm (prod a b) (sum c d) = refl
same_comm (prod a b) (prod c d) = ap₂ ◌&&◌ (same_comm a c) (same_comm b d)

-- Stopping once at the end is stopping at each addition.
stop_sum : (a b x y : ℕ) → x ≡ min a top → y ≡ min b top → stop 1 (max x y) ≡ min (1 + max a b) top
stop_sum a b x y p q = omega arith

stop_prod : (a b x y : ℕ) → x ≡ min a top → y ≡ min b top → stop x y ≡ min (a + b) top
stop_prod a b x y p q = omega arith

pub width_bits : (t : Ty) → width t ≡ min (bits t) top
unfolding width bits
width_bits unit = refl
width_bits (sum a b) = stop_sum (bits a) (bits b) (width a) (width b) (width_bits a) (width_bits b)
width_bits (prod a b) = stop_prod (bits a) (bits b) (width a) (width b) (width_bits a) (width_bits b)

pub bits_width : (t : Ty) → width t < top → bits t ≡ width t
bits_width t h = let e = width_bits t in omega arith

pub width_top : (t : Ty) → width t ≤ top
width_top t = let e = width_bits t in omega arith

pub size_top : (t : Ty) → size t ≤ top
unfolding size
size_top unit = omega arith
size_top (sum a b) = omega arith
size_top (prod a b) = omega arith

pub size_pos : (t : Ty) → 1 ≤ size t
unfolding size
size_pos unit = omega arith
size_pos (sum a b) = omega arith
size_pos (prod a b) = omega arith
