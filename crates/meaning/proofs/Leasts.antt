-- The least compact length: document 02, K1. (Of `least` of `Choice`, the smallest number that passes a test, speaks `Choices`.)
--
--   least_fewest                the 64-bit fact is the true number, stopped at the end
--   fewest_bits least_width     it is never above the width, the true ones and the facts
--   least_top                   it fits 64 bits
--   compact_fewest              no record of the type has fewer compact bits
--   fewest_word least_word_end  a word has no shorter form than itself; word type 64, which a table may hold, is at the end
--   least_one_side least_both_sides least_one_part      at the end: a sum with one side there and with both, a product with one part there
-- Assumes nothing.
use Prim.Native.Nat.{ℕ, zero, suc, ◌+◌, ◌*◌, ◌^◌, ◌≤◌, ◌<◌, min}
use mathlib.Core.Path.{◌≡◌, refl}
use mathlib.Core.Bool.{Bool, true, false, cond}
use mathlib.Core.List.{List, ◌∷◌}
use native.Mathlib.Omega.{arith}
use native.Mathlib.Numerals.{unary_clauses}
use lib.ListN.{length, length-append}
use Rattle.meaning.specs.Types.{Ty, unit, sum, prod, bits, width, top, fewest, least_length}
use Rattle.meaning.specs.Records.{tag, left_of, right_of, first_of, second_of, compact}
use Rattle.meaning.specs.Words.{word}
use Rattle.meaning.proofs.Types.{width_bits}

pub least_fewest : (t : Ty) → least_length t ≡ min (fewest t) top
unfolding least_length fewest
least_fewest unit = refl
least_fewest (sum a b) = let p = least_fewest a in let q = least_fewest b in omega arith
least_fewest (prod a b) = let p = least_fewest a in let q = least_fewest b in omega arith

pub fewest_bits : (t : Ty) → fewest t ≤ bits t
unfolding fewest bits
fewest_bits unit = omega arith
fewest_bits (sum a b) = let p = fewest_bits a in let q = fewest_bits b in omega arith
fewest_bits (prod a b) = let p = fewest_bits a in let q = fewest_bits b in omega arith

pub least_width : (t : Ty) → least_length t ≤ width t
least_width t = let p = least_fewest t in let q = width_bits t in let r = fewest_bits t in omega arith

pub least_top : (t : Ty) → least_length t ≤ top
least_top t = let p = least_fewest t in omega arith

-- Whichever side the tag takes.
tagged_fewest : (a b : Ty) (g : Bool) (x y : List Bool) → fewest a ≤ length x → fewest b ≤ length y
    → fewest (sum a b) ≤ length (cond g (true ∷ y) (false ∷ x))
unfolding fewest
tagged_fewest a b true x y h k = omega arith
tagged_fewest a b false x y h k = omega arith

pub compact_fewest : (t : Ty) (v : List Bool) → fewest t ≤ length (compact t v)
unfolding compact fewest
compact_fewest unit v = omega arith
compact_fewest (sum a b) v =
    tagged_fewest a b (tag v) (compact a (left_of a b v)) (compact b (right_of a b v)) (compact_fewest a (left_of a b v)) (compact_fewest b (right_of a b v))
compact_fewest (prod a b) v =
    let x = compact_fewest a (first_of a v) in
    let y = compact_fewest b (second_of a v) in
    simp length-append (omega arith)

pub fewest_word : (n : ℕ) → fewest (word n) ≡ 2 ^ n
unfolding fewest word
fewest_word zero = refl
fewest_word (suc n) =
    let p = fewest_word n in
    let e : 2 ^ suc n ≡ 2 * 2 ^ n = simp unary_clauses (omega arith) in
    omega arith

pub least_word_end : least_length (word 64) ≡ top
least_word_end = let p = least_fewest (word 64) in let q = fewest_word 64 in omega arith

pub least_one_side : (a b : Ty) → least_length a ≡ top → least_length b < top
    → (least_length (sum a b) ≡ 1 + least_length b) × (least_length (sum b a) ≡ 1 + least_length b)
unfolding least_length
least_one_side a b p q = (omega arith, omega arith)

pub least_both_sides : (a b : Ty) → least_length a ≡ top → least_length b ≡ top → least_length (sum a b) ≡ top
unfolding least_length
least_both_sides a b p q = omega arith

pub least_one_part : (a b : Ty) → least_length a ≡ top → (least_length (prod a b) ≡ top) × (least_length (prod b a) ≡ top)
unfolding least_length
least_one_part a b p = (omega arith, omega arith)
