-- Laws of comparing two runs.
--
--   alike_none alike_more             runs that begin alike: from none on, by pieces
--   order_alike                       runs that are alike to their end are equal in order
--   Says decided order_decided        runs that are alike as far as a piece: the order of the numbers that it makes decides
--   equal_numbers order_told          the same, where the code compares the two numbers
--   same_by_order                     runs of one length are the same where their order is equal
use mathlib.Core.Path.{◌≡◌, refl, sym, ap, ap₂, ◌∙◌, subst}
use mathlib.Core.Bool.{Bool, true, false}
use mathlib.Core.List.{List, [], ◌∷◌, ◌++◌}
use Prim.Native.Nat.{ℕ, zero, suc, ◌+◌, ◌-◌, ◌*◌, ◌/◌, ◌^◌, ◌≤◌, ◌<◌, zero-le, Ordering}
use native.Mathlib.Nat.{mod-eq_of_lt}
use native.Mathlib.Omega.{arith}
use lib.ListN.{length, take, drop}
use lib.Seq.{take-add, drop-drop}
use Rattle.meaning.specs.Bits.{odd, to_bits, bit, value}
use Rattle.meaning.specs.Records.{same_bits, order_bit, order_bits}
use Rattle.bits_compare.specs.Alike.{Alike}
use Rattle.answers.specs.Verdicts.{order as ordering}
use Rattle.std.specs.declared.cmp.Ordering as answered
use Rattle.std.specs.declared.cmp.Ordering.TheVariants.{Less, Equal, Greater}
use Rattle.std.specs.Ordering.{is_eq, is_ne, nat_cmp, MatchOrdering}
use Rattle.std.proofs.lemmas.Bool.{false≢true}
use Rattle.std.proofs.lemmas.Cmp.{ranked}
use Rattle.bits.proofs.Numbers.{length_to_bits, value_below, value_to_bits}

-- ---- Runs that begin alike

-- A run of k + m bits is one of k and one of m.
two_pieces : (v : List Bool) (i k m : ℕ) → take (k + m) (drop i v) ≡ take k (drop i v) ++ take m (drop (i + k) v)
two_pieces v i k m = take-add k m (drop i v) ∙ ap (λ (r : List Bool). take k (drop i v) ++ take m r) (drop-drop k i v)

module _ (v : List Bool) (i : ℕ) (w : List Bool) (j n : ℕ) where
  pub alike_none : Alike v i w j n 0
  alike_none = record { counted = zero-le; same = refl }

  pub alike_more : (k m : ℕ) → k + m ≤ n → Alike v i w j n k → take m (drop (i + k) v) ≡ take m (drop (j + k) w)
      → Alike v i w j n (k + m)
  alike_more k m h a e =
      record {
        counted = h;
        same = two_pieces v i k m ∙ ap₂ (λ (p q : List Bool). p ++ q) a.same e ∙ sym (two_pieces w j k m);
      }

-- ---- Order

order_self : (v : List Bool) → order_bits v v ≡ Ordering.eq
unfolding order_bits
order_self [] = refl
order_self (true ∷ v) = order_self v
order_self (false ∷ v) = order_self v

pub order_alike : {v w : List Bool} → v ≡ w → order_bits v w ≡ Ordering.eq
order_alike {v} {w} e = ap (order_bits v) (sym e) ∙ order_self v

-- The order of the first parts decides, unless they are equal.
abbrev pub decided : Ordering → Ordering → Ordering
decided Ordering.lt o = Ordering.lt
decided Ordering.eq o = o
decided Ordering.gt o = Ordering.gt

order_append : (p q v w : List Bool) → length p ≡ length q → order_bits (p ++ v) (q ++ w) ≡ decided (order_bits p q) (order_bits v w)
unfolding order_bits
order_append [] [] v w h = refl
order_append [] (c ∷ q) v w h = absurd (omega arith)
order_append (b ∷ p) [] v w h = absurd (omega arith)
order_append (true ∷ p) (true ∷ q) v w h = order_append p q v w (omega arith)
order_append (true ∷ p) (false ∷ q) v w h = refl
order_append (false ∷ p) (true ∷ q) v w h = refl
order_append (false ∷ p) (false ∷ q) v w h = order_append p q v w (omega arith)

-- What an order says of two numbers.
abbrev pub Says : Ordering → ℕ → ℕ → Type 0
Says Ordering.lt x y = x < y
Says Ordering.eq x y = x ≡ y
Says Ordering.gt x y = y < x

-- A bit before numbers below t, which stands for t.
says_first : (b c : Bool) (o : Ordering) (t x y : ℕ) → x < t → y < t → Says o x y → Says (order_bit b c o) (bit b * t + x) (bit c * t + y)
says_first true true Ordering.lt t x y hx hy h = omega arith
says_first true true Ordering.eq t x y hx hy h = omega arith
says_first true true Ordering.gt t x y hx hy h = omega arith
says_first true false o t x y hx hy h = omega arith
says_first false true o t x y hx hy h = omega arith
says_first false false Ordering.lt t x y hx hy h = omega arith
says_first false false Ordering.eq t x y hx hy h = omega arith
says_first false false Ordering.gt t x y hx hy h = omega arith

-- Bits are ordered as the numbers that they make.
order_value : (k x y : ℕ) → Says (order_bits (to_bits k x) (to_bits k y)) (value k (to_bits k x)) (value k (to_bits k y))
unfolding order_bits to_bits value
order_value zero x y = refl
order_value (suc k) x y =
    says_first (odd (x / 2 ^ k)) (odd (y / 2 ^ k)) (order_bits (to_bits k x) (to_bits k y)) (2 ^ k) (value k (to_bits k x)) (value k (to_bits k y))
    (value_below k (to_bits k x))
    (value_below k (to_bits k y))
    (order_value k x y)

-- The k bits of numbers that have no more are ordered as the numbers are.
order_numbers : (k x y : ℕ) → x < 2 ^ k → y < 2 ^ k → Says (order_bits (to_bits k x) (to_bits k y)) x y
order_numbers k x y hx hy =
    subst (λ (n : ℕ). Says (order_bits (to_bits k x) (to_bits k y)) n y) (made x hx)
    (subst (λ (n : ℕ). Says (order_bits (to_bits k x) (to_bits k y)) (value k (to_bits k x)) n) (made y hy) (order_value k x y))
  where
    made : (n : ℕ) → n < 2 ^ k → value k (to_bits k n) ≡ n
    made n h = value_to_bits k n ∙ mod-eq_of_lt h

-- Only one order says what is so.
says_one : (o p : Ordering) (x y : ℕ) → Says o x y → Says p x y → o ≡ p
says_one Ordering.lt Ordering.lt x y s t = refl
says_one Ordering.lt Ordering.eq x y s t = absurd (omega arith)
says_one Ordering.lt Ordering.gt x y s t = absurd (omega arith)
says_one Ordering.eq Ordering.lt x y s t = absurd (omega arith)
says_one Ordering.eq Ordering.eq x y s t = refl
says_one Ordering.eq Ordering.gt x y s t = absurd (omega arith)
says_one Ordering.gt Ordering.lt x y s t = absurd (omega arith)
says_one Ordering.gt Ordering.eq x y s t = absurd (omega arith)
says_one Ordering.gt Ordering.gt x y s t = refl

-- What follows the first k bits of a run of n.
abbrev pub after : List Bool → ℕ → ℕ → ℕ → List Bool
after v i n k = take (n - k) (drop (i + k) v)

run_split : (v : List Bool) (i n k : ℕ) → k ≤ n → take n (drop i v) ≡ take k (drop i v) ++ after v i n k
run_split v i n k h = let e : n ≡ k + (n - k) = omega arith in ap (λ (l : ℕ). take l (drop i v)) e ∙ two_pieces v i k (n - k)

order-after : (v w : List Bool) (i j n k : ℕ) → Alike v i w j n k
    → order_bits (take n (drop i v)) (take n (drop j w)) ≡ order_bits (after v i n k) (after w j n k)
order-after v w i j n k a =
    ap₂ order_bits (run_split v i n k a.counted)
    (run_split w j n k a.counted ∙ ap (λ (p : List Bool). p ++ after w j n k) (sym a.same))
    ∙ order_append (take k (drop i v)) (take k (drop i v)) (after v i n k) (after w j n k) refl
    ∙ ap (λ (o : Ordering). decided o (order_bits (after v i n k) (after w j n k))) (order_self (take k (drop i v)))

-- Runs of n bits whose first k are alike. The next m bits of each make x and y, and what is so of these decides: nothing yet where they are equal.
pub order_decided : (v w : List Bool) (i j n k m x y : ℕ) (o : Ordering) → Alike v i w j n k → k + m ≤ n
    → to_bits m x ≡ take m (drop (i + k) v)
    → to_bits m y ≡ take m (drop (j + k) w)
    → x < 2 ^ m
    → y < 2 ^ m
    → Says o x y
    → order_bits (take n (drop i v)) (take n (drop j w)) ≡ decided o (order_bits (after v (i + k) (n - k) m) (after w (j + k) (n - k) m))
order_decided v w i j n k m x y o a h ex ey hx hy s =
    order-after v w i j n k a
    ∙ ap₂ order_bits (piece v i x ex) (piece w j y ey)
    ∙ order_append (to_bits m x) (to_bits m y) (after v (i + k) (n - k) m) (after w (j + k) (n - k) m) (length_to_bits m x ∙ sym (length_to_bits m y))
    ∙ ap (λ (p : Ordering). decided p (order_bits (after v (i + k) (n - k) m) (after w (j + k) (n - k) m)))
    (says_one (order_bits (to_bits m x) (to_bits m y)) o x y (order_numbers m x y hx hy) s)
  where
    piece : (u : List Bool) (at z : ℕ) → to_bits m z ≡ take m (drop (at + k) u) → after u at n k ≡ to_bits m z ++ after u (at + k) (n - k) m
    piece u at z e =
        run_split u (at + k) (n - k) m (omega arith) ∙ ap (λ (p : List Bool). p ++ after u (at + k) (n - k) m) (sym e)

-- What a comparison of two numbers answers.
says_answer : (x y : ℕ) (r : answered.Ordering) → r ≡ nat_cmp x y → Says (ordering r) x y
says_answer x y r e = go r (ranked x y r e)
  where
    go : (o : answered.Ordering) → MatchOrdering o (x < y) (x ≡ y) (y < x) → Says (ordering o) x y
    go Less h = h
    go Equal h = h
    go Greater h = h

pub equal_numbers : (x y : ℕ) (r : answered.Ordering) → r ≡ nat_cmp x y → is_ne r ≡ false → x ≡ y
equal_numbers x y r e none = go r (ranked x y r e) none
  where
    go : (o : answered.Ordering) → MatchOrdering o (x < y) (x ≡ y) (y < x) → is_ne o ≡ false → x ≡ y
    go Less h f = absurd (false≢true (sym f))
    go Equal h f = h
    go Greater h f = absurd (false≢true (sym f))

-- Two pieces whose numbers differ decide, whatever follows.
pub order_told : (v w : List Bool) (i j n k m x y : ℕ) (r : answered.Ordering) → Alike v i w j n k → k + m ≤ n
    → to_bits m x ≡ take m (drop (i + k) v)
    → to_bits m y ≡ take m (drop (j + k) w)
    → x < 2 ^ m
    → y < 2 ^ m
    → r ≡ nat_cmp x y
    → is_ne r ≡ true
    → ordering r ≡ order_bits (take n (drop i v)) (take n (drop j w))
order_told v w i j n k m x y r a h ex ey hx hy e differ =
    sym (order_decided v w i j n k m x y (ordering r) a h ex ey hx hy (says_answer x y r e) ∙ last r differ _)
  where
    last : (o : answered.Ordering) → is_ne o ≡ true → (rest : Ordering) → decided (ordering o) rest ≡ ordering o
    last Less f rest = refl
    last Equal f rest = absurd (false≢true f)
    last Greater f rest = refl

is_equal : Ordering → Bool
is_equal Ordering.lt = false
is_equal Ordering.eq = true
is_equal Ordering.gt = false

is_equal_as : (o : answered.Ordering) → is_eq o ≡ is_equal (ordering o)
unfolding is_equal
is_equal_as Less = refl
is_equal_as Equal = refl
is_equal_as Greater = refl

equal_same : (v w : List Bool) → length v ≡ length w → is_equal (order_bits v w) ≡ same_bits v w
unfolding order_bits same_bits is_equal
equal_same [] [] h = refl
equal_same [] (c ∷ w) h = absurd (omega arith)
equal_same (b ∷ v) [] h = absurd (omega arith)
equal_same (true ∷ v) (true ∷ w) h = equal_same v w (omega arith)
equal_same (true ∷ v) (false ∷ w) h = refl
equal_same (false ∷ v) (true ∷ w) h = refl
equal_same (false ∷ v) (false ∷ w) h = equal_same v w (omega arith)

-- Two runs of one length are the same where their order is equal.
pub same_by_order : (v w : List Bool) (o : answered.Ordering) → length v ≡ length w → ordering o ≡ order_bits v w → is_eq o ≡ same_bits v w
same_by_order v w o h e = is_equal_as o ∙ ap is_equal e ∙ equal_same v w h
