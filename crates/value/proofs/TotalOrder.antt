-- The order of records is total, and agrees with equality.
--
--   turn turned compare_turned      an order, an answer and the call the other way round
--   compare_equal equal_compare     compare says Equal exactly if equal says yes
--   AtMost                          compare says Less or Equal
--   at_most_reflexive at_most_antisymmetric at_most_transitive at_most_total
-- Assumes nothing.
use Prim.Native.Nat.{ℕ, zero, suc, ◌<◌, compare, Ordering}
use Prim.Native.Nat.compare
use mathlib.Core.Path.{◌≡◌, refl, sym, ap, ap₂, ◌∙◌}
use mathlib.Core.Bool.{Bool, true, false, false≢true}
use mathlib.Core.List.{List, [], ◌∷◌}
use mathlib.Core.Logic.{◌⊎◌, inl, inr, ⊎_elim}
use native.Mathlib.Omega.{arith}
use lib.Dec.{is_le, compare_is_eq}
use lib.ListN.{length}
use borrow.Author.Tests.{eqb-true, eqb-false, leb-true}
use Rattle.meaning.specs.Types.{bits}
use Rattle.meaning.specs.Tables.{Table, class_of}
use Rattle.meaning.specs.Records.{order_bit, order_bits}
use Rattle.meaning.specs.Ladder.{Answer, refused, accepted, Rung, rung, ladder, Record, record_bits}
use Rattle.meaning.specs.RecordCalls.{handed, equal_call, order_then, compare_call}
use Rattle.meaning.proofs.Trees.{tree_class, class_trees}
use Rattle.checked.specs.Passed.{Held}
use Rattle.value_comparing.specs.Comparing.{alike_at, ordered_at}
use Rattle.value.proofs.Equality.{equal_means, same_equal}
use Rattle.value.proofs.Two.{two_pass, two_held, swapped}
use Rattle.checked.proofs.Lent.{own_length}
use Rattle.value_comparing.proofs.Orders.{compare_below, compare_level}

-- ---- The other way round

-- An order the other way round.
abbrev pub turn : Ordering → Ordering
turn Ordering.lt = Ordering.gt
turn Ordering.eq = Ordering.eq
turn Ordering.gt = Ordering.lt

-- An answer the other way round; a refusal stays.
abbrev pub turned : Answer Ordering → Answer Ordering
turned (refused n p) = refused n p
turned (accepted o) = accepted (turn o)

turn_numbers : (m n : ℕ) → compare n m ≡ turn (compare m n)
turn_numbers zero zero = compare.zero-zero ∙ sym (ap turn compare.zero-zero)
turn_numbers zero (suc n) = compare.suc-zero n ∙ sym (ap turn (compare.zero-suc n))
turn_numbers (suc m) zero = compare.zero-suc m ∙ sym (ap turn (compare.suc-zero m))
turn_numbers (suc m) (suc n) = compare.suc-suc n m ∙ turn_numbers m n ∙ sym (ap turn (compare.suc-suc m n))

turn_bit : (x y : Bool) (o : Ordering) → order_bit y x (turn o) ≡ turn (order_bit x y o)
turn_bit true true o = refl
turn_bit true false o = refl
turn_bit false true o = refl
turn_bit false false o = refl

turn_bits : (v w : List Bool) → order_bits w v ≡ turn (order_bits v w)
unfolding order_bits
turn_bits [] [] = refl
turn_bits [] (y ∷ w) = refl
turn_bits (x ∷ v) [] = refl
turn_bits (x ∷ v) (y ∷ w) = ap (order_bit y x) (turn_bits v w) ∙ turn_bit x y (order_bits v w)

turn_then : (o p : Ordering) → order_then (turn o) (turn p) ≡ turn (order_then o p)
turn_then Ordering.lt p = refl
turn_then Ordering.eq p = refl
turn_then Ordering.gt p = refl

turn_ladder : (rs : List Rung) (o : Ordering) → ladder rs (turn o) ≡ turned (ladder rs o)
unfolding ladder
turn_ladder [] o = refl
turn_ladder (rung true n p ∷ rs) o = refl
turn_ladder (rung false n p ∷ rs) o = turn_ladder rs o

ordered_turned : (t : Table) (a b : Record) → ordered_at t b a ≡ turn (ordered_at t a b)
ordered_turned t a b =
    ap₂ order_then (turn_numbers (class_of t.columns a.node) (class_of t.columns b.node)) (turn_bits (record_bits t a) (record_bits t b))
    ∙ turn_then (compare (class_of t.columns a.node) (class_of t.columns b.node)) (order_bits (record_bits t a) (record_bits t b))

pub compare_turned : (t : Table) (a b : Record) → compare_call t b a ≡ turned (compare_call t a b)
compare_turned t a b =
    swapped t b a (ordered_at t b a)
    ∙ ap (λ (o : Ordering). ladder (handed t (a ∷ b ∷ []) []) o) (ordered_turned t a b)
    ∙ turn_ladder (handed t (a ∷ b ∷ []) []) (ordered_at t a b)

-- ---- What an order of two pairs says: a number decides, and where it does not, the rest does

-- The order of two pairs is Equal.
then_equal : (p q : ℕ) (o : Ordering) → order_then (compare p q) o ≡ Ordering.eq → (p ≡ q) × (o ≡ Ordering.eq)
then_equal p q o h = go (compare p q) refl h
  where
    go : (c : Ordering) → compare p q ≡ c → order_then c o ≡ Ordering.eq → (p ≡ q) × (o ≡ Ordering.eq)
    go Ordering.lt e k = absurd (false≢true (ap compare_is_eq k))
    go Ordering.eq e k = (eqb-true p q (ap compare_is_eq e), k)
    go Ordering.gt e k = absurd (false≢true (ap compare_is_eq k))

-- It is Less or Equal.
then_most : (p q : ℕ) (o : Ordering) → is_le (order_then (compare p q) o) ≡ true → (p < q) ⊎ ((p ≡ q) × (is_le o ≡ true))
then_most p q o h = go (compare p q) refl h
  where
    go : (c : Ordering) → compare p q ≡ c → is_le (order_then c o) ≡ true → (p < q) ⊎ ((p ≡ q) × (is_le o ≡ true))
    go Ordering.lt e k =
        let l = leb-true p q (ap is_le e) in
        let n : p ≡ q → ⊥ = eqb-false p q (ap compare_is_eq e) in
        inl (omega arith)
    go Ordering.eq e k = inr (eqb-true p q (ap compare_is_eq e), k)
    go Ordering.gt e k = absurd (false≢true k)

most_below : (p q : ℕ) (o : Ordering) → p < q → is_le (order_then (compare p q) o) ≡ true
most_below p q o h = ap (λ (c : Ordering). is_le (order_then c o)) (compare_below p q h)

most_level : (p q : ℕ) (o : Ordering) → p ≡ q → is_le o ≡ true → is_le (order_then (compare p q) o) ≡ true
most_level p q o e h = ap (λ (c : Ordering). is_le (order_then c o)) (compare_level p q e) ∙ h

-- ---- Bits of one length

-- Lists of which one is empty differ in length.
empty_longer : (v : List Bool) → 0 ≡ suc (length v) → ⊥
empty_longer v e = omega arith

equal_bits : (v w : List Bool) → length v ≡ length w → order_bits v w ≡ Ordering.eq → v ≡ w
unfolding order_bits
equal_bits [] [] l h = refl
equal_bits [] (y ∷ w) l h = absurd (empty_longer w l)
equal_bits (x ∷ v) [] l h = absurd (empty_longer v (sym l))
equal_bits (true ∷ v) (true ∷ w) l h = ap (λ (u : List Bool). true ∷ u) (equal_bits v w (omega arith) h)
equal_bits (true ∷ v) (false ∷ w) l h = absurd (false≢true (ap compare_is_eq h))
equal_bits (false ∷ v) (true ∷ w) l h = absurd (false≢true (ap compare_is_eq h))
equal_bits (false ∷ v) (false ∷ w) l h = ap (λ (u : List Bool). false ∷ u) (equal_bits v w (omega arith) h)

bits_level : (v : List Bool) → order_bits v v ≡ Ordering.eq
unfolding order_bits
bits_level [] = refl
bits_level (true ∷ v) = bits_level v
bits_level (false ∷ v) = bits_level v

-- One bit more of three lists.
bit_transitive : (x y z : Bool) (o p r : Ordering) → (is_le o ≡ true → is_le p ≡ true → is_le r ≡ true)
    → is_le (order_bit x y o) ≡ true → is_le (order_bit y z p) ≡ true → is_le (order_bit x z r) ≡ true
bit_transitive true true true o p r f h k = f h k
bit_transitive true true false o p r f h k = k
bit_transitive true false true o p r f h k = absurd (false≢true h)
bit_transitive true false false o p r f h k = h
bit_transitive false true true o p r f h k = refl
bit_transitive false true false o p r f h k = absurd (false≢true k)
bit_transitive false false true o p r f h k = refl
bit_transitive false false false o p r f h k = f h k

bits_transitive : (u v w : List Bool) → length u ≡ length v → length v ≡ length w
    → is_le (order_bits u v) ≡ true → is_le (order_bits v w) ≡ true → is_le (order_bits u w) ≡ true
unfolding order_bits
bits_transitive [] v w l m h k = refl
bits_transitive (x ∷ u) v [] l m h k = refl
bits_transitive (x ∷ u) [] (z ∷ w) l m h k = absurd (empty_longer u (sym l))
bits_transitive (x ∷ u) (y ∷ v) (z ∷ w) l m h k =
    bit_transitive x y z (order_bits u v) (order_bits v w) (order_bits u w) (bits_transitive u v w (omega arith) (omega arith)) h k

-- ---- Records

module _ (t : Table) where
  -- The class of a record's type, and its bits.
  abbrev class : Record → ℕ
  class r = class_of t.columns r.node

  same_length : (a b : Record) → Held t a → Held t b → class a ≡ class b → length (record_bits t a) ≡ length (record_bits t b)
  same_length a b f g e =
      own_length t a f ∙ ap bits (class_trees t.columns a.node b.node e) ∙ sym (own_length t b g)

  pub compare_equal : (a b : Record) → compare_call t a b ≡ accepted Ordering.eq → equal_call t a b ≡ accepted true
  compare_equal a b h =
      let k = two_held t a b (ordered_at t a b) Ordering.eq h in
      let e = then_equal (class a) (class b) (order_bits (record_bits t a) (record_bits t b)) k.2 in
      same_equal t a b k.0 k.1
      (record {
        types = class_trees t.columns a.node b.node e.0;
        bits_are = equal_bits (record_bits t a) (record_bits t b) (same_length a b k.0 k.1 e.0) e.1;
      })

  pub equal_compare : (a b : Record) → equal_call t a b ≡ accepted true → compare_call t a b ≡ accepted Ordering.eq
  equal_compare a b h =
      let k = two_held t a b (alike_at t a b) true h in
      let s = equal_means t a b h in
      two_pass t a b (ordered_at t a b) k.0 k.1
      ∙ ap accepted
      (ap₂ order_then (compare_level (class a) (class b) (tree_class t.columns a.node b.node s.types))
      (ap (order_bits (record_bits t a)) (sym s.bits_are) ∙ bits_level (record_bits t a)))

  -- `compare` accepts two records, and says Less or Equal.
  pub record AtMost (a b : Record) : Type 0 where
    pub order_is : Ordering
    pub told : compare_call t a b ≡ accepted order_is
    pub low : is_le order_is ≡ true

  -- Of two held records, from the order itself.
  at_most : (a b : Record) → Held t a → Held t b → is_le (ordered_at t a b) ≡ true → AtMost a b
  at_most a b f g h = record { order_is = ordered_at t a b; told = two_pass t a b (ordered_at t a b) f g; low = h }

  -- Both records are held, and this is their order.
  known : (a b : Record) → AtMost a b → Held t a × Held t b × (is_le (ordered_at t a b) ≡ true)
  known a b m =
      let k = two_held t a b (ordered_at t a b) m.order_is m.told in (k.0, k.1, ap is_le k.2 ∙ m.low)

  pub at_most_reflexive : (a : Record) → Held t a → AtMost a a
  at_most_reflexive a f =
      at_most a a f f
      (most_level (class a) (class a) (order_bits (record_bits t a) (record_bits t a)) refl (ap is_le (bits_level (record_bits t a))))

  -- What is at most in both directions is level.
  both_most : (o : Ordering) → is_le o ≡ true → is_le (turn o) ≡ true → o ≡ Ordering.eq
  both_most Ordering.lt h k = absurd (false≢true k)
  both_most Ordering.eq h k = refl
  both_most Ordering.gt h k = absurd (false≢true h)

  pub at_most_antisymmetric : (a b : Record) → AtMost a b → AtMost b a → equal_call t a b ≡ accepted true
  at_most_antisymmetric a b m n =
      let k = known a b m in
      let e = both_most (ordered_at t a b) k.2 (ap is_le (sym (ordered_turned t a b)) ∙ (known b a n).2) in
      compare_equal a b (two_pass t a b (ordered_at t a b) k.0 k.1 ∙ ap accepted e)

  pub at_most_transitive : (a b c : Record) → AtMost a b → AtMost b c → AtMost a c
  at_most_transitive a b c m n =
      let j = known a b m in
      let k = known b c n in
      let x = order_bits (record_bits t a) (record_bits t b) in
      let y = order_bits (record_bits t b) (record_bits t c) in
      let z = order_bits (record_bits t a) (record_bits t c) in
      at_most a c j.0 k.1
      (⊎_elim
      (λ l. ⊎_elim (λ r. most_below (class a) (class c) z (omega arith)) (λ r. most_below (class a) (class c) z (omega arith)) (then_most (class b) (class c) y k.2))
      (λ l.
      ⊎_elim (λ r. most_below (class a) (class c) z (omega arith))
      (λ r.
      most_level (class a) (class c) z (l.0 ∙ r.0)
      (bits_transitive (record_bits t a) (record_bits t b) (record_bits t c) (same_length a b j.0 j.1 l.0)
      (same_length b c k.0 k.1 r.0) l.1 r.1))
      (then_most (class b) (class c) y k.2))
      (then_most (class a) (class b) x j.2))

  -- An order is at most, or its other way round is.
  one_most : (o : Ordering) → (is_le o ≡ true) ⊎ (is_le (turn o) ≡ true)
  one_most Ordering.lt = inl refl
  one_most Ordering.eq = inl refl
  one_most Ordering.gt = inr refl

  pub at_most_total : (a b : Record) → Held t a → Held t b → AtMost a b ⊎ AtMost b a
  at_most_total a b f g =
      ⊎_elim (λ h. inl (at_most a b f g h)) (λ h. inr (at_most b a g f (ap is_le (ordered_turned t a b) ∙ h))) (one_most (ordered_at t a b))
