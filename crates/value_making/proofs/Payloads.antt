-- The bits of a record that is made of its payload, over the tag.
--
--   is_sum is-prod          a sum is that of its sides, and so is a product
--   wrapped_length          a record made of its payload is as long as its type is wide
--   wrapped_pieces          it is the tag, zero bits up to the payload, and the payload
--   none_zeros some_fits    `none` is all zero bits; what `some` asks of its result
--   nothing_written         no bits leave an output as it was
--   blank_short blank_done  zero bits: the room is short, or they are written
--   wrap_misfit wrap_short wrap_narrower wrap_done      a sum: its shape is wrong, the room is short; its payload is narrower; it is written
--   join_misfit join_short join_wider join_rest join_done      a product: the same; its second part has the rest of its width
-- Assumes nothing.
use mathlib.Core.Path.{◌≡◌, refl, sym, ap, ap₂, ◌∙◌, subst}
use mathlib.Core.Bool.{Bool, true, false, ◌&&◌, false≢true}
use mathlib.Core.List.{List, [], ◌∷◌, ◌++◌, append-nil}
use Prim.Native.Nat.{ℕ, suc, ◌+◌, ◌-◌, ◌%◌, ◌≤◌, ◌<◌}
use native.Mathlib.Omega.{arith}
use lib.ListN.{length, length-append, length-replicate, take, drop}
use Rattle.meaning.specs.Types.{Ty, unit, sum, prod, same, bits, is_unit, is_sum, is_prod, left_side, right_side}
use Rattle.meaning.specs.Tables.{Table}
use Rattle.meaning.specs.Bits.{bits_of, zeros, room, pack_to, pack, written}
use Rattle.meaning.specs.Ladder.{refused, accepted, ladder, Record, type_at, type_of, record_bits, shaped, makes, made}
use Rattle.meaning.specs.Records.{pad_left, in_left}
use Rattle.meaning.specs.RecordCalls.{zero_bits, none_bits, product_bits}
use Rattle.meaning.proofs.Tests.{and_left, and_right}
use Rattle.meaning.proofs.Types.{same_eq}
use Rattle.meaning.proofs.Records.{length_in_left, length_in_right, bits_unit, bits_sum, bits_prod}
use Rattle.bits.specs.Runs.{Run}
use Rattle.checked.specs.Passed.{Held}
use Rattle.checked.specs.Sides.{side_type, padding, wrapped}
use Rattle.value_fitting.specs.Fits.{wrap_fits, join_fits, option_fits}
use Rattle.value_making.specs.Wraps.{wrap_bits}
use Rattle.checked.proofs.Lent.{lent, lent_run, lent_bits, own_length}
use Rattle.checked.proofs.Made.{stopped, short, done}
use Rattle.checked.proofs.Nodes.{before_payload}
use Rattle.checked.proofs.Shaped.{misshapen, shapely}

-- A sum is that of its sides, and so is a product.
pub is_sum_lem : (x : Ty) → is_sum x ≡ true → x ≡ sum (left_side x) (right_side x)
is_sum_lem unit h = absurd (false≢true h)
is_sum_lem (sum a b) h = refl
is_sum_lem (prod a b) h = absurd (false≢true h)

pub is-prod : (x : Ty) → is_prod x ≡ true → x ≡ prod (left_side x) (right_side x)
is-prod unit h = absurd (false≢true h)
is-prod (sum a b) h = absurd (false≢true h)
is-prod (prod a b) h = refl

pub wrapped_length : (g : Bool) (x a b : Ty) (p : List Bool) → x ≡ sum a b → length p ≡ bits (side_type g x) → length (wrapped g x p) ≡ bits x
wrapped_length g x a b p e =
    subst (λ (y : Ty). length p ≡ bits (side_type g y) → length (wrapped g y p) ≡ bits y) (sym e) (at g)
  where
    at : (s : Bool) → length p ≡ bits (side_type s (sum a b)) → length (wrapped s (sum a b) p) ≡ bits (sum a b)
    at true h = length_in_right a b p h
    at false h = length_in_left a b p h

pieces : (g : Bool) (x : Ty) (p : List Bool) → g ∷ (zeros (padding g x) ++ p) ≡ wrapped g x p
pieces true x p = refl
pieces false x p = refl

pub wrapped_pieces : (g : Bool) (x a b : Ty) (p : List Bool) → x ≡ sum a b → (w n : ℕ) → w ≡ bits x → n ≡ bits (side_type g x)
    → g ∷ (zeros (w - 1 - n) ++ p) ≡ wrapped g x p
wrapped_pieces g x a b p e w n ew en =
    let k : w - 1 - n ≡ padding g x = omega (arith, before_payload g x a b e) in
    ap (λ (i : ℕ). g ∷ (zeros i ++ p)) k ∙ pieces g x p

-- A unit is nothing else.
is-unit : (x : Ty) → is_unit x ≡ true → x ≡ unit
is-unit unit h = refl
is-unit (sum a b) h = absurd (false≢true h)
is-unit (prod a b) h = absurd (false≢true h)

no_payload : (x : Ty) → (is_sum x && is_unit (left_side x)) ≡ true → in_left (left_side x) (right_side x) [] ≡ zeros (bits x)
no_payload unit h = absurd (false≢true h)
no_payload (sum a b) h =
    let w : bits (sum a b) ≡ suc (pad_left a b) = omega (arith, bits_sum a b, ap bits (is-unit a h), bits_unit) in
    ap (λ (v : List Bool). false ∷ v) (append-nil (zeros (pad_left a b))) ∙ ap zeros (sym w)
no_payload (prod a b) h = absurd (false≢true h)

pub none_zeros : (t : Table) (c : ℕ) → option_fits t c ≡ true → none_bits t c ≡ zero_bits t c
none_zeros t c h = no_payload (type_at t c) h

pub some_fits : (t : Table) (n c : ℕ) → option_fits t c ≡ true
    → wrap_fits true t n c ≡ (option_fits t c && same (right_side (type_at t c)) (type_at t n))
some_fits t n c h =
    ap (λ (x : Bool). x && same (right_side (type_at t c)) (type_at t n))
    (and_left (is_sum (type_at t c)) (is_unit (left_side (type_at t c))) h ∙ sym h)

pub nothing_written : (out : List ℕ) → written [] out ≡ out
unfolding written pack pack_to
nothing_written out = refl

-- Zero bits.
module _ (t : Table) (res : ℕ) (out : List ℕ) (w : ℕ) (wide : w ≡ bits (type_at t res)) where
  long : w ≡ length (zero_bits t res)
  long = wide ∙ sym (length-replicate (bits (type_at t res)) false)

  pub blank_short : length out < room w → (refused 9 0 ≡ makes [] (zero_bits t res) out) × (out ≡ made [] (zero_bits t res) out)
  unfolding ladder
  blank_short l = short [] (zero_bits t res) out refl (subst (λ (n : ℕ). length out < room n) long l)

  pub blank_done : room w ≤ length out → (new : List ℕ) → new ≡ written (zeros w) out
      → (accepted w ≡ makes [] (zero_bits t res) out) × (new ≡ made [] (zero_bits t res) out)
  unfolding ladder
  blank_done l new n =
      done [] (zero_bits t res) out refl (subst (λ (k : ℕ). room k ≤ length out) long l) w long new
      (n ∙ ap (λ (k : ℕ). written (zeros k) out) wide)

-- A sum, of a payload p.
module _ (g : Bool) (t : Table) (p : Record) (h : Held t p) (res : ℕ) (out : List ℕ) (b : Bool) (asked : b ≡ wrap_fits g t p.node res) where
  -- The type of the result, that of the side that the payload takes, the rung and the bits.
  abbrev whole : Ty
  whole = type_at t res

  abbrev side : Ty
  side = side_type g (type_at t res)

  pub wrap_misfit : b ≡ false
      → (refused 7 0 ≡ makes (shaped (wrap_fits g t p.node res)) (wrap_bits g t p res) out)
      × (out ≡ made (shaped (wrap_fits g t p.node res)) (wrap_bits g t p res) out)
  wrap_misfit f = stopped (shaped (wrap_fits g t p.node res)) (wrap_bits g t p res) out 7 0 (misshapen (wrap_fits g t p.node res) (sym asked ∙ f))

  module _ (f : b ≡ true) where
    passed : ladder (shaped (wrap_fits g t p.node res)) (tt {0}) ≡ accepted (tt {0})
    passed = shapely (wrap_fits g t p.node res) (sym asked ∙ f)

    tree : whole ≡ sum (left_side whole) (right_side whole)
    tree = is_sum_lem whole (and_left (is_sum whole) (same side (type_of t p)) (sym asked ∙ f))

    fitting : side ≡ type_of t p
    fitting = same_eq side (type_of t p) (and_right (is_sum whole) (same side (type_of t p)) (sym asked ∙ f))

    module _ (w : ℕ) (wide : w ≡ bits (type_at t res)) where
      filled : w ≡ length (wrap_bits g t p res)
      filled =
          wide
          ∙ sym (wrapped_length g whole (left_side whole) (right_side whole) (record_bits t p) tree (own_length t p h ∙ ap bits (sym fitting)))

      pub wrap_short : length out < room w
          → (refused 9 0 ≡ makes (shaped (wrap_fits g t p.node res)) (wrap_bits g t p res) out)
          × (out ≡ made (shaped (wrap_fits g t p.node res)) (wrap_bits g t p res) out)
      wrap_short l =
          short (shaped (wrap_fits g t p.node res)) (wrap_bits g t p res) out passed (subst (λ (n : ℕ). length out < room n) filled l)

      module _ (k : ℕ) (given : k ≡ bits (type_of t p)) where
        pub wrap_narrower : k < w
        wrap_narrower =
            omega (arith, wide, given, ap bits fitting, before_payload g whole (left_side whole) (right_side whole) tree)

        pub wrap_done : room w ≤ length out → (new : List ℕ)
            → new ≡ written (g ∷ (zeros (w - 1 - k) ++ take k (drop (p.offset % 8) (bits_of (lent p))))) out
            → (accepted w ≡ makes (shaped (wrap_fits g t p.node res)) (wrap_bits g t p res) out)
            × (new ≡ made (shaped (wrap_fits g t p.node res)) (wrap_bits g t p res) out)
        wrap_done l new n =
            done (shaped (wrap_fits g t p.node res)) (wrap_bits g t p res) out passed (subst (λ (m : ℕ). room m ≤ length out) filled l) w filled new
            (n
            ∙ ap (λ (v : List Bool). written v out)
            (ap (λ (q : List Bool). g ∷ (zeros (w - 1 - k) ++ q)) (lent_bits t p h k given)
            ∙ wrapped_pieces g whole (left_side whole) (right_side whole) (record_bits t p) tree w k wide (given ∙ ap bits (sym fitting))))

-- A product, of the parts p and q.
module _ (t : Table) (p q : Record) (h : Held t p) (i : Held t q) (res : ℕ) (out : List ℕ) (b : Bool) (asked : b ≡ join_fits t p.node q.node res) where
  abbrev all : Ty
  all = type_at t res

  pub join_misfit : b ≡ false
      → (refused 7 0 ≡ makes (shaped (join_fits t p.node q.node res)) (product_bits t p q) out)
      × (out ≡ made (shaped (join_fits t p.node q.node res)) (product_bits t p q) out)
  join_misfit f =
      stopped (shaped (join_fits t p.node q.node res)) (product_bits t p q) out 7 0 (misshapen (join_fits t p.node q.node res) (sym asked ∙ f))

  module _ (f : b ≡ true) where
    joined : ladder (shaped (join_fits t p.node q.node res)) (tt {0}) ≡ accepted (tt {0})
    joined = shapely (join_fits t p.node q.node res) (sym asked ∙ f)

    front : (is_prod (type_at t res) && same (left_side (type_at t res)) (type_of t p)) ≡ true
    front = and_left (is_prod all && same (left_side all) (type_of t p)) (same (right_side all) (type_of t q)) (sym asked ∙ f)

    -- The widths of the parts add up to that of the result.
    total : bits (type_at t res) ≡ bits (type_of t p) + bits (type_of t q)
    total =
        ap bits (is-prod all (and_left (is_prod all) (same (left_side all) (type_of t p)) front))
        ∙ bits_prod (left_side all) (right_side all)
        ∙ ap₂ (λ (x y : Ty). bits x + bits y) (same_eq (left_side all) (type_of t p) (and_right (is_prod all) (same (left_side all) (type_of t p)) front))
        (same_eq (right_side all) (type_of t q)
        (and_right (is_prod all && same (left_side all) (type_of t p)) (same (right_side all) (type_of t q)) (sym asked ∙ f)))

    module _ (w : ℕ) (wide : w ≡ bits (type_at t res)) where
      spanned : w ≡ length (product_bits t p q)
      spanned = omega (arith, wide, total, length-append (record_bits t p) (record_bits t q), own_length t p h, own_length t q i)

      pub join_short : length out < room w
          → (refused 9 0 ≡ makes (shaped (join_fits t p.node q.node res)) (product_bits t p q) out)
          × (out ≡ made (shaped (join_fits t p.node q.node res)) (product_bits t p q) out)
      join_short l =
          short (shaped (join_fits t p.node q.node res)) (product_bits t p q) out joined (subst (λ (n : ℕ). length out < room n) spanned l)

      module _ (m : ℕ) (given : m ≡ bits (type_of t p)) where
        rest : w - m ≡ bits (type_of t q)
        rest = omega (arith, wide, given, total)

        pub join_wider : m ≤ w
        join_wider = omega (arith, wide, given, total)

        pub join_rest : Run (lent q) (q.offset % 8) (w - m)
        join_rest = lent_run t q i (w - m) rest

        pub join_done : room w ≤ length out → (new : List ℕ)
            → new
            ≡ written (take m (drop (p.offset % 8) (bits_of (lent p))) ++ take (w - m) (drop (q.offset % 8) (bits_of (lent q)))) out
            → (accepted w ≡ makes (shaped (join_fits t p.node q.node res)) (product_bits t p q) out)
            × (new ≡ made (shaped (join_fits t p.node q.node res)) (product_bits t p q) out)
        join_done l new n =
            done (shaped (join_fits t p.node q.node res)) (product_bits t p q) out joined (subst (λ (k : ℕ). room k ≤ length out) spanned l) w spanned
            new
            (n
            ∙ ap (λ (v : List Bool). written v out)
            (ap₂ (λ (x y : List Bool). x ++ y) (lent_bits t p h m given) (lent_bits t q i (w - m) rest)))
