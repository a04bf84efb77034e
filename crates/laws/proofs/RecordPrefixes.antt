-- Compact bits settle a record up to its padding, and end by themselves.
--
--   Begins begins_taken         one list of bits begins another; as its first so many bits do
--   compact_begins_read         compact bits that begin a stream are what compact reading finds there
--   padded_begins_read          a record that begins a stream is what padded reading finds there
--   compact_prefix_free         two records of one type whose compact bits begin one stream have the same: neither's properly begin the other's
--   compact_settles_plain       two records have the same compact bits exactly if they are the same but for padding
-- Assumes nothing.
use mathlib.Core.Path.{◌≡◌, refl, sym, ap, ◌∙◌}
use mathlib.Core.Logic.{◌↔◌}
use mathlib.Core.Bool.{Bool}
use mathlib.Core.List.{List, [], ◌++◌}
use Prim.Native.Nat.{ℕ}
use lib.ListN.{length, take, drop, take-append-drop}
use Rattle.meaning.specs.Types.{Ty, bits}
use Rattle.meaning.specs.Records.{compact, plain}
use Rattle.meaning.specs.Codecs.{Decoded, decoded, decode_compact, decode_padded}
use Rattle.laws.proofs.RecordPlain.{compact_plain}
use Rattle.laws.proofs.CodecRoundTrips.{compact_write_read, padded_write_read}

-- The first list begins the second: the second is the first and something that follows it.
abbrev pub Begins : List Bool → List Bool → Type 0
Begins p s = (r : List Bool) × (p ++ r ≡ s)

pub begins_taken : (p s : List Bool) (n : ℕ) → p ≡ take n s → Begins p s
begins_taken p s n e = (drop n s, ap (λ (u : List Bool). u ++ drop n s) e ∙ take-append-drop n s)

pub compact_begins_read : (t : Ty) (v s : List Bool) → Begins (compact t v) s → decode_compact t s ≡ decoded (plain t v) (length (compact t v))
compact_begins_read t v s b = ap (decode_compact t) (sym b.1) ∙ compact_write_read t v b.0

pub padded_begins_read : (t : Ty) (v s : List Bool) → length v ≡ bits t → Begins v s → decode_padded t s ≡ decoded v (bits t)
padded_begins_read t v s h b = ap (decode_padded t) (sym b.1) ∙ padded_write_read t v b.0 h

same_record : (d : Decoded) (v w : List Bool) (n m : ℕ) → d ≡ decoded v n → d ≡ decoded w m → v ≡ w
same_record d v w n m p q = cc

begins_plain : (t : Ty) (v w s : List Bool) → Begins (compact t v) s → Begins (compact t w) s → plain t v ≡ plain t w
begins_plain t v w s p q =
    same_record (decode_compact t s) (plain t v) (plain t w) (length (compact t v)) (length (compact t w))
    (compact_begins_read t v s p)
    (compact_begins_read t w s q)

plain_compact : (t : Ty) (v w : List Bool) → plain t v ≡ plain t w → compact t v ≡ compact t w
plain_compact t v w e = sym (compact_plain t v) ∙ ap (compact t) e ∙ compact_plain t w

pub compact_prefix_free : (t : Ty) (v w s : List Bool) → Begins (compact t v) s → Begins (compact t w) s → compact t v ≡ compact t w
compact_prefix_free t v w s p q = plain_compact t v w (begins_plain t v w s p q)

pub compact_settles_plain : (t : Ty) (v w : List Bool) → (compact t v ≡ compact t w) ↔ (plain t v ≡ plain t w)
compact_settles_plain t v w =
    (λ e. begins_plain t v w (compact t w ++ []) ([], ap (λ (u : List Bool). u ++ []) e) ([], refl), plain_compact t v w)
