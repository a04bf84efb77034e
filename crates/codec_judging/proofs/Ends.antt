-- Where a compact reading ends, by its pieces, and what an end says of it.
--
--   end_tagged end_after            where the whole ends, by the piece that was read last
--   EndsAt end_at end_early         what an end says of the reading
-- Assumes nothing.
use mathlib.Core.Path.{◌≡◌, refl, ap}
use mathlib.Core.Bool.{Bool}
use mathlib.Core.List.{List}
use Prim.Native.Nat.{ℕ, ◌+◌}
use native.Mathlib.Nat.{add_assoc}
use Rattle.std.specs.Prelude.{Some, None}
use Rattle.meaning.specs.Codecs.{Decoded, early, decoded, under_tag, after_first, decoded_record, consumed}
use Rattle.codec_judging.specs.Ends.{end_of}

pub end_tagged : (at : ℕ) (wrap : List Bool → List Bool) (d : Decoded) → end_of (at + 1) d ≡ end_of at (under_tag wrap d)
end_tagged at wrap early = refl
end_tagged at wrap (decoded v n) = ap Some (add_assoc at 1 n)

pub end_after : (at : ℕ) (v : List Bool) (m : ℕ) (d : Decoded) → end_of (at + m) d ≡ end_of at (after_first v m d)
end_after at v m early = refl
end_after at v m (decoded w n) = ap Some (add_assoc at m n)

-- What an end at a bit says of the reading.
pub record EndsAt (at next : ℕ) (d : Decoded) : Type 0 where
  pub whole : d ≡ decoded (decoded_record d) (consumed d)
  pub ends : next ≡ at + consumed d

pub end_at : (at next : ℕ) (d : Decoded) → Some next ≡ end_of at d → EndsAt at next d
end_at at next early e = cc
end_at at next (decoded v n) e = record { whole = refl; ends = cc }

pub end_early : (at : ℕ) (d : Decoded) → None ≡ end_of at d → d ≡ early
end_early at early e = refl
end_early at (decoded v n) e = cc
