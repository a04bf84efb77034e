-- Where a reading ends.
--
--   end_of          of a reading that began at a bit; none if it ends early
use Rattle.std.specs.Prelude.{ℕ, ◌+◌, Option, Some, None}
use Rattle.meaning.specs.Codecs.{Decoded, early, decoded}

-- Where a reading that began at a bit ends.
abbrev pub end_of : ℕ → Decoded → Option ℕ
end_of at early = None
end_of at (decoded v n) = Some (at + n)
