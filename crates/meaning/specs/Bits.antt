-- Bits and bytes: document 01, "Bits of a record". This is the only place where an order of bits in bytes is chosen.
--
--   odd to_bits                  the lowest bit of a number; its k lowest bits, the top one first
--   bits_of                      the bits of bytes, from the top of each byte
--   zeros                       bits that are all zero
--   room                        the bytes that hold a number of bits
--   bit value                   a bit, and the bits of a list, as a number
--   pack_to pack                the bytes that hold bits, with zero bits after the last
--   written                     an output after a record was written at its bit 0
use Rattle.std.specs.Prelude.{ℕ, zero, suc, ◌+◌, ◌*◌, ◌/◌, ◌%◌, ◌^◌, Bool, true, false, List, [], ◌∷◌, ◌++◌, length, drop, replicate, eqb}

-- The lowest bit of a number.
unfoldable pub odd : ℕ → Bool
odd n = eqb (n % 2) 1

-- The k lowest bits of a number, the top one first.
unfoldable pub to_bits : ℕ → ℕ → List Bool
to_bits zero n = []
to_bits (suc k) n = odd (n / 2 ^ k) ∷ to_bits k n

-- Bits run from the top of each byte.
unfoldable pub bits_of : List ℕ → List Bool
bits_of [] = []
bits_of (b ∷ bs) = to_bits 8 b ++ bits_of bs

-- So many zero bits.
abbrev pub zeros : ℕ → List Bool
zeros n = replicate n false

-- The bytes that a number of bits takes: an eighth, rounded up.
abbrev pub room : ℕ → ℕ
room n = (n + 7) / 8

-- A bit as a number.
abbrev pub bit : Bool → ℕ
bit true = 1
bit false = 0

-- The number whose k bits, the top one first, begin the list; bits that are not there are zero.
unfoldable pub value : ℕ → List Bool → ℕ
value zero v = 0
value (suc k) [] = 0
value (suc k) (b ∷ v) = bit b * 2 ^ k + value k v

-- The k bytes that begin with these bits; what lies after the last bit is zero.
unfoldable pub pack_to : ℕ → List Bool → List ℕ
pack_to zero v = []
pack_to (suc k) v = value 8 v ∷ pack_to k (drop 8 v)

-- The bytes that hold these bits and no more.
unfoldable pub pack : List Bool → List ℕ
pack v = pack_to (room (length v)) v

-- An output after these bits were written to it from bit 0: they take their room, and later bytes stay.
unfoldable pub written : List Bool → List ℕ → List ℕ
written v out = pack v ++ drop (room (length v)) out
