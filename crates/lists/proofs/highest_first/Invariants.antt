-- The number is that of the bytes so far, and below what so many bytes can make.
use Rattle.std.proofs.Common.{◌≡◌, ◌<◌, ◌*◌, ◌^◌, take}
use Rattle.lists.specs.Parts.{number_of}
use Rattle.lists.proofs.highest_first.Given as goal

abbrev pub invariant-loop-byte : goal.invariant-loop-byte
invariant-loop-byte l = (l.number ≡ number_of (take l.byte-index l.bytes)) × (l.number < 2 ^ (8 * l.byte-index))
