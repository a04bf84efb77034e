-- `codec_judging::ends_early` meets its contract: no more bits are consumed than the record has. Assumes nothing.
use mathlib.Core.Path.{◌≡◌, sym}
use mathlib.Core.Bool.{Bool}
use mathlib.Core.List.{List}
use native.Mathlib.Omega.{arith}
use lib.ListN.{length, take, drop, length-drop}
use lib.Seq.{length-take-le}
use Rattle.meaning.specs.Tables.{ty_at}
use Rattle.meaning.specs.Bits.{bits_of}
use Rattle.bits.proofs.OfBytes.{length_bits_of}
use Rattle.codec_laws.proofs.Readings.{wide_whole}
use Rattle.codec_judging.proofs.ends_early.Goals as goal

pub returns-then-width_of-until : goal.returns-then-width_of-until
returns-then-width_of-until c =
    let a = c.args in
    let stream : List Bool = take a.until (bits_of a.src.now) in
    let l : length stream ≡ a.until =
    length-take-le a.until (bits_of a.src.now) (omega (arith, c.requires.at_le_until.1, length_bits_of a.src.now)) in
    sym (wide_whole (ty_at a.table.now.columns a.node) (drop a.at stream) (omega (arith, length-drop a.at stream)))
