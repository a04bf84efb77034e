-- `codec_counting::compact_fits` meets its contract: compact bits are no more than the record has bits. Assumes nothing.
use mathlib.Core.Path.{sym}
use native.Mathlib.Omega.{arith}
use borrow.Author.Tests.{le-leb}
use lib.ListN.{drop}
use Rattle.meaning.specs.Tables.{ty_at}
use Rattle.meaning.specs.Bits.{bits_of}
use Rattle.meaning.proofs.Records.{compact_most}
use Rattle.codec_counting.proofs.compact_fits.Goals as goal

pub returns-then-bytes_for-space : goal.returns-then-bytes_for-space
returns-then-bytes_for-space c =
    let most = compact_most (ty_at c.args.table.now.columns c.args.node) (drop c.args.at (bits_of c.args.src.now)) in
    sym (le-leb _ c.args.space (omega arith))

pub bytes_for-requires-2 : goal.bytes_for-requires-2
bytes_for-requires-2 c =
    let most = compact_most (ty_at c.args.table.now.columns c.args.node) (drop c.args.at (bits_of c.args.src.now)) in
    omega arith
