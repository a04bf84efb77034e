-- `codec_decoding::read_record` meets its contract: what was read and written from bit 0 on, with its last byte finished. Assumes nothing.
use mathlib.Core.Path.{sym, ◌∙◌}
use borrow.Author.Rules.{rules}
use lib.ListN.{drop}
use Rattle.meaning.specs.Tables.{ty_at}
use Rattle.meaning.specs.Bits.{bits_of}
use Rattle.meaning.specs.Codecs.{Decoded, decode_compact, decoded_record, consumed}
use Rattle.bits.proofs.OfBytes.{are_bytes}
use Rattle.laws.proofs.CodecRoundTrips.{compact_read_write}
use Rattle.codec_laws.proofs.Writing.{wrote_finished}
use Rattle.codec_laws.proofs.Readings.{whole}
use Rattle.codec_decoding.proofs.read_record.Goals as goal

pub returns-clause-out_after : goal.returns-clause-out_after
returns-clause-out_after c =
    let a = c.args in
    let type = ty_at a.table.now.columns a.node in
    let rest = drop a.at (bits_of a.src.now) in
    let read : Decoded = decode_compact type rest in
    let wide = (compact_read_write type rest (decoded_record read) (consumed read) (whole c.requires.src_value)).as_wide in
    wrote_finished c.read_compact-next.ensures.wrote (c.width_of.ensures ∙ sym wide) (are_bytes a.out.now (search rules))
    (are_bytes c.finish.new.out c.type_inv.out)
    c.finish.ensures
