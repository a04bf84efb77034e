-- `codec_encoding::write_record` meets its contract. Assumes nothing.
use mathlib.Core.Path.{◌∙◌}
use native.Mathlib.Nat.{zero-add}
use Prim.Native.Nat.{ℕ}
use borrow.Author.Rules.{rules}
use mir.Syntax.{w8}
use mir.Val.{Fits}
use lib.ListN.{length, drop, get_or}
use Rattle.meaning.specs.Tables.{ty_at}
use Rattle.meaning.specs.Bits.{bits_of}
use Rattle.meaning.specs.Records.{compact}
use Rattle.bits.proofs.OfBytes.{are_bytes}
use Rattle.codec_laws.proofs.Writing.{wrote_finished}
use Rattle.codec_encoding.proofs.write_record.Goals as goal

pub returns : goal.returns
returns c =
    let a = c.args in
    let all = compact (ty_at a.table.now.columns a.node) (drop a.at (bits_of a.src.now)) in
    let put = c.write_compact-end in
    let counted = put.ensures.ends ∙ zero-add (length all) in
    let old : (i : ℕ) → Fits w8 (get_or a.out.now i 0) = search rules in
    record {
      value = counted;
      out_after = wrote_finished put.ensures counted (are_bytes a.out.now old) (are_bytes c.finish.new.out c.type_inv.out) c.finish.ensures;
    }
