-- `words_numbers::write_number` meets its contract: the bits are put at bit 0, and the last byte is finished. Assumes nothing.
use borrow.Author.Rules.{rules}
use Rattle.meaning.specs.Bits.{to_bits}
use Rattle.bits.proofs.Numbers.{length_to_bits}
use Rattle.bits.proofs.OfBytes.{are_bytes}
use Rattle.bits.proofs.Packed.{finished}
use Rattle.words_numbers.proofs.write_number.Goals as goal

pub returns : goal.returns
returns c =
    let a = c.args in
    finished (to_bits a.n a.x) a.n a.out.now c.put_number.new.dst c.finish.new.out (length_to_bits a.n a.x)
    (are_bytes a.out.now (search rules))
    (are_bytes c.finish.new.out (search rules))
    c.put_number.ensures
    c.finish.ensures
