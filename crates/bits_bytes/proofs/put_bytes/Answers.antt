-- `bits_bytes::put_bytes` meets its contract: the lowest bytes of a number have its lowest bits. Assumes nothing.
use Rattle.std.proofs.Common.{◌≡◌, ℕ, List, ap, sym, ◌∙◌, ◌+◌, ◌-◌, ◌*◌, ◌≤◌, length, take, drop, arith}
use Rattle.std.specs.Int.{bytes_high_first}
use Rattle.meaning.specs.Bits.{bits_of, to_bits}
use Rattle.bits.proofs.OfBytes.{drop_bits_of, tail}
use Rattle.bits.proofs.Parts.{drop_to_bits}
use Rattle.bits_bytes.proofs.Filled.{bits_of_number}
use Rattle.bits_bytes.proofs.put_bytes.Goals as goal

lowest : (n x : ℕ) (bytes : List ℕ) → n ≤ 8 → bytes ≡ bytes_high_first 8 x
    → bits_of (take (8 - (8 - n)) (drop (8 - n) bytes)) ≡ to_bits (8 * n) x
lowest n x bytes h e =
    let all : 64 ≡ 8 * (8 - n) + 8 * n = omega arith in
    ap (λ (s : List ℕ). bits_of (take (8 - (8 - n)) (drop (8 - n) s))) e
    ∙ ap bits_of (tail (8 - n) (bytes_high_first 8 x))
    ∙ sym (drop_bits_of (8 - n) (bytes_high_first 8 x))
    ∙ ap (drop (8 * (8 - n))) (bits_of_number 8 x ∙ ap (λ (k : ℕ). to_bits k x) all)
    ∙ drop_to_bits (8 * (8 - n)) (8 * n) x

pub returns : goal.returns
returns c =
    let a = c.args in
    ap bits_of c.copy_from_slice.ensures.after ∙ lowest (length a.dst.now) a.x c.to_be_bytes.result c.requires c.to_be_bytes.ensures
