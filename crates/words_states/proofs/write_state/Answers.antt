-- `words_states::write_state` meets its contract: the three parts one after the other, and the last byte finished. Assumes nothing.
use Prim.Native.Nat.{ℕ}
use mathlib.Core.Path.{◌≡◌, ap, ◌∙◌}
use mathlib.Core.Bool.{Bool}
use mathlib.Core.List.{List}
use native.Mathlib.Omega.{arith}
use lib.ListN.{length, take}
use lib.Seq.{paste}
use borrow.Author.Rules.{rules}
use Rattle.meaning.specs.Bits.{bits_of, to_bits}
use Rattle.meaning.specs.Words.{buffer_bits, ctx8_bits}
use Rattle.meaning.proofs.Buffers.{buffer_five}
use Rattle.bits.proofs.OfBytes.{are_bytes}
use Rattle.bits.proofs.Packed.{finished}
use Rattle.words_states.specs.State.{state_of}
use Rattle.words_laws.proofs.Hashed.{length_state, state_whole}
use Rattle.words_states.proofs.write_state.Goals as goal

pub write_buffer-requires-clause-run : goal.write_buffer-requires-clause-run
write_buffer-requires-clause-run c =
    let w = buffer_five in record { inside = omega arith; counted = omega arith }

pub returns : goal.returns
returns c =
    let a = c.args in
    let state = state_of a.state in
    let full : length a.state.midstate ≡ 32 = search rules in
    let held = buffer_bits 5 (take a.state.used a.state.buffer) in
    finished (ctx8_bits state) 830 a.out.now c.copy_bits.new.dst c.finish.new.out
    (length_state state full)
    (are_bytes a.out.now (search rules))
    (are_bytes c.finish.new.out (search rules))
    (c.copy_bits.ensures
    ∙ ap (λ (v : List Bool). paste v 574 (bits_of a.state.midstate) 256)
    (c.put_number.ensures
    ∙ ap (λ (v : List Bool). paste v 510 (to_bits 64 a.state.count) 64)
    (c.write_buffer.ensures ∙ ap (λ (w : ℕ). paste (bits_of a.out.now) 0 held w) buffer_five))
    ∙ state_whole state full (bits_of a.out.now))
    c.finish.ensures
