-- `words_buffers::make_buffer` meets its contract: the ladder's 6, 7 and 9 in their order, then the segments. Assumes nothing.
use Prim.Native.Nat.{ℕ, ◌+◌, ◌-◌, ◌*◌, ◌^◌, ◌≤◌, ◌<◌}
use mathlib.Core.Path.{◌≡◌, sym, ap, ◌∙◌}
use mathlib.Core.Bool.{Bool, true, false, ◌&&◌}
use mathlib.Core.List.{List, [], ◌∷◌}
use native.Mathlib.Nat.{two-pow-succ}
use native.Mathlib.Numerals.{add-one}
use native.Mathlib.Omega.{arith}
use lib.Dec.{ltb}
use lib.ListN.{length, get_or}
use lib.Seq.{paste}
use borrow.Author.Rules.{rules}
use borrow.Author.Tests.{lt-ltb, le-ltb}
use Rattle.meaning.specs.Types.{bits, same}
use Rattle.meaning.specs.Tables.{Table}
use Rattle.meaning.specs.Bits.{bits_of, zeros, room}
use Rattle.meaning.specs.Words.{word_widths, buffer, buffer_bits}
use Rattle.meaning.specs.Ladder.{refused, accepted, Rung, ladder, named, type_at}
use Rattle.meaning.specs.WordCalls.{buffer_rungs, buffer_call, buffer_out}
use Rattle.meaning.proofs.Tests.{and_both, and_no_left, and_no_right}
use Rattle.meaning.proofs.Powers.{pow_twelve}
use Rattle.meaning.proofs.WordWidths.{word-widths}
use Rattle.bits.proofs.OfBytes.{are_bytes}
use Rattle.bits.proofs.Packed.{finished}
use Rattle.meaning.specs.Checked.{Bytes}
use Rattle.checked.specs.Passed.{Named}
use Rattle.checked.proofs.Passes.{named_passes}
use Rattle.checked.proofs.Made.{stopped, short, done}
use Rattle.checked.proofs.Shaped.{range_missed, range_shape, range_pass}
use Rattle.words_laws.proofs.Parts.{length_buffer, buffer_small}
use Rattle.words_buffers.proofs.make_buffer.Goals as goal

module _ (t : Table) (n : ℕ) (held : List ℕ) (res : ℕ) (out : List ℕ) (h : Named t res) where
  -- The rungs before 6, the tests of 6 and 7, and the call's rungs.
  abbrev before6 : List Rung
  before6 = named t (res ∷ [])

  abbrev few : Bool
  few = ltb (length held) (2 ^ (n + 1))

  abbrev ranges : Bool
  ranges = ltb n 13 && few

  abbrev fits : Bool
  fits = same (type_at t res) (buffer n)

  abbrev rungs : List Rung
  rungs = buffer_rungs t n held res

  passed : ladder before6 (tt {0}) ≡ accepted (tt {0})
  passed = named_passes t h.sound (res ∷ []) (h, tt)

  outside : ranges ≡ false → (refused 6 0 ≡ buffer_call t n held res out) × (out ≡ buffer_out t n held res out)
  outside f = stopped rungs (buffer_bits n held) out 6 0 (range_missed before6 ranges fits passed f)

  no_buffer : 13 ≤ n → (refused 6 0 ≡ buffer_call t n held res out) × (out ≡ buffer_out t n held res out)
  no_buffer l = outside (and_no_left (ltb n 13) few (le-ltb n 13 l))

  module _ (l : n < 13) (w : ℕ) (e : w ≡ get_or word_widths n 0) where
    -- The word's width is 2 to the n, and the limit 2 to the n + 1.
    power : w ≡ 2 ^ n
    power = e ∙ word-widths n (omega (arith, l))

    small : 2 * w ≤ 8192
    small = omega (arith, power, pow_twelve n l)

    limit_is : 2 * w ≡ 2 ^ (n + 1)
    limit_is =
        let d : 2 * w ≡ 2 ^ n + 2 ^ n = omega (arith, power) in
        d ∙ sym (two-pow-succ n) ∙ ap (λ (k : ℕ). 2 ^ k) (sym (add-one n))

    long : 2 * w ≤ length held → (refused 6 0 ≡ buffer_call t n held res out) × (out ≡ buffer_out t n held res out)
    long m = outside (and_no_right (ltb n 13) few (le-ltb (length held) (2 ^ (n + 1)) (omega (arith, limit_is, m))))

    module _ (m : length held < 2 * w) where
      in-range : ranges ≡ true
      in-range = and_both (ltb n 13) few (lt-ltb n 13 l) (lt-ltb (length held) (2 ^ (n + 1)) (omega (arith, limit_is, m)))

      other_shape : fits ≡ false → (refused 7 0 ≡ buffer_call t n held res out) × (out ≡ buffer_out t n held res out)
      other_shape f = stopped rungs (buffer_bits n held) out 7 0 (range_shape before6 ranges fits passed in-range f)

      module _ (f : fits ≡ true) where
        clear : ladder rungs (tt {0}) ≡ accepted (tt {0})
        clear = range_pass before6 ranges fits passed in-range f

        no_room : length out < room (bits (buffer n)) → (refused 9 0 ≡ buffer_call t n held res out) × (out ≡ buffer_out t n held res out)
        no_room k = short rungs (buffer_bits n held) out clear (omega (arith, length_buffer n held, k))

        -- The segments, and the last byte finished.
        wrote : (v : ℕ) → v ≡ bits (buffer n) → room v ≤ length out → (mid new : List ℕ) → Bytes out → Bytes new
            → bits_of mid ≡ paste (bits_of out) 0 (buffer_bits n held) (bits (buffer n))
            → bits_of new ≡ paste (bits_of mid) v (zeros (8 * room v - v)) (8 * room v - v)
            → (accepted v ≡ buffer_call t n held res out) × (new ≡ buffer_out t n held res out)
        wrote v u k mid new bo bn em en =
            let many : length (buffer_bits n held) ≡ v = length_buffer n held ∙ sym u in
            done rungs (buffer_bits n held) out clear (omega (arith, many, k)) v (sym many) new
            (finished (buffer_bits n held) v out mid new many bo bn (em ∙ ap (λ (j : ℕ). paste (bits_of out) 0 (buffer_bits n held) j) (sym u)) en)

pub returns-then-n-ge-BUFFERS : goal.returns-then-n-ge-BUFFERS
returns-then-n-ge-BUFFERS c =
    let a = c.args in
    let both = no_buffer a.table.now a.n a.«data».now a.res a.out.now c.requires c.if-n-ge-BUFFERS.true in
    record { result_value = both.0; out_after = both.1 }

pub overflow_mul-limit : goal.overflow_mul-limit
overflow_mul-limit c =
    let a = c.args in
    let m = small a.table.now a.n a.«data».now a.res a.out.now c.requires c.if-n-ge-BUFFERS.false _ c.word_width.ensures in
    record { fits = omega arith }

pub returns-then-limit-data : goal.returns-then-limit-data
returns-then-limit-data c =
    let a = c.args in
    let both =
    long a.table.now a.n a.«data».now a.res a.out.now c.requires c.if-n-ge-BUFFERS.false _ c.word_width.ensures c.if-limit-data.true in
    record { result_value = both.0; out_after = both.1 }

pub returns-then-not-is_buffer : goal.returns-then-not-is_buffer
returns-then-not-is_buffer c =
    let a = c.args in
    let both =
    other_shape a.table.now a.n a.«data».now a.res a.out.now c.requires c.if-n-ge-BUFFERS.false _ c.word_width.ensures c.if-limit-data.false
    (sym c.is_buffer.ensures ∙ c.if-not-is_buffer.true) in
    record { result_value = both.0; out_after = both.1 }

pub bytes_for-requires : goal.bytes_for-requires
bytes_for-requires c =
    let m = buffer_small c.args.n c.if-n-ge-BUFFERS.false in omega arith

pub returns-then-out-bytes_for : goal.returns-then-out-bytes_for
returns-then-out-bytes_for c =
    let a = c.args in
    let both =
    no_room a.table.now a.n a.«data».now a.res a.out.now c.requires c.if-n-ge-BUFFERS.false _ c.word_width.ensures c.if-limit-data.false
    (sym c.is_buffer.ensures ∙ c.if-not-is_buffer.false)
    (omega arith) in
    record { result_value = both.0; out_after = both.1 }

pub returns : goal.returns
returns c =
    let a = c.args in
    let both =
    wrote a.table.now a.n a.«data».now a.res a.out.now c.requires c.if-n-ge-BUFFERS.false _ c.word_width.ensures c.if-limit-data.false
    (sym c.is_buffer.ensures ∙ c.if-not-is_buffer.false)
    _ c.buffer_width-width.ensures (omega arith) c.write_buffer.new.out c.finish.new.out (are_bytes a.out.now (search rules))
    (are_bytes c.finish.new.out c.type_inv.out)
    c.write_buffer.ensures c.finish.ensures in
    record { result_value = both.0; out_after = both.1 }
