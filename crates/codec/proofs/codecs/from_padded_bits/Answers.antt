-- `codec::codecs::from_padded_bits` meets its contract. Assumes nothing.
use mathlib.Core.Path.{◌≡◌, sym, ap, ◌∙◌, subst}
use mathlib.Core.Bool.{Bool, true}
use mathlib.Core.List.{List}
use Prim.Native.Nat.{ℕ, ◌+◌, ◌-◌, ◌%◌, ◌≤◌, ◌<◌}
use native.Mathlib.Omega.{arith}
use lib.ListN.{length, take, drop, length-drop}
use lib.Seq.{length-take-le}
use Rattle.meaning.specs.Types.{bits}
use Rattle.meaning.specs.Tables.{Table}
use Rattle.meaning.specs.Bits.{bits_of, written}
use Rattle.meaning.specs.Codecs.{Decoded, decoded, is_early, decoded_record, consumed}
use Rattle.meaning.specs.Ladder.{Stream, stream_of, type_at}
use Rattle.meaning.specs.CodecCalls.{read_rungs, padded_in}
use Rattle.bits.specs.Runs.{Run}
use Rattle.bits.proofs.OfBytes.{length_bits_of}
use Rattle.answers.proofs.Exits.{handed_on}
use Rattle.checked.specs.Passed.{Streamed}
use Rattle.checked.proofs.Read.{stopped}
use Rattle.checked.proofs.Lent.{lent_stream, stream_starts, padded_short, padded_run, padded_lent}
use Rattle.codec.proofs.Passing.{streamed, reads_early, reads_short, reads_done}
use Rattle.codec.proofs.codecs.from_padded_bits.Goals as goal

-- The width of a node is known.
module _ {t : Table} {s : Stream} {node : ℕ} (w : Streamed t s node) {n : ℕ} (e : n ≡ bits (type_at t node)) where
  ends : s.until - s.position < n → is_early (padded_in t s node) ≡ true
  ends l = ap is_early (padded_short t s node w (omega arith))

  -- The stream has enough bits.
  module _ (l : n ≤ s.until - s.position) where
    -- The bits that are read, in the bytes lent.
    abbrev read : List Bool
    read = take n (drop (s.position % 8) (bits_of (lent_stream s)))

    run : padded_in t s node ≡ decoded read n
    run =
        subst (λ (k : ℕ). padded_in t s node ≡ decoded (take k (drop (s.position % 8) (bits_of (lent_stream s)))) k) (sym e)
        (padded_lent t s node w (omega arith))

    lies : Run (lent_stream s) (s.position % 8) n
    lies = subst (λ (k : ℕ). Run (lent_stream s) (s.position % 8) k) (sym e) (padded_run t s node w (omega arith))

    as_wide : n ≡ length (decoded_record (padded_in t s node))
    as_wide =
        let from = drop (s.position % 8) (bits_of (lent_stream s)) in
        sym
        (ap (λ (d : Decoded). length (decoded_record d)) run
        ∙ length-take-le n from
        (omega (arith, lies.inside, length-drop (s.position % 8) (bits_of (lent_stream s)), length_bits_of (lent_stream s))))

pub returns-in_err-checked : goal.returns-in_err-checked
returns-in_err-checked c =
    let a = c.args in
    let s = stream_of a.bytes.now a.until a.position in
    let both =
    stopped (read_rungs a.table.now s a.node) s (padded_in a.table.now s a.node) a.out.now _ _ (sym c.in_err-checked.ensures.answer) in
    record { result_value = handed_on (λ n. n) _ _ c.from_residual.ensures.1 _ both.0; out_after = both.1 }

pub width_of-width-requires : goal.width_of-width-requires
width_of-width-requires c =
    let s = stream_of c.args.bytes.now c.args.until c.args.position in
    (streamed c.in_ok-checked.ensures.same s c.args.node c.in_ok-checked.ensures.answer).named

pub overflow_sub-until : goal.overflow_sub-until
overflow_sub-until c =
    let s = stream_of c.args.bytes.now c.args.until c.args.position in
    (streamed c.in_ok-checked.ensures.same s c.args.node c.in_ok-checked.ensures.answer).begins

pub returns-then-until-position : goal.returns-then-until-position
returns-then-until-position c =
    let a = c.args in
    let s = stream_of a.bytes.now a.until a.position in
    let ok = c.in_ok-checked.ensures in
    let w = streamed ok.same s a.node ok.answer in
    let both =
    reads_early ok.same s a.node ok.answer (λ (t : Table). padded_in t s a.node) a.out.now
    (ends w c.width_of-width.ensures c.if-until-position.true) in
    record { result_value = both.0; out_after = both.1 }

pub bytes_for-requires : goal.bytes_for-requires
bytes_for-requires c =
    let s = stream_of c.args.bytes.now c.args.until c.args.position in
    let w = streamed c.in_ok-checked.ensures.same s c.args.node c.in_ok-checked.ensures.answer in
    omega arith

pub returns-then-out-bytes_for : goal.returns-then-out-bytes_for
returns-then-out-bytes_for c =
    let a = c.args in
    let s = stream_of a.bytes.now a.until a.position in
    let ok = c.in_ok-checked.ensures in
    let w = streamed ok.same s a.node ok.answer in
    let e = c.width_of-width.ensures in
    let l = c.if-until-position.false in
    let both =
    reads_short ok.same s a.node ok.answer (λ (t : Table). padded_in t s a.node) a.out.now (ap is_early (run w e l)) (as_wide w e l)
    (omega arith) in
    record { result_value = both.0; out_after = both.1 }

pub slice_bounds-write_run-count : goal.slice_bounds-write_run-count
slice_bounds-write_run-count c =
    let s = stream_of c.args.bytes.now c.args.until c.args.position in
    stream_starts _ s c.args.node (streamed c.in_ok-checked.ensures.same s c.args.node c.in_ok-checked.ensures.answer)

pub slice_bounds-write_run-start : goal.slice_bounds-write_run-start
slice_bounds-write_run-start c = slice_bounds-write_run-count c

pub write_run-requires-clause-run_2 : goal.write_run-requires-clause-run_2
write_run-requires-clause-run_2 c =
    let s = stream_of c.args.bytes.now c.args.until c.args.position in
    let w = streamed c.in_ok-checked.ensures.same s c.args.node c.in_ok-checked.ensures.answer in
    lies w c.width_of-width.ensures c.if-until-position.false

pub returns : goal.returns
returns c =
    let a = c.args in
    let s = stream_of a.bytes.now a.until a.position in
    let ok = c.in_ok-checked.ensures in
    let out = a.out.now in
    let w = streamed ok.same s a.node ok.answer in
    let e = c.width_of-width.ensures in
    let l = c.if-until-position.false in
    let got = run w e l in
    let both =
    reads_done ok.same s a.node ok.answer (λ (t : Table). padded_in t s a.node) out (ap is_early got) (as_wide w e l) (omega arith)
    (ap (λ (k : ℕ). a.position + k) (sym (ap consumed got)))
    (c.write_run.ensures ∙ ap (λ (v : List Bool). written v out) (sym (ap decoded_record got))) in
    record { result_value = both.0; out_after = both.1 }
