-- `exports::buffers::hash_state` meets its contract: lengths out of range give a struct out of range, and other slices fill the struct's arrays.
-- Assumes nothing.
use borrow.Author.Rules.{rules}
use borrow.Author.Tests.{eq-eqb, ne_eqb, lt-leb}
use mathlib.Core.Path.{refl}
use lib.ListN.{length}
use Rattle.exports.proofs.States.{no_stand, stands, at_front}
use Rattle.exports.proofs.buffers.hash_state.Goals as goal

pub returns-then-midstate-ne32 : goal.returns-then-midstate-ne32
returns-then-midstate-ne32 c =
    let a = c.args in
    no_stand a.midstate.now a.bytes_hashed a.buffer.now c.no_state.result c.no_state.ensures
    (simp (ne_eqb (length a.midstate.now) 32 c.if-midstate-ne32.true))

pub returns-then-buffer-gt63 : goal.returns-then-buffer-gt63
returns-then-buffer-gt63 c =
    let a = c.args in
    no_stand a.midstate.now a.bytes_hashed a.buffer.now c.no_state-then-buffer-gt63.result c.no_state-then-buffer-gt63.ensures
    (simp (
      eq-eqb (length a.midstate.now) 32 c.if-midstate-ne32.false,
      lt-leb (length a.buffer.now) 63 c.if-buffer-gt63.true,
    ))

pub returns : goal.returns
returns c =
    let a = c.args in
    stands a.midstate.now a.bytes_hashed a.buffer.now _ (search rules) (search rules) c.copy_from_slice.ensures.after refl
    (at_front a.buffer.now _ _ c.copy_from_slice-2.ensures.after) refl
