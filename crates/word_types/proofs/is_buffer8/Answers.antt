-- `word_types::is_buffer8` meets its contract: the range of n is tested after the node. Assumes nothing.
use mathlib.Core.Path.{ap, ◌∙◌}
use mathlib.Core.List.{[], ◌∷◌}
use lib.Dec.{ltb}
use Rattle.meaning.specs.Types.{same}
use Rattle.meaning.specs.Tables.{Table}
use Rattle.meaning.specs.Words.{buffer}
use Rattle.meaning.specs.Ladder.{type_at, ranged}
use Rattle.answers.proofs.Exits.{handed_on}
use Rattle.checked.proofs.Handed.{checked_present}
use Rattle.checked_present.proofs.Asking.{asks_stop}
use Rattle.word_types.proofs.Shaped.{no_buffer, buffer_told}
use Rattle.word_types.proofs.is_buffer8.Goals as goal

pub returns-in_err-checked : goal.returns-in_err-checked
returns-in_err-checked c =
    let a = c.args in
    handed_on (λ b. b) _ _ c.from_residual.ensures.1 _
    (asks_stop a.table.now (a.node ∷ []) (ranged (ltb a.n 13)) (same (type_at a.table.now a.node) (buffer a.n)) _ _ c.in_err-checked.ensures.answer)

pub returns-then-n-ge-BUFFERS : goal.returns-then-n-ge-BUFFERS
returns-then-n-ge-BUFFERS c =
    no_buffer c.args.table.now c.args.node c.in_ok-checked.ensures.answer c.args.n c.if-n-ge-BUFFERS.true

pub is_buffer-requires : goal.is_buffer-requires
is_buffer-requires c =
    record {
      node_lt_count = (checked_present c.args.table.now _ c.in_ok-checked.ensures.same (c.args.node ∷ []) c.in_ok-checked.ensures.answer).0.here;
      n_bound = c.if-n-ge-BUFFERS.false;
    }

pub returns : goal.returns
returns c =
    let a = c.args in
    buffer_told a.table.now a.node c.in_ok-checked.ensures.answer a.n c.if-n-ge-BUFFERS.false _
    (c.is_buffer.ensures ∙ ap (λ (t : Table). same (type_at t a.node) (buffer a.n)) c.in_ok-checked.ensures.same)
