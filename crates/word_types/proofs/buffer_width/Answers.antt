-- `word_types::buffer_width` meets its contract. Assumes nothing.
use Rattle.word_types.proofs.Shaped.{no_buffer_width, buffer_width_told}
use Rattle.word_types.proofs.buffer_width.Goals as goal

pub returns-then-n-ge-BUFFERS : goal.returns-then-n-ge-BUFFERS
returns-then-n-ge-BUFFERS c =
    no_buffer_width c.args.n c.if-n-ge-BUFFERS.true

pub returns : goal.returns
returns c =
    buffer_width_told c.args.n c.if-n-ge-BUFFERS.false c.buffer_width.result c.buffer_width.ensures
