-- `shapes::buffer_width` meets its contract: the closed form of a buffer's width. Assumes nothing.
use Prim.Native.Nat.{ℕ, ◌^◌, ◌≤◌, ◌<◌}
use mathlib.Core.Path.{◌≡◌, ◌∙◌}
use native.Mathlib.Omega.{arith}
use lib.ListN.{get_or}
use Rattle.meaning.specs.Words.{word_widths}
use Rattle.meaning.proofs.Powers.{pow_twelve}
use Rattle.meaning.proofs.WordWidths.{word-widths}
use Rattle.meaning.proofs.Buffers.{bits_buffer}
use Rattle.shapes.proofs.buffer_width.Goals as goal

-- The word's width is 2 to the n, which is small.
small : (n w : ℕ) → n < 13 → w ≡ get_or word_widths n 0 → (w ≡ 2 ^ n) × ((1 ≤ 2 ^ n) × (2 ^ n ≤ 4096))
small n w h e = (e ∙ word-widths n (omega arith), pow_twelve n (omega arith))

pub overflow_mul-result : goal.overflow_mul-result
overflow_mul-result c =
    let p = small _ _ c.requires c.word_width.ensures in omega arith

pub overflow_add-result : goal.overflow_add-result
overflow_add-result c =
    let p = small _ _ c.requires c.word_width.ensures in omega arith

pub overflow_sub-result : goal.overflow_sub-result
overflow_sub-result c =
    let p = small _ _ c.requires c.word_width.ensures in omega arith

pub returns : goal.returns
returns c =
    let p = small _ _ c.requires c.word_width.ensures in let b = bits_buffer c.args.n in omega arith
