-- A lent buffer that text is written to.
--
--   put                         the buffer with a text at an offset; what lies before and after stays
--   PutAt                       a text was written, and this is the offset after it
--   Printed                     a text was written at the front, and this is its length
--   HasRoom Wrote               a lent buffer holds so many bytes more; a text was written behind what stood there
use Rattle.std.specs.Prelude.{ℕ, ◌+◌, ◌≤◌, ◌≡◌, List, ◌++◌, length, take, drop}
use Rattle.lines_digits.specs.declared.Text.{Text}

-- The buffer with a text at an offset.
abbrev pub put : List ℕ → ℕ → List ℕ → List ℕ
put out at text = take at out ++ text ++ drop (at + length text) out

-- A text was written at an offset: the buffer before and after, and the offset after the text.
pub record PutAt (before : List ℕ) (at : ℕ) (text after : List ℕ) (next : ℕ) : Type 0 where
  pub ends : next ≡ at + length text
  pub holds : after ≡ put before at text

-- A text was written from the front of a buffer: how many bytes it is, and the buffer before and after.
pub record Printed (before text after : List ℕ) (count : ℕ) : Type 0 where
  pub counts : count ≡ length text
  pub holds : after ≡ text ++ drop (length text) before

-- So many bytes more can be written.
abbrev pub HasRoom : Text → ℕ → Type 0
HasRoom t n = t.len + n ≤ length t.out.now

-- A text was written behind what stood there, into the same buffer.
pub record Wrote (before : Text) (text : List ℕ) (after : Text) : Type 0 where
  pub same_buffer : after.out.ghost_name ≡ before.out.ghost_name
  pub same_length : length after.out.now ≡ length before.out.now
  pub written : PutAt before.out.now before.len text after.out.now after.len
