-- The hash state that a struct stands for.
--
--   state_of        the midstate, the count, the buffered bytes and how many of them are used
use Rattle.meaning.specs.Words as words
use Rattle.words_states.specs.declared.HashState.{HashState}

-- The parts of the struct, as the definitions name them.
abbrev pub state_of : HashState → words.HashState
state_of s = record { midstate = s.midstate; counted = s.count; buffered = s.buffer; used = s.used }
