-- What is left of a list, and what stands in it.
use Rattle.std.proofs.Common.{◌≡◌, ℕ, List, [], ◌∷◌, ◌++◌, length, sym, ap, ◌∙◌, append_assoc}
use Rattle.lists.specs.Parts.{EndsWith, HasPart, IsRun}

infixl 50 ◌▸◌
-- All of it is left.
pub ends_here : (list rest : List ℕ) → rest ≡ list → EndsWith list rest
ends_here list rest same = record { front = []; whole = sym same }

-- What stands behind a byte.
pub ends_byte : (byte : ℕ) (list rest : List ℕ) → list ≡ byte ∷ rest → EndsWith list rest
ends_byte byte list rest whole = record { front = byte ∷ []; whole = whole }

-- What stands behind some bytes.
pub ends_bytes : (bytes list rest : List ℕ) → list ≡ bytes ++ rest → EndsWith list rest
ends_bytes bytes list rest whole = record { front = bytes; whole = whole }

-- An end of an end.
pub ◌▸◌ : {list rest end : List ℕ} → EndsWith list rest → EndsWith rest end → EndsWith list end
◌▸◌ {end = end} first next = record {
  front = first.front ++ next.front;
  whole = first.whole ∙ ap (λ rest. first.front ++ rest) next.whole ∙ sym (append_assoc first.front next.front end);
}

-- A run stands in its list.
pub run_within : (list run rest : List ℕ) → IsRun list run rest → HasPart list run
run_within list run rest is = record { before = length is.0 ∷ is.0; after = rest; whole = is.1 }

-- A part of an end.
pub part_later : {list rest part : List ℕ} → EndsWith list rest → HasPart rest part → HasPart list part
part_later {part = part} left within = record {
  before = left.front ++ within.before;
  after = within.after;
  whole = left.whole ∙ ap (λ rest. left.front ++ rest) within.whole ∙ sym (append_assoc left.front within.before (part ++ within.after));
}
