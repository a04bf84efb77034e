-- The text of a report: document 01, "Samples", and document 02, K1. Every line ends in one newline.
--
--   ascii                       the bytes of a text
--   digit_of digits             the digit of a number below ten; a number of at most k digits
--   decimal                     a number in decimal digits, without leading zeros
--   line                        words with a space between them, and a newline
--   kind_word                   the word of a kind
--   head_line node_line         the first line, and the line of a node
--   refusal_line                the line of a refusal
--   lines_to report_text        the lines of the first n nodes; the first line and those of the nodes
--   line_in groups_text         the line of a node and the report of a table, as kinds and groups have them
--   facts_line table_text       the line of a node and the report of a table, by the trees of its nodes
--   reading_text file_text      the report of what was read of a file, and of a file
use Rattle.std.specs.Prelude.{ℕ, zero, suc, ◌+◌, ◌/◌, ◌%◌, cond, List, [], ◌∷◌, ◌++◌, length, get_or, ltb}
use Prim.Native.Char.{code}
use Prim.Native.String as string
use Prim.Native.String.{String}
use Rattle.meaning.specs.Tables.{Columns, Facts, facts_in, NodeFacts, facts_at, digit}
use Rattle.meaning.specs.Files.{Reading, faulty, found, Entry, table_in, columns_of}

-- The bytes of a text of plain characters.
abbrev pub ascii : String → List ℕ
ascii string.[] = []
ascii (string.◌∷◌ c s) = code c ∷ ascii s

-- The digit of a number below ten.
abbrev pub digit_of : ℕ → ℕ
digit_of n = code "0" + n

-- A number of at most k digits: below ten it is one, else the last follows those of the tenth part.
unfoldable pub digits : ℕ → ℕ → List ℕ
digits zero n = []
digits (suc k) n = cond (ltb n 10) (digit_of n ∷ []) (digits k (n / 10) ++ (digit_of (n % 10) ∷ []))

-- A 64-bit number in decimal: it has at most twenty digits.
abbrev pub decimal : ℕ → List ℕ
decimal n = digits 20 n

-- A line: words with one space between them, and a newline.
abbrev pub line : List (List ℕ) → List ℕ
line [] = ascii "\n"
line (w ∷ []) = w ++ ascii "\n"
line (w ∷ v ∷ ws) = w ++ ascii " " ++ line (v ∷ ws)

-- How many nodes there are.
abbrev pub head_line : ℕ → List ℕ
head_line n = line (ascii "nodes" ∷ decimal n ∷ [])

-- The word of a kind.
abbrev pub kind_word : ℕ → List ℕ
kind_word zero = ascii "unit"
kind_word (suc zero) = ascii "sum"
kind_word (suc (suc k)) = ascii "product"

-- A node: its number, kind, width, size, whether it is padded, its class, and its least compact length.
abbrev pub node_line : ℕ → ℕ → ℕ → ℕ → ℕ → ℕ → ℕ → List ℕ
node_line k kind width size padded class least =
    line (decimal k ∷ kind_word kind ∷ decimal width ∷ decimal size ∷ decimal padded ∷ decimal class ∷ decimal least ∷ [])

-- A refusal: its number and place.
abbrev pub refusal_line : ℕ → ℕ → List ℕ
refusal_line number place = line (ascii "refused" ∷ decimal number ∷ ascii "at" ∷ decimal place ∷ [])

-- The lines of the first n nodes.
unfoldable pub lines_to : (ℕ → List ℕ) → ℕ → List ℕ
lines_to line_of zero = []
lines_to line_of (suc n) = lines_to line_of n ++ line_of n

-- The report of n nodes.
abbrev pub report_text : (ℕ → List ℕ) → ℕ → List ℕ
report_text line_of n = head_line n ++ lines_to line_of n

-- The line of a node, as the kinds and the facts have it.
abbrev pub line_in : List ℕ → Facts → ℕ → List ℕ
line_in kinds f k =
    node_line k (get_or kinds k 0) (get_or f.widths k 0) (get_or f.sizes k 0) (get_or f.paddeds k 0) (get_or f.classes k 0) (get_or f.leasts k 0)

-- The report of a table, as its kinds and the groups of its facts have it.
abbrev pub groups_text : List ℕ → List ℕ → ℕ → List ℕ
groups_text kinds groups n = report_text (line_in kinds (facts_in groups)) n

-- The line of a node by what a table says of it.
abbrev pub facts_line : ℕ → NodeFacts → List ℕ
facts_line k f = node_line k f.kind_of f.width_of f.size_of (digit f.padded_of) f.class_no f.least_of

-- The report of a table by the trees of its nodes.
abbrev pub table_text : Columns → ℕ → List ℕ
table_text c n = report_text (λ k. facts_line k (facts_at c k)) n

-- The report of what was read of a file: a faulty one is an unsound table, which is refusal 1.
abbrev pub reading_text : Reading (List Entry) → List ℕ
reading_text (faulty p) = refusal_line 1 p
reading_text (found es at) = table_text (columns_of es) (length es)

-- The report of a file.
unfoldable pub file_text : List ℕ → List ℕ
file_text file = reading_text (table_in file)
