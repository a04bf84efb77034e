-- `lines::node_line` meets its contract: six numbers and the word of the kind, one after the other. Assumes nothing.
use Rattle.std.proofs.Common.{◌≡◌, ℕ, zero, suc, [], ◌∷◌, ◌++◌, Result, Ok, Err, refl, ap, ◌∙◌, arith}
use Rattle.std.specs.Result.{result_unwrap_or}
use Rattle.tables.specs.declared.Kind.{Kind}
use Rattle.tables.specs.declared.UnknownKind.{UnknownKind}
use Rattle.tables.specs.Kinds.{kind_no, Decodes}
use Rattle.lines_digits.specs.declared.Text.{Text}
use Rattle.lines_digits.specs.Report.{ascii, decimal, kind_word}
use Rattle.lines_digits.specs.Buffer.{Wrote}
use Rattle.lines_digits.proofs.Decimals.{rooms}
use Rattle.lines_digits.proofs.Puts.{text_then, text_as}
use Rattle.lines.proofs.node_line.Goals as goal

-- A number that is no kind's has the word of a product.
word_told : (n : ℕ) (r : Result Kind UnknownKind) → Decodes n r → kind_word (kind_no (result_unwrap_or r Kind.Product)) ≡ kind_word n
word_told n (Ok k) d = ap kind_word d
word_told zero (Err e) d = absurd (omega arith)
word_told (suc zero) (Err e) d = absurd (omega arith)
word_told (suc (suc n)) (Err e) d = refl

-- A number under another name, and the byte after it.
number_as : (m n stop : ℕ) {a b : Text} → Wrote a (decimal m ++ (stop ∷ [])) b → m ≡ n → Wrote a (decimal n ++ (stop ∷ [])) b
number_as m n stop w e = text_as (ap (λ k. decimal k ++ (stop ∷ [])) e) w

pub returns : goal.returns
returns c =
    let row = c.args.row in
    let word = ap (λ k. kind_word (kind_no k)) c.unwrap_or.ensures ∙ word_told row.kind c.try_from.result c.try_from.ensures in
    let kind = text_as (ap (λ w. w ++ ascii " ") word) c.kind.ensures in
    text_then (number_as _ row.node 32 c.number.ensures (omega arith)) (omega (arith, rooms))
    (text_then kind (omega (arith, rooms))
    (text_then (number_as _ row.width 32 c.number-2.ensures (omega arith)) (omega (arith, rooms))
    (text_then (number_as _ row.size 32 c.number-3.ensures (omega arith)) (omega (arith, rooms))
    (text_then (number_as _ row.padded 32 c.number-4.ensures (omega arith)) (omega (arith, rooms))
    (text_then (number_as _ row.class 32 c.number-5.ensures (omega arith)) (omega (arith, rooms))
    (number_as _ row.least 10 c.number-6.ensures (omega arith)))))))
