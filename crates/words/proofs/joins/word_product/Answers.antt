-- `words::joins::word_product` meets its contract: the first rungs, and what they let pass. Assumes nothing.
use mathlib.Core.Path.{sym}
use mathlib.Core.List.{[], ◌∷◌}
use Rattle.answers.proofs.Exits.{handed_on}
use Rattle.meaning.specs.Words.{joins}
use Rattle.meaning.specs.Ladder.{record_of, type_at, shaped}
use Rattle.meaning.specs.RecordCalls.{handed, product_bits}
use Rattle.checked.proofs.Handed.{checked_held}
use Rattle.checked.proofs.Made.{first_stopped}
use Rattle.words.proofs.joins.word_product.Goals as goal

pub returns-in_err-checked : goal.returns-in_err-checked
returns-in_err-checked c =
    let a = c.args in
    let t = a.table.now in
    let one = record_of a.a_bytes.now a.a_offset a.a_node in
    let other = record_of a.b_bytes.now a.b_offset a.b_node in
    let both =
    first_stopped (handed t (one ∷ other ∷ []) (a.res ∷ [])) (shaped (joins (type_at t a.a_node) (type_at t a.b_node) (type_at t a.res)))
    (product_bits t one other) a.out.now _ _ (sym c.in_err-checked.ensures.answer) in
    record { result_value = handed_on (λ n. n) _ _ c.from_residual.ensures.1 _ both.0; out_after = both.1 }

pub join_words-requires : goal.join_words-requires
join_words-requires c =
    let a = c.args in
    let one = record_of a.a_bytes.now a.a_offset a.a_node in
    let other = record_of a.b_bytes.now a.b_offset a.b_node in
    let p = checked_held a.table.now _ c.in_ok-checked.ensures.same (one ∷ other ∷ []) (a.res ∷ []) c.in_ok-checked.ensures.answer in
    record { held = p.0.0; held_2 = p.0.1.0; named = p.1.0 }
