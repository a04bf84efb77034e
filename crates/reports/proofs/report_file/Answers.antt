-- The kinds and the groups that `read_table` leaves, or its refusal, have the report of the file.
use Rattle.std.proofs.Common.{◌≡◌, ℕ, List, sym, ◌∙◌, ap, subst, arith}
use Rattle.meaning.specs.Ladder.{accepted, refused}
use Rattle.meaning.specs.TypeCalls.{read_table_call, read_table_columns_out, read_table_groups_out}
use Rattle.lines_digits.specs.Report.{groups_text, refusal_line, file_text}
use Rattle.lines_digits.specs.Buffer.{Printed}
use Rattle.lines.proofs.Texts.{accepted_text, refused_text}
use Rattle.reports.proofs.Room.{zero_columns, zero_groups, only_faults, few}
use Rattle.reports.proofs.report_file.Goals as goal

told : (file ks gs : List ℕ) (n : ℕ)
    → accepted n ≡ read_table_call file zero_columns zero_groups
    → ks ≡ (read_table_columns_out file zero_columns zero_groups).kinds
    → gs ≡ read_table_groups_out file zero_columns zero_groups
    → groups_text ks gs n ≡ file_text file
told file ks gs n e k g =
    (λ i. groups_text (k i) (g i) n) ∙ accepted_text file zero_columns zero_groups n (few file n e) (sym e)

refusal : (file : List ℕ) (n p : ℕ) → refused n p ≡ read_table_call file zero_columns zero_groups → refusal_line n p ≡ file_text file
refusal file n p e =
    let one = only_faults file n p e in
    ap (λ (m : ℕ). refusal_line m p) one
    ∙ refused_text file zero_columns zero_groups p (sym e ∙ ap (λ (m : ℕ). refused m p) one)

pub report-requires : goal.report-requires
report-requires c =
    let n = few c.args.file.now c.in-Ok.count c.in-Ok.ensures.result_value in
    record { room = omega arith; kinds_reach = omega arith; groups-reach = omega arith }

pub returns-in-Ok : goal.returns-in-Ok
returns-in-Ok c =
    subst (λ (t : List ℕ). Printed c.args.out.now t c.report.new.out c.report.result)
    (told c.args.file.now c.read_table.new.kinds c.read_table.new.groups c.in-Ok.count
    c.in-Ok.ensures.result_value c.in-Ok.ensures.kinds_after c.in-Ok.ensures.groups_after)
    c.report.ensures

pub returns-in-Err : goal.returns-in-Err
returns-in-Err c =
    subst (λ (t : List ℕ). Printed c.args.out.now t c.refusal_line.new.out c.refusal_line.result)
    (refusal c.args.file.now c.number.result c.place.result
    (rw (c.number.ensures, c.place.ensures) c.in-Err.ensures.result_value))
    c.refusal_line.ensures
