use Rattle.std.proofs.Common.{◌≡◌, ◌+◌, ◌++◌, List, ℕ, length, take, sym, ap, ◌∙◌, arith}
use Rattle.std.proofs.lemmas.Bool.{ne_eqb}
use Rattle.std.proofs.lemmas.List.{take_all}
use Rattle.script_text.proofs.Got.{appends_both, got_both, got_first}
use Rattle.energy_report.specs.StatementTexts.{begun_text, lead, opening, row_text}
use Rattle.energy_report.specs.Texts.{ending_by}
use Rattle.energy_report.proofs.StatementLemmas.{from_opening, from_row, next, piece, rest, tail}
use Rattle.energy_report.proofs.TextLemmas.{following}
use Rattle.energy_report.proofs.statement_text.write_statement.Goals as goal

pub returns-in_err-take_text : goal.returns-in_err-take_text
returns-in_err-take_text g c =
    let form = c.args.form.now in
    let rows = c.args.rows.now in
    let said : c.bytes.result.now ≡ opening form = c.bytes.ensures ∙ c.opening_page.ensures in
    got_first c.from_residual.result _ _ c.bytes.result.now (rest form rows) _ c.from_residual.ensures.0 c.in_err-take_text.ensures.bytes
    (ap (λ (text : List ℕ). text ++ rest form rows) said ∙ from_opening form rows)

pub returns-in_err-take_text-2 : goal.returns-in_err-take_text-2
returns-in_err-take_text-2 g c =
    let form = c.args.form.now in
    let rows = c.args.rows.now in
    let i = c.loop-row.row-index in
    let row = c.row-item.result in
    let begun = begun_text form (take i rows) in
    let said : c.bytes-in-loop-row.result.now ≡ piece form i row =
    c.bytes-in-loop-row.ensures ∙ c.row_page.ensures ∙ ap (λ b. lead b form ++ row_text form row) c.loop-row.invariant.first in
    got_first c.from_residual-in_err-take_text-2.result _ _ (begun ++ c.bytes-in-loop-row.result.now) (tail form rows i) _
    c.from_residual-in_err-take_text-2.ensures.0
    (following begun c.bytes-in-loop-row.result.now _ _ _ c.loop-row.invariant.text c.in_err-take_text-2.ensures.bytes)
    (ap (λ (text : List ℕ). (begun ++ text) ++ tail form rows i) said ∙ from_row form rows i row c.loop-row-test.true c.row-item.is)

pub loop-row-preserved : goal.loop-row-preserved
loop-row-preserved g c =
    let form = c.args.form.now in
    let rows = c.args.rows.now in
    let i = c.loop-row.row-index in
    let row = c.row-item.result in
    let begun = begun_text form (take i rows) in
    let said : c.bytes-in-loop-row.result.now ≡ piece form i row =
    c.bytes-in-loop-row.ensures ∙ c.row_page.ensures ∙ ap (λ b. lead b form ++ row_text form row) c.loop-row.invariant.first in
    record {
      text = appends_both _ _ _ begun c.bytes-in-loop-row.result.now _ c.loop-row.invariant.text c.in_ok-take_text-2.ensures.bytes
          (ap (λ (text : List ℕ). begun ++ text) said ∙ next form rows i row c.loop-row-test.true c.row-item.is);
      first = sym (ne_eqb (i + 1) 0 (λ e. omega (arith, e)));
    }

pub returns : goal.returns
returns g c =
    let form = c.args.form.now in
    let rows = c.args.rows.now in
    let i = c.loop-row.row-index in
    let begun = begun_text form (take i rows) in
    let said : c.bytes-2.result.now ≡ ending_by form.format (length rows) = c.bytes-2.ensures ∙ c.ending_page.ensures in
    got_both c.take_text-2.result _ _ _ begun c.bytes-2.result.now _ c.loop-row.invariant.text c.take_text-2.ensures.bytes
    (ap (λ (text : List ℕ). begun ++ text) said
    ∙ ap (λ those. begun_text form those ++ ending_by form.format (length rows)) (take_all i rows c.loop-row-test.false))
