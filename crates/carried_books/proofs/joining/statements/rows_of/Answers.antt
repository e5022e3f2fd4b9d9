use Rattle.std.proofs.Common.{List, [], ◌∷◌, ◌++◌, take, sym, ap, ◌∙◌}
use Rattle.std.proofs.lemmas.List.{take_more}
use Rattle.energy_report.specs.declared.meter_statement.MeterStatement.{MeterStatement}
use Rattle.carried_books.specs.Joining.Statements.{rows_of_those}
use Rattle.carried_books.specs.declared.joining.kept_meters.KeptMeter.{KeptMeter}
use Rattle.carried_books.proofs.JoiningLemmas.Statements.{rows_both}
use Rattle.carried_books.proofs.joining.statements.rows_of.Goals as goal

pub loop-one-preserved : goal.loop-one-preserved
loop-one-preserved c =
    let zone = c.args.zone.now in
    let range = c.args.range.now in
    let known = c.args.known.now in
    let i = c.loop-one.one-index in
    let one = c.one-item.result in
    let before = take i known in
    c.in_ok-add_part_statement.ensures
    ∙ ap (λ (rows : List MeterStatement). rows ++ rows_of_those zone range (one ∷ [])) c.loop-one.invariant
    ∙ sym (rows_both zone range before (one ∷ []))
    ∙ ap (rows_of_those zone range) (ap (λ (k : KeptMeter). before ++ k ∷ []) c.one-item.is ∙ sym (take_more known i one c.loop-one-test.true))
