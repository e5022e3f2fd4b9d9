use Rattle.std.proofs.Common.{ap, ◌∙◌}
use Rattle.energy_report.specs.StatementTexts.{statement_text}
use Rattle.carried_books.specs.Joining.Statements.{rows_of_those}
use Rattle.carried_books.proofs.JoiningLemmas.Statements.{rows_reported}
use Rattle.carried_books.proofs.joining.statements.state_joined.Goals as goal

pub returns-clause-states : goal.returns-clause-states
returns-clause-states g c = λ zone register files has.
    let form = c.args.form.now in
    let rows = c.in_ok-rows.rows.items in
    record {
      text = statement_text form rows;
      is = (
        has.meters,
        has.are,
        ap (statement_text form)
            (c.in_ok-rows.ensures ∙ ap (λ its. rows_of_those its form.range c.deref.result.now) has.zone_is ∙ ap (rows_of_those zone form.range) c.deref.ensures.value
            ∙ rows_reported zone form.range c.args.joined.now.meters.items has.meters has.reported),
      );
      reported = rw c.deref-2.ensures.value at c.print_rows.ensures;
    }
