use Rattle.std.proofs.Common.{Ok, Err, refl}
use Rattle.command_io.specs.declared.status.ExitStatus.TheVariants.{Fine}
use Rattle.energy_report.specs.StatementTexts.{statement_text}
use Rattle.office_program.proofs.StatementLemmas.{only_asked, written_so}
use Rattle.office_program.proofs.texts.statement.report_statement.Goals as goal

pub returns-in-Ok-clause-prints : goal.returns-in-Ok-clause-prints
returns-in-Ok-clause-prints g c = λ past stands clean.
    let form = c.args.form.now in
    let rows = c.in-Ok.rows.items in
    record {
      text = statement_text form rows;
      meant = Fine;
      prints = record { reply = Ok rows; answer = c.in-Ok.ensures.reports past stands clean; is = refl; means = refl };
      reported = written_so c.write_statement-written.result (statement_text form rows) Fine c.ended.result _ _ c.ended.ensures
          (rw c.deref.ensures.value at c.write_statement-written.ensures);
    }

pub returns-in-Ok-clause-asks : goal.returns-in-Ok-clause-asks
returns-in-Ok-clause-asks g c = only_asked g.B.Books.ledger c.args.office.now c.statements.new.office (Ok c.in-Ok.rows) c.in-Ok.ensures.asks

pub returns-in-Err-clause-asks : goal.returns-in-Err-clause-asks
returns-in-Err-clause-asks g c = only_asked g.B.Books.ledger c.args.office.now c.statements.new.office (Err c.in-Err.why) c.in-Err.ensures.asks
