use Rattle.std.proofs.Common.{sym, subst}
use Rattle.office_program.specs.Entering.Lines.{reporting_of}
use Rattle.stored_office.specs.Tasks.Tasks.{Does}
use Rattle.stored_office.specs.declared.tasks.tasks.Task.{Task}
use Rattle.stored_office.specs.declared.tasks.tasks.Done.TheVariants.{Reported, Served, Entered, Polled, Ran}
use Rattle.stored_office.proofs.tasks.tasks.carry_out.Goals as goal

pub returns-in-Report-clause-does : goal.returns-in-Report-clause-does
unfolding Does
returns-in-Report-clause-does g c = λ past stands clean.
    let P : Task → Type 0 = λ t. Does g.B.Books.ledger (reporting_of g.F.NamedFiles c.args.files.now) past (g.C.Clock.moments c.args.clock.now) (g.C.Clock.moments c.report_books-done.new.clock)
    (g.W.Write.contents c.args.output.now) (g.W.Write.contents c.report_books-done.new.output) c.args.books c.report_books-done.result.books t (Reported c.report_books-done.result.end) in
    subst P (sym c.in-Report.is) (c.report_books-done.ensures.reports past stands clean)

pub returns-in-ReportRange-clause-does : goal.returns-in-ReportRange-clause-does
unfolding Does
returns-in-ReportRange-clause-does g c = λ past stands clean.
    let P : Task → Type 0 = λ t. Does g.B.Books.ledger (reporting_of g.F.NamedFiles c.args.files.now) past (g.C.Clock.moments c.args.clock.now) (g.C.Clock.moments c.report_range_books-done.new.clock)
    (g.W.Write.contents c.args.output.now) (g.W.Write.contents c.report_range_books-done.new.output) c.args.books c.report_range_books-done.result.books t (Reported c.report_range_books-done.result.end) in
    subst P (sym c.in-ReportRange.is) (c.report_range_books-done.ensures.reports past stands clean)

pub returns-in-Statement-clause-does : goal.returns-in-Statement-clause-does
unfolding Does
returns-in-Statement-clause-does g c = λ past stands clean.
    let P : Task → Type 0 = λ t. Does g.B.Books.ledger (reporting_of g.F.NamedFiles c.args.files.now) past (g.C.Clock.moments c.args.clock.now) (g.C.Clock.moments c.statement_books-done.new.clock)
    (g.W.Write.contents c.args.output.now) (g.W.Write.contents c.statement_books-done.new.output) c.args.books c.statement_books-done.result.books t (Reported c.statement_books-done.result.end) in
    subst P (sym c.in-Statement.is) (c.statement_books-done.ensures.reports past stands clean)

pub returns-in-Serve-clause-does : goal.returns-in-Serve-clause-does
unfolding Does
returns-in-Serve-clause-does g c = λ past stands clean.
    let P : Task → Type 0 = λ t. Does g.B.Books.ledger (reporting_of g.F.NamedFiles c.args.files.now) past (g.C.Clock.moments c.args.clock.now) (g.C.Clock.moments c.serve_books-done.new.clock)
    (g.W.Write.contents c.args.output.now) (g.W.Write.contents c.serve_books-done.new.output) c.args.books c.serve_books-done.result.books t (Served c.serve_books-done.result.end) in
    subst P (sym c.in-Serve.is) (c.serve_books-done.ensures.reports past stands clean)

pub returns-in-Enter-clause-does : goal.returns-in-Enter-clause-does
unfolding Does
returns-in-Enter-clause-does g c = λ past stands clean.
    let P : Task → Type 0 = λ t. Does g.B.Books.ledger (reporting_of g.F.NamedFiles c.args.files.now) past (g.C.Clock.moments c.args.clock.now) (g.C.Clock.moments c.enter_books-done.new.clock)
    (g.W.Write.contents c.args.output.now) (g.W.Write.contents c.enter_books-done.new.output) c.args.books c.enter_books-done.result.books t (Entered c.enter_books-done.result.end) in
    subst P (sym c.in-Enter.is) (c.enter_books-done.ensures.reports past stands clean)

pub returns-in-Round-clause-does : goal.returns-in-Round-clause-does
unfolding Does
returns-in-Round-clause-does g c = λ past stands clean.
    let P : Task → Type 0 = λ t. Does g.B.Books.ledger (reporting_of g.F.NamedFiles c.args.files.now) past (g.C.Clock.moments c.args.clock.now) (g.C.Clock.moments c.poll_books-done.new.clock)
    (g.W.Write.contents c.args.output.now) (g.W.Write.contents c.poll_books-done.new.output) c.args.books c.say_lacks.new.books t (Polled c.poll_books-done.result.end) in
    subst P (sym c.in-Round.is) (
      c.poll_books-done.result.books,
      c.poll_books-done.ensures.reports past stands (c.say_lacks.ensures.looks.clean clean),
      c.say_lacks.ensures.looks,
    )

pub returns-in-Run-clause-does : goal.returns-in-Run-clause-does
unfolding Does
returns-in-Run-clause-does g c = λ past stands clean.
    let P : Task → Type 0 = λ t. Does g.B.Books.ledger (reporting_of g.F.NamedFiles c.args.files.now) past (g.C.Clock.moments c.args.clock.now) (g.C.Clock.moments c.run_office-done.new.clock)
    (g.W.Write.contents c.args.output.now) (g.W.Write.contents c.run_office-done.new.output) c.args.books c.run_office-done.result.books t (Ran c.run_office-done.result.end) in
    subst P (sym c.in-Run.is) (c.run_office-done.ensures.books past stands clean)
