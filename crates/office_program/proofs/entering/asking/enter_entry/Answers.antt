use Rattle.std.proofs.Common.{refl}
use Rattle.office_program.specs.Between.{desk_of}
use Rattle.office_program.specs.Entering.Lines.{reporting_of}
use Rattle.office_program.proofs.EnteringLemmas.Asked.{asked_come, faulty}
use Rattle.office_program.proofs.entering.asking.enter_entry.Goals as goal

pub returns-in-Ask-clause-enters : goal.returns-in-Ask-clause-enters
returns-in-Ask-clause-enters g c = λ past stands clean.
    rw c.in-Ask.is
    (asked_come g.B.Books.ledger (reporting_of g.F.NamedFiles c.args.files.now) c.in-Ask.asked past c.args.progress
    (desk_of g.B.Books g.C.Clock g.W.Write c.args.office.now c.args.clock.now c.args.output.now)
    (desk_of g.B.Books g.C.Clock g.W.Write c.ask.new.office c.moment-at.new.clock c.ask.new.output) c.ask.new.office c.ask.result
    (c.ask.ensures.enters _ _ c.moment-at.ensures past stands clean))

pub returns-in-Read-clause-enters : goal.returns-in-Read-clause-enters
returns-in-Read-clause-enters g c = λ past stands clean. rw c.in-Read.is (c.read_and_ask.ensures.enters _ _ c.moment-at-in-Read.ensures past stands clean)

pub returns-in-Faulty-clause-enters : goal.returns-in-Faulty-clause-enters
returns-in-Faulty-clause-enters g c = λ past stands clean.
    rw c.in-Faulty.is
    (faulty g.B.Books.ledger (reporting_of g.F.NamedFiles c.args.files.now) past c.args.progress
    (desk_of g.B.Books g.C.Clock g.W.Write c.args.office.now c.args.clock.now c.args.output.now)
    (desk_of g.B.Books g.C.Clock g.W.Write c.args.office.now c.args.clock.now c.print_list_faults.new.output) c.args.office.now c.in-Faulty.faults c.rows.result.now
    c.print_list_faults.result stands refl refl c.rows.ensures c.print_list_faults.ensures.text c.print_list_faults.ensures.next)
