use Rattle.std.proofs.Common.{refl}
use Rattle.command_io.specs.Lines.{seen_line}
use Rattle.office_program.specs.Between.{desk_of}
use Rattle.office_program.specs.Entering.Lines.{reporting_of}
use Rattle.office_program.proofs.EnteringLemmas.Asked.{line_cut, line_faulty, line_taken}
use Rattle.office_program.proofs.entering.asking.enter_line.Goals as goal

pub returns-in-Ok-enter_entry-clause-enters : goal.returns-in-Ok-enter_entry-clause-enters
returns-in-Ok-enter_entry-clause-enters g c = λ past stands clean.
    line_taken g.B.Books.ledger (reporting_of g.F.NamedFiles c.args.files.now) c.args.caller.now (seen_line c.args.line) past c.args.progress c.in-Ok-enter_entry.next
    (desk_of g.B.Books g.C.Clock g.W.Write c.args.office.now c.args.clock.now c.args.output.now)
    (desk_of g.B.Books g.C.Clock g.W.Write c.enter_entry.new.office c.enter_entry.new.clock c.enter_entry.new.output) c.args.office.now c.enter_entry.new.office
    c.in-Ok.entry c.in-Ok.ensures (c.in-Ok-enter_entry.ensures.enters past stands clean)

pub returns-in-Err-enter_entry-clause-enters : goal.returns-in-Err-enter_entry-clause-enters
returns-in-Err-enter_entry-clause-enters g c = λ past stands clean.
    line_cut g.B.Books.ledger (reporting_of g.F.NamedFiles c.args.files.now) c.args.caller.now (seen_line c.args.line) past c.args.progress
    (desk_of g.B.Books g.C.Clock g.W.Write c.args.office.now c.args.clock.now c.args.output.now)
    (desk_of g.B.Books g.C.Clock g.W.Write c.enter_entry.new.office c.enter_entry.new.clock c.enter_entry.new.output) c.args.office.now c.enter_entry.new.office
    c.in-Ok.entry _ c.in-Ok.ensures (c.in-Err-enter_entry.ensures.enters past stands clean)

pub returns-in-Err-clause-enters : goal.returns-in-Err-clause-enters
returns-in-Err-clause-enters g c = λ past stands clean.
    line_faulty g.B.Books.ledger (reporting_of g.F.NamedFiles c.args.files.now) c.args.caller.now (seen_line c.args.line) past c.args.progress
    (desk_of g.B.Books g.C.Clock g.W.Write c.args.office.now c.args.clock.now c.args.output.now)
    (desk_of g.B.Books g.C.Clock g.W.Write c.args.office.now c.args.clock.now c.print_one_fault.new.output) c.args.office.now c.args.office.now
    c.in-Err.fault c.print_one_fault.result (record { office = refl; moments = refl; failures = refl }) c.in-Err.ensures c.print_one_fault.ensures
