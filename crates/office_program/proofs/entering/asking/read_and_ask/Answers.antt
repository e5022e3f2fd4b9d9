use Rattle.std.proofs.Common.{◌≡◌, Option, Ok, None, Some, subst, ◌∙◌}
use Rattle.office_core.specs.Taking.{failures_of}
use Rattle.office_program.specs.Rounds.{RoundState, round_state}
use Rattle.office_program.specs.Entering.Asking.{HasAsked}
use Rattle.office_program.specs.Entering.Lines.{reporting_of}
use Rattle.office_program.proofs.EnteringLemmas.Asked.{read_come, unknown, unread}
use Rattle.office_program.proofs.EnteringLemmas.Reading.{asked_on, found_as}
use Rattle.office_program.proofs.entering.asking.read_and_ask.Goals as goal

pub returns-in-Some-clause-enters : goal.returns-in-Some-clause-enters
returns-in-Some-clause-enters g c = λ moments later timed past stands clean.
    let was = c.ask.ensures.lasts.clean clean in
    let is = c.in-Ok.ensures.fills past stands was in
    let found = found_as (reporting_of g.F.NamedFiles c.args.files.now) past c.args.read c.in-Ok.found (Some c.in-Some.shown) _ _ c.in-Some.is is.reported in
    read_come g.B.Books.ledger (reporting_of g.F.NamedFiles c.args.files.now) c.args.read c.in-Some.shown c.asked.result past c.args.progress
    (round_state (g.W.Write.contents c.args.output.now) moments (failures_of g.B.Books.ledger c.args.office.now))
    (round_state (g.W.Write.contents c.ask.new.output) later (failures_of g.B.Books.ledger c.ask.new.office)) c.ask.new.office c.ask.result found.0 c.asked.ensures
    (asked_on g.B.Books.ledger c.asked.result past c.args.progress (g.W.Write.contents c.args.output.now) moments _ _
    (round_state (g.W.Write.contents c.ask.new.output) later (failures_of g.B.Books.ledger c.ask.new.office)) c.ask.new.office c.ask.result found.1
    (c.ask.ensures.enters moments later timed past is.stands clean))

pub returns-in-Some-clause-lasts : goal.returns-in-Some-clause-lasts
returns-in-Some-clause-lasts g c =
    let first = c.in-Ok.ensures.lasts in
    let second = c.ask.ensures.lasts in
    record { clean = λ clean. first.clean (second.clean clean); zone = second.zone ∙ first.zone }

pub returns-in-None-clause-enters : goal.returns-in-None-clause-enters
returns-in-None-clause-enters g c = λ moments later timed past stands clean.
    let is = c.in-Ok.ensures.fills past stands clean in
    let found = found_as (reporting_of g.F.NamedFiles c.args.files.now) past c.args.read c.in-Ok.found None _ _ c.in-None.is is.reported in
    unread g.B.Books.ledger (reporting_of g.F.NamedFiles c.args.files.now) c.args.read past c.args.progress
    (round_state (g.W.Write.contents c.args.output.now) moments (failures_of g.B.Books.ledger c.args.office.now))
    (round_state (g.W.Write.contents c.print_unread.new.output) later (failures_of g.B.Books.ledger c.shown_for.new.office)) c.shown_for.new.office c.args.at c.print_unread.result timed
    is.stands found.0 found.1 c.print_unread.ensures

pub returns-in-Err-clause-enters : goal.returns-in-Err-clause-enters
returns-in-Err-clause-enters g c = λ moments later timed past stands clean.
    let is = c.in-Err.ensures.fills past stands clean in
    unknown g.B.Books.ledger (reporting_of g.F.NamedFiles c.args.files.now) c.args.read past c.args.progress
    (round_state (g.W.Write.contents c.args.output.now) moments (failures_of g.B.Books.ledger c.args.office.now))
    (round_state (g.W.Write.contents c.print_undecided.new.output) later (failures_of g.B.Books.ledger c.shown_for.new.office)) c.shown_for.new.office c.args.at c.in-Err.why
    c.print_undecided.result timed is.stands is.reported c.print_undecided.ensures
