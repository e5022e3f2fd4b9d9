use Rattle.std.proofs.Common.{sym, ◌∙◌}
use Rattle.office_core.specs.Taking.{failures_of}
use Rattle.office_program.specs.Rounds.{round_state}
use Rattle.office_program.proofs.EnteringLemmas.Asked.{doubted, undecided, undoubted}
use Rattle.office_program.proofs.EnteringLemmas.Doubts.{reported_so, reported_why}
use Rattle.office_program.proofs.entering.asking.ask.Goals as goal

pub returns-in-Some-clause-enters : goal.returns-in-Some-clause-enters
returns-in-Some-clause-enters g c = λ moments later timed past stands clean.
    let is = c.in-Ok.ensures.reports past stands clean in
    let reported = reported_so g.B.Books.ledger past _ _ c.doubt_of.new.office _ c.in-Ok.doubt is in
    doubted g.B.Books.ledger past c.args.progress (round_state (g.W.Write.contents c.args.output.now) moments (failures_of g.B.Books.ledger c.args.office.now))
    (round_state (g.W.Write.contents c.print_doubted.new.output) later (failures_of g.B.Books.ledger c.doubt_of.new.office)) c.doubt_of.new.office c.args.at
    c.in-Some.mwh c.args.asked c.print_doubted.result timed is.stands (sym reported.0 ∙ c.in-Some.is) reported.1 c.print_doubted.ensures

pub returns-in-None-clause-enters : goal.returns-in-None-clause-enters
returns-in-None-clause-enters g c = λ moments later timed past stands clean.
    let was = c.ask_at.ensures.lasts.clean clean in
    let is = c.in-Ok.ensures.reports past stands was in
    let reported = reported_so g.B.Books.ledger past _ _ c.doubt_of.new.office _ c.in-Ok.doubt is in
    undoubted g.B.Books.ledger past c.args.progress (round_state (g.W.Write.contents c.args.output.now) moments (failures_of g.B.Books.ledger c.args.office.now))
    (round_state (g.W.Write.contents c.ask_at.new.output) later (failures_of g.B.Books.ledger c.ask_at.new.office)) c.ask_at.new.office c.args.at
    c.args.asked _ c.ask_at.result timed (sym reported.0 ∙ c.in-None.is) reported.1 (c.ask_at.ensures.asks past is.stands clean)

pub returns-in-None-clause-lasts : goal.returns-in-None-clause-lasts
returns-in-None-clause-lasts g c =
    let first = c.in-Ok.ensures.lasts in
    let second = c.ask_at.ensures.lasts in
    record { clean = λ clean. first.clean (second.clean clean); zone = second.zone ∙ first.zone }

pub returns-in-Err-clause-enters : goal.returns-in-Err-clause-enters
returns-in-Err-clause-enters g c = λ moments later timed past stands clean.
    let is = c.in-Err.ensures.reports past stands clean in
    undecided g.B.Books.ledger past c.args.progress (round_state (g.W.Write.contents c.args.output.now) moments (failures_of g.B.Books.ledger c.args.office.now))
    (round_state (g.W.Write.contents c.print_undecided.new.output) later (failures_of g.B.Books.ledger c.doubt_of.new.office)) c.doubt_of.new.office c.args.at
    c.args.asked c.in-Err.why c.print_undecided.result timed is.stands (reported_why g.B.Books.ledger past _ _ c.doubt_of.new.office _ c.in-Err.why is)
    c.print_undecided.ensures
