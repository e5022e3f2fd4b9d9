use Rattle.std.proofs.Common.{refl, sym, ◌∙◌}
use Rattle.office_program.specs.FedEvents.{history_with}
use Rattle.office_program.proofs.Closings.{closes_as, closes_printed, is_other}
use Rattle.office_program.proofs.round_end.close.Goals as goal

pub returns-then-is_output-clause-closes : goal.returns-then-is_output-clause-closes
returns-then-is_output-clause-closes g c = λ device past begun fed broken clean.
    closes_as g.B.Books.ledger device c.args.progress.now.round.device past begun _ _ c.args.office.now c.end_unprinted.new.office fed c.args.progress.now c.args.cause
    c.now-moment.result c.gone_at-at.result (sym c.is_output.ensures ∙ c.if-is_output.true) broken.device_is broken c.now-moment.ensures c.gone_at-at.ensures refl
    (c.end_unprinted.ensures.ends (g.W.Write.contents c.args.output.now) (g.C.Clock.moments c.args.clock.now) (g.C.Clock.moments c.now-moment.new.self)
    (history_with past fed) broken.leaves.stands clean)

pub returns-clause-closes : goal.returns-clause-closes
returns-clause-closes g c = λ device past begun fed broken clean.
    closes_printed g.B.Books.ledger device c.args.progress.now.round.device past begun _ _ c.args.office.now c.end_printed.new.office fed c.args.progress.now c.args.cause
    c.end_printed.result c.now-moment.result c.gone_at-at.result broken.device_is broken (is_other c.args.cause (sym c.is_output.ensures ∙ c.if-is_output.false)) c.now-moment.ensures
    c.gone_at-at.ensures
    (c.end_printed.ensures.ends (g.C.Clock.moments c.args.clock.now) (g.C.Clock.moments c.now-moment.new.self) (history_with past fed) broken.leaves.stands clean)
