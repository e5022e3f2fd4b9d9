use Rattle.std.proofs.Common.{min, length, ap, ◌∙◌}
use Rattle.office_core.proofs.StartingLemmas.Sending.{sends_count, ready_on}
use Rattle.office_core.proofs.starting.starts.count_on.Goals as goal

pub returns-clause-count : goal.returns-clause-count
returns-clause-count c = λ number at events keeps.
    sends_count number at c.args.device.now events c.args.spans.now c.ready.result.id c.ready.result.count c.args.kept.now.window c.min-2.result
    (ready_on c.args.device.now c.args.kept.now events c.ready.result.id c.ready.result.count keeps (c.ready.ensures.ready events keeps.stands))
    c.ready.ensures.few keeps.window
    (c.min-2.ensures ∙ ap (λ m. min m (length c.args.spans.now)) (c.min.ensures ∙ ap (min c.ready.result.count) c.polls.ensures.value))
