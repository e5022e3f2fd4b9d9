use Rattle.std.proofs.Common.{refl, sym, ◌∙◌}
use Rattle.office_core.proofs.StartingLemmas.Sending.{slot_keeps}
use Rattle.office_core.proofs.starting.starts.start_on.Goals as goal

pub returns-clause-keeps : goal.returns-clause-keeps
returns-clause-keeps c = λ kept keeps before.
    slot_keeps c.args.number c.args.moment c.args.spans.now c.args.slot.now _ kept c.in-Some.kept c.start_each-outgoing.new.kept refl refl
    (sym c.take.ensures.value ∙ c.in-Some.is) keeps before c.start_each-outgoing.ensures.keeps
