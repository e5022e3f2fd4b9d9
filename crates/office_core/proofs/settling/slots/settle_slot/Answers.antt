use Rattle.std.proofs.Common.{sym, ◌∙◌}
use Rattle.office_core.proofs.SettlingLemmas.Unreached.{still_kept, adds_none}
use Rattle.office_core.proofs.settling.slots.settle_slot.Goals as goal

pub returns-then-not-reaches-clause-keeps : goal.returns-then-not-reaches-clause-keeps
returns-then-not-reaches-clause-keeps g c = λ number stood reach.
    still_kept number c.args.moment c.args.event.now c.args.slot.now stood c.requires.settling (sym c.if-connects.false ∙ c.connects.ensures)
    (sym c.if-not-reaches.true ∙ c.reaches.ensures c.args.moment) reach

pub returns-then-not-reaches-clause-adds : goal.returns-then-not-reaches-clause-adds
returns-then-not-reaches-clause-adds g c = λ number stood reach.
    adds_none _ _ c.args.draft.now number c.args.moment c.args.event.now c.args.slot.now stood c.requires.settling
    (sym c.if-not-reaches.true ∙ c.reaches.ensures c.args.moment) reach
