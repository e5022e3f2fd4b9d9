use Rattle.std.proofs.Common.{set, sym, ap, ◌∙◌}
use Rattle.std.proofs.lemmas.List.Edits.{map_over_more}
use Rattle.office_program.specs.DeviceRounds.Rounds.{heard}
use Rattle.office_program.proofs.device_rounds.table.apply_notes_to_all.Goals as goal

pub loop-round-preserved : goal.loop-round-preserved
loop-round-preserved c =
    let notes = c.args.notes.now in
    let rounds = c.loop-round.rounds in
    let i = c.loop-round.round-index in
    ap (λ y. set rounds i y) (c.apply_notes.ensures ∙ ap (heard notes) (sym c.round-item.is))
    ∙ map_over_more (heard notes) c.args.rounds.now rounds i c.round-item.result c.loop-round-test.true c.loop-round.invariant c.round-item.is
