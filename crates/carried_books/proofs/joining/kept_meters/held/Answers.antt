use Rattle.std.proofs.Common.{◌∙◌}
use Rattle.office_books.specs.Holds.{holds_of}
use Rattle.carried_books.proofs.JoiningLemmas.KeptMeters.{held_reported}
use Rattle.carried_books.proofs.joining.kept_meters.held.Goals as goal

pub returns-clause-found : goal.returns-clause-found
returns-clause-found g c known holds clean =
    c.counts.ensures
    ∙ held_reported c.args.zone.now c.args.range.now (holds_of known c.args.meter.now) c.new-held.result c.holds.new.sink c.new-held.ensures
    (c.in_ok-holds.ensures.rows.whole known holds clean)
