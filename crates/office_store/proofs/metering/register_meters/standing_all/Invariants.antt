use Rattle.std.proofs.Common.{◌≡◌, List, map, take, Ok}
use Rattle.office_events.specs.declared.facts.Opening.{Opening}
use Rattle.office_books.specs.Meters.{installation_of}
use Rattle.office_store.specs.Finding.Finding.{Finds}
use Rattle.office_store.specs.Metering.RegisterMeters.{AreRowsOf}
use Rattle.office_store.specs.Metering.Sound.{HasReadableMeters}
use Rattle.office_store.proofs.metering.register_meters.standing_all.Given as goal

abbrev pub invariant-loop-row : goal.invariant-loop-row
invariant-loop-row g l =
    Finds g.S.Store l.fn.conn l.conn (Ok l.found) (λ facts v. (openings : List Opening) → AreRowsOf facts openings l.rows → v.items ≡ take l.row-index (map (installation_of facts) openings)) HasReadableMeters
