use Rattle.std.proofs.Common.{◌∷◌}
use Rattle.office_books.specs.History.{Opened, facts_of, slots_of}
use Rattle.office_books.proofs.DeviceSlots.{same_devices}
use Rattle.office_books.proofs.Moving.{answered, read_then}
use Rattle.office_core.proofs.OpeningLemmas.Opened.{opened_keep, not_opened}
use Rattle.office_core.proofs.opening.opened_office.book_opening.Goals as goal

pub returns-in_err-book_lost-clause-opens : goal.returns-in_err-book_lost-clause-opens
returns-in_err-book_lost-clause-opens g c = λ past may.
    let lawful = c.facts_are_lawful.ensures (Opened c.args.moment ∷ past) (may.accepted, may.is_past.accepted) may.is_past.planned in
    not_opened past c.args.moment _ _ _ _ _ _ c.in_ok-slots.ensures.reads (c.in_err-book_lost.ensures.books (facts_of past) lawful)
    c.from_residual-in_err-book_lost.ensures.1

pub returns-clause-opens : goal.returns-clause-opens
returns-clause-opens g c = λ past may.
    let lawful = c.facts_are_lawful.ensures (Opened c.args.moment ∷ past) (may.accepted, may.is_past.accepted) may.is_past.planned in
    let booked = c.in_ok-book_lost.ensures in
    record {
      books = answered _ _ _ _ _ _ (read_then _ _ _ _ _ _ _ c.in_ok-slots.ensures.reads (booked.books (facts_of past) lawful));
      slots = λ holds clean.
          opened_keep _ _ (slots_of past) (c.in_ok-slots.ensures.found (facts_of past) holds (booked.goes.clean clean)) (same_devices past);
    }
