use Rattle.std.proofs.Common.{◌∷◌, sym, subst}
use Rattle.office_events.specs.declared.facts.Fact.{Fact}
use Rattle.office_books.specs.Lawful.{AreLawful}
use Rattle.memory_books.specs.Tables.Meters.{AreMeters}
use Rattle.memory_books.proofs.TablesLemmas.PlacesComing.{on_ok_then, on_err_then}
use Rattle.memory_books.proofs.TablesLemmas.MetersComing.{opening_comes, entry_comes, void_comes, hold_comes, same_meters}
use Rattle.memory_books.proofs.tables.meters.MetersTable.apply_record.Goals as goal

pub returns-in-Opening-clause-ok : goal.returns-in-Opening-clause-ok
returns-in-Opening-clause-ok c = λ known lawful long are.
    on_ok_then c.open.result
    (λ changes.
    subst (λ (f : Fact). AreLawful (f ∷ known) → AreMeters c.open.new.self (f ∷ known)) (sym c.in-Opening.is)
    (λ h. opening_comes c.openings_begin.ensures c.other_meters_stay.ensures known c.in-Opening.opening c.args.self.now c.open.new.self h changes are) lawful)
    c.open.ensures.ok

pub returns-in-Opening-clause-err : goal.returns-in-Opening-clause-err
returns-in-Opening-clause-err c = λ known are.
    on_err_then c.open.result (λ changes. same_meters known c.args.self.now c.open.new.self c.in-Opening.opening.meter changes are) c.open.ensures.err

pub returns-in-Entry-clause-ok : goal.returns-in-Entry-clause-ok
returns-in-Entry-clause-ok c = λ known lawful long are.
    on_ok_then c.enter.result
    (λ changes.
    subst (λ (f : Fact). AreLawful (f ∷ known) → AreMeters c.enter.new.self (f ∷ known)) (sym c.in-Entry.is)
    (λ h. entry_comes c.entries_move_on.ensures c.other_meters_stay.ensures c.installations_are_in_range.ensures known c.in-Entry.booked
    c.args.self.now c.enter.new.self h changes are) lawful)
    c.enter.ensures.ok

pub returns-in-Entry-clause-err : goal.returns-in-Entry-clause-err
returns-in-Entry-clause-err c = λ known are.
    on_err_then c.enter.result (λ changes. same_meters known c.args.self.now c.enter.new.self c.in-Entry.booked.meter changes are) c.enter.ensures.err

pub returns-in-Void-clause-ok : goal.returns-in-Void-clause-ok
returns-in-Void-clause-ok c = λ known lawful long are.
    subst (λ (f : Fact). AreLawful (f ∷ known) → AreMeters c.strike.new.self (f ∷ known)) (sym c.in-Void.is)
    (λ h. void_comes c.other_meters_stay.ensures c.journals_fit.ensures c.journals_are_kept.ensures c.installations_are_in_range.ensures known c.in-Void.voided
    c.args.self.now c.strike.new.self h c.strike.ensures are) lawful

pub returns-in-Hold-clause-ok : goal.returns-in-Hold-clause-ok
returns-in-Hold-clause-ok c = λ known lawful long are.
    subst (λ (f : Fact). AreMeters c.args.self.now (f ∷ known)) (sym c.in-Hold.is)
    (hold_comes c.holds_change_nothing.ensures c.in-Hold._reading known c.args.self.now are)
