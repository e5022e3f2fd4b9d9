use Rattle.std.proofs.Common.{◌≡◌, true, false, refl, ap, subst, ◌∙◌}
use Rattle.office_books.specs.History.{facts_of, slots_of, next_poll}
use Rattle.office_core.specs.Sessions.Keeping.{KeepsSlots}
use Rattle.office_core.specs.declared.settling.drafts.PendingWrite.{PendingWrite}
use Rattle.office_core.proofs.SettlingLemmas.Moments.{reaches_all}
use Rattle.office_core.proofs.SettlingLemmas.Happened.{slots_happened, draft_stands}
use Rattle.office_books.proofs.Moving.{answered, failed_reading}
use Rattle.office_core.proofs.SettlingLemmas.Moving.{moves_after, settles_not}
use Rattle.office_core.proofs.settling.events.settle_event.Goals as goal

pub returns-in_err-settle_slots-clause-quiet : goal.returns-in_err-settle_slots-clause-quiet
returns-in_err-settle_slots-clause-quiet g c = λ past next settles.
    let quiet = c.in_err-settle_slots.ensures.quiet (next_poll (facts_of past)) (slots_of past) (reaches_all past _ _ _ next) settles in
    let never : false ≡ true = quiet.ok in absurd (cc)

pub returns-in_err-write_records-clause-quiet : goal.returns-in_err-write_records-clause-quiet
returns-in_err-write_records-clause-quiet g c = λ past next settles.
    let quiet = c.in_ok-settle_slots.ensures.quiet (next_poll (facts_of past)) (slots_of past) (reaches_all past _ _ _ next) settles in
    let booked = c.in_err-write_records.ensures.quiet (ap (λ (d : PendingWrite). d.facts.items) quiet.draft ∙ c.new-draft.ensures.facts) in
    let never : false ≡ true = booked.0 in absurd (cc)

pub returns-clause-quiet : goal.returns-clause-quiet
returns-clause-quiet g c = λ past next settles.
    let quiet = c.in_ok-settle_slots.ensures.quiet (next_poll (facts_of past)) (slots_of past) (reaches_all past _ _ _ next) settles in
    let booked = c.in_ok-write_records.ensures.quiet (ap (λ (d : PendingWrite). d.facts.items) quiet.draft ∙ c.new-draft.ensures.facts) in
    record {
      ok = refl;
      reported = ap (λ (d : PendingWrite). d.notes.items) quiet.draft ∙ c.new-draft.ensures.notes;
      books = booked.1 ∙ quiet.books;
    }

pub returns-in_err-settle_slots-clause-settles : goal.returns-in_err-settle_slots-clause-settles
returns-in_err-settle_slots-clause-settles g c = λ past next.
    settles_not past _ _ _ _ _ _ _ (failed_reading {S = Unit {0}} _ _ _ _ _ c.in_err-settle_slots.ensures.reads)
    c.from_residual.ensures.1

pub returns-in_err-write_records-clause-settles : goal.returns-in_err-write_records-clause-settles
returns-in_err-write_records-clause-settles g c = λ past next.
    let grown =
    draft_stands c.facts_are_lawful.ensures past _ _ _ c.requires.settling next _ _ _ c.settle_slots.new.draft c.new-draft.ensures.facts c.new-draft.ensures.notes
    (c.in_ok-settle_slots.ensures.adds (next_poll (facts_of past)) (slots_of past) (reaches_all past _ _ _ next)) in
    settles_not past _ _ _ _ _ _ _
    (moves_after _ _ _ c.settle_slots.new.draft.facts.items (facts_of past) _ _ _ c.in_ok-settle_slots.ensures.reads
    (λ known clean. ((grown known clean).facts, (grown known clean).lawful))
    (c.in_err-write_records.ensures.moves (facts_of past)) (c.in_err-write_records.ensures.refused (facts_of past)) c.in_err-write_records.ensures.goes)
    c.from_residual-in_err-write_records.ensures.1

pub returns-clause-settles : goal.returns-clause-settles
returns-clause-settles g c = λ past next.
    let reach = reaches_all past _ _ _ next in
    let grown =
    draft_stands c.facts_are_lawful.ensures past _ _ _ c.requires.settling next _ _ _ c.settle_slots.new.draft c.new-draft.ensures.facts c.new-draft.ensures.notes
    (c.in_ok-settle_slots.ensures.adds (next_poll (facts_of past)) (slots_of past) reach) in
    record {
      slots =
          subst (KeepsSlots c.settle_slots.new.slots) (slots_happened past _ _ c.requires.settling)
          (c.in_ok-settle_slots.ensures.keeps (next_poll (facts_of past)) (slots_of past) reach);
      books =
          answered _ _ _ _ _ _
          (moves_after _ _ _ c.settle_slots.new.draft.facts.items (facts_of past) _ _ _ c.in_ok-settle_slots.ensures.reads
          (λ known clean. ((grown known clean).facts, (grown known clean).lawful))
          (c.in_ok-write_records.ensures.moves (facts_of past)) (c.in_ok-write_records.ensures.refused (facts_of past)) c.in_ok-write_records.ensures.goes);
      notes = λ known clean. (grown known (c.in_ok-write_records.ensures.goes.clean clean)).notes;
    }
