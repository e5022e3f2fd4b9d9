use Rattle.std.proofs.Common.{sym, subst, ◌∙◌}
use Rattle.std.proofs.lemmas.Result.{on_ok_weaker}
use Rattle.energy_core.specs.declared.verdicts.Reading.{Reading}
use Rattle.office_books.specs.Readings.{reading_fact}
use Rattle.office_books.specs.Notes.{reading_note}
use Rattle.office_core.specs.Settling.Drafts.{HasMore}
use Rattle.office_core.proofs.SettlingLemmas.Growing.{read_at}
use Rattle.office_books.proofs.Moving.{consults}
use Rattle.office_core.proofs.Consulting.{reads_without}
use Rattle.office_core.proofs.settling.outcomes.add_reading.Goals as goal

pub returns-clause-adds : goal.returns-clause-adds
returns-clause-adds g c =
    on_ok_weaker c.add_judged.result
    (λ more. read_at _ _ c.args.at c.args.poll.now _ c.args.register.now c.args.draft.now c.add_judged.new.draft c.in-Some.row
    (sym c.is_read_by.ensures ∙ c.if-not-is_read_by.false)
    (λ known h clean reported lawful. sym c.in-Some.is ∙ c.in_ok-row.ensures.found known h clean reported lawful)
    (subst (λ (r : Reading). HasMore c.args.draft.now c.add_judged.new.draft (reading_fact c.args.poll.now.number r c.in-Some.row) (reading_note r c.in-Some.row))
    c.reading_of-reading.ensures more))
    c.add_judged.ensures.ok

pub returns-clause-reads : goal.returns-clause-reads
returns-clause-reads g c =
    reads_without _ _ _ c.add_judged.result (consults _ _ _ c.in_ok-row.ensures.reads.reads) c.add_judged.ensures.err
