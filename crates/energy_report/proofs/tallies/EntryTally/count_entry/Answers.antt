use Rattle.std.proofs.Common.{◌≡◌, refl, ◌∙◌, ap}
use Rattle.energy_core.specs.declared.entries.Last.{Last}
use Rattle.interval_core.specs.Ranges.{has_moment}
use Rattle.energy_report.specs.Statements.{is_within, counter_after_entry, stands_within}
use Rattle.energy_report.proofs.TallyLemmas.{alike, one_more}
use Rattle.energy_report.proofs.tallies.EntryTally.count_entry.Goals as goal

pub returns : goal.returns
returns c = λ before is.
    let zone = c.args.zone.now in
    let range = c.args.range.now in
    let e = c.args.entry.now in
    let stand : c.counter_after_entry-stand.result ≡ counter_after_entry e = c.counter_after_entry-stand.ensures in
    let inside : c.has_moment-is_within.result ≡ is_within zone range e =
    c.has_moment-is_within.ensures ∙ ap (λ (s : Last). has_moment zone range s.at) stand in
    let counts : c.both-counts.result ≡ stands_within zone range e = c.both-counts.ensures ∙ rw (inside, c.is_valid.ensures) refl in
    alike (c.earlier.ensures ∙ rw (counts, stand) refl) (c.later.ensures ∙ rw (counts, stand) refl)
    (c.tallied.ensures ∙ rw (c.both.ensures, counts, c.is_by_hand.ensures) refl)
    (c.tallied-2.ensures ∙ rw (c.both-2.ensures, counts, c.is_reset.ensures) refl)
    (c.tallied-3.ensures ∙ rw (c.both-3.ensures, counts, c.is_rescale.ensures) refl)
    (c.tallied-4.ensures ∙ rw (c.both-4.ensures, inside, c.is_valid-2.ensures) refl)
    (c.tallied-5.ensures ∙ rw (c.both-5.ensures, counts, c.is_opening.ensures) refl)
    (c.tallied-6.ensures ∙ rw (c.both-6.ensures, counts, c.is_closing.ensures) refl)
    ∙ one_more zone range before e c.args.self.now is
