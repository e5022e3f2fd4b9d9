-- Lemmas: suppose that two lists of entries have the same last entry, and the second list has at
-- most the energy of the first. If the rules for meter entries accept a line of a journal (a
-- meter's history) after the first list, they also accept it after the second list.
use Rattle.std.proofs.Common.{◌≡◌, ℕ, ◌*◌, Bool, true, false, nat_lt, if◌then◌else◌, List, refl, sym, ap, subst, ◌∙◌, Option, Some, None, Ok, arith}
use Rattle.energy_core.specs.declared.entries.Last.{Last}
use Rattle.energy_core.specs.declared.entries.Entry.{Entry}
use Rattle.energy_core.specs.declared.entries.Entry.TheVariants as entry
use Rattle.energy_core.specs.declared.verdicts.Terms.{Terms}
use Rattle.energy_core.specs.declared.verdicts.Verdict.TheVariants as verdict
use Rattle.energy_core.specs.Value.{unit_of}
use Rattle.energy_core.specs.Verdict.{distance, verdict_of, IsPlausible}
use Rattle.energy_core.specs.Admission.{entered}
use Rattle.energy_core.proofs.Bookings.{booked_where_entered, entered_where_booked}
use Rattle.energy_core.proofs.Acceptance.{accepted_is_plausible}
use Rattle.meter_journal.specs.declared.lines.Installed.{Installed}
use Rattle.meter_journal.specs.declared.lines.EntryKind.{EntryKind}
use Rattle.meter_journal.specs.declared.lines.EntryKind.TheVariants as kind
use Rattle.meter_journal.specs.declared.lines.EntryRow.{EntryRow}
use Rattle.meter_journal.specs.Books.{last_after, total_after}
use Rattle.meter_journal.specs.Journal.{is_read, rolled}
use Rattle.meter_journal.specs.Fitting.{reading_at, IsAcceptedAs, IsEntered, EntryFits, IsPlausibleNext}
use Rattle.meter_journal.proofs.Voiding.{Lower}

-- States that, if there is a next valid entry, it is a reading that the rules for meter entries
-- accept without the voided (cancelled) entry before it.
abbrev pub NextFits : Installed → List Entry → Option EntryRow → Type 0
NextFits meter es None = Unit {0}
NextFits meter es (Some next) = (is_read next.kind next.entry ≡ true) × IsPlausibleNext meter es next.entry

-- States that, if the row is valid, then the rules for meter entries accept its entry after the
-- entries `es`.
abbrev pub StandFits : Installed → List Entry → EntryRow → Type 0
StandFits meter es row = row.stands ≡ true → EntryFits meter es row.kind row.entry

abbrev pub terms_after : Installed → List Entry → Terms
terms_after meter es = record { ceiling = meter.ceiling; total = total_after meter es }

-- If the rules for meter entries accept a meter reading, then it has the counter rollovers that
-- follow from the entry before it.
pub rolls_of : (meter : Installed) (es : List Entry) (at raw rolls : ℕ) → IsAcceptedAs meter es at raw rolls
    → rolls ≡ (if nat_lt raw (last_after meter es).raw then 1 else 0)
rolls_of meter es at raw rolls h =
    ((accepted_is_plausible meter.range (terms_after meter es) (last_after meter es) (reading_at (last_after meter es) at raw) rolls h.step).0 h.accepted).1

accepted_lower : (meter : Installed) (es es' : List Entry) (at raw rolls : ℕ) → Lower meter es es' → IsAcceptedAs meter es at raw rolls
    → IsAcceptedAs meter es' at raw (if nat_lt raw (last_after meter es').raw then 1 else 0)
accepted_lower meter es es' at raw rolls low h =
    let l : Last = last_after meter es in
    let was : IsPlausible meter.range (terms_after meter es) l (reading_at l at raw) =
    ((accepted_is_plausible meter.range (terms_after meter es) l (reading_at l at raw) rolls h.step).0 h.accepted).0 in
    let still : IsPlausible meter.range (terms_after meter es') l (reading_at l at raw) = record {
      accumulated = was.accumulated;
      scale = was.scale;
      below = was.below;
      later = was.later;
      span = was.span;
      gap = was.gap;
      speed = was.speed;
      within = omega (arith, was.within, low.whole);
    } in
    let is : verdict_of meter.range (terms_after meter es') l (reading_at l at raw)
    ≡ verdict.Accepted (if nat_lt raw l.raw then 1 else 0) (distance meter.range l.raw raw * unit_of l.sf) =
    (accepted_is_plausible meter.range (terms_after meter es') l (reading_at l at raw) _ _).1 (still, refl, refl) in
    record {
      step = distance meter.range (last_after meter es').raw raw * unit_of (last_after meter es').sf;
      accepted = subst (λ (x : Last). verdict_of meter.range (terms_after meter es') x (reading_at x at raw)
          ≡ verdict.Accepted (if nat_lt raw x.raw then 1 else 0) (distance meter.range x.raw raw * unit_of x.sf)) (sym low.last) is;
    }

entered_lower : (meter : Installed) (es es' : List Entry) (e : Entry) → Lower meter es es' → IsEntered meter es e → IsEntered meter es' e
entered_lower meter es es' e low h =
    let l : Last = last_after meter es in
    let was = booked_where_entered meter.range (total_after meter es) l e h.next h.step h.entered in
    let still = entered_where_booked meter.range (total_after meter es') l e h.next h.step (record {
      next_is = was.next_is;
      step_is = was.step_is;
      follows = was.follows;
      within = omega (arith, was.within, low.whole);
    }) in
    record {
      next = h.next;
      step = h.step;
      entered = subst (λ (x : Last). entered meter.range (total_after meter es') x e ≡ Ok (h.next, h.step)) (sym low.last) still;
    }

-- Suppose that two lists of entries have the same last entry, and the second list has at most the
-- energy of the first. If the rules for meter entries accept a row after the first list, they also
-- accept it after the second list, with recomputed rollovers.
pub rolled_fits : (meter : Installed) (es es' : List Entry) (place : ℕ) (k : EntryKind) (e : Entry) (stands : Bool) → Lower meter es es'
    → StandFits meter es (record { place = place; kind = k; entry = e; stands = stands })
    → StandFits meter es' (rolled (last_after meter es') (record { place = place; kind = k; entry = e; stands = stands }))
rolled_fits meter es es' place k e false low h = λ s. absurd (let f : false ≡ true = s in cc)
rolled_fits meter es es' place kind.Reading (entry.Step at raw rolls) true low h = λ s. accepted_lower meter es es' at raw rolls low (h refl)
rolled_fits meter es es' place kind.Reading (entry.Change at before new sf) true low h = λ s. absurd (h refl)
rolled_fits meter es es' place kind.Manual (entry.Step at raw rolls) true low h = λ s. entered_lower meter es es' _ low (h refl)
rolled_fits meter es es' place kind.Manual (entry.Change at before new sf) true low h = λ s. absurd (h refl)
rolled_fits meter es es' place kind.Closing (entry.Step at raw rolls) true low h = λ s. entered_lower meter es es' _ low (h refl)
rolled_fits meter es es' place kind.Closing (entry.Change at before new sf) true low h = λ s. absurd (h refl)
rolled_fits meter es es' place kind.Reset (entry.Step at raw rolls) true low h = λ s. absurd (h refl)
rolled_fits meter es es' place kind.Reset (entry.Change at before new sf) true low h =
    λ s. (entered_lower meter es es' _ low (h refl).0, (h refl).1 ∙ sym (ap (λ (x : Last). x.sf) low.last))
rolled_fits meter es es' place kind.Rescale (entry.Step at raw rolls) true low h = λ s. absurd (h refl)
rolled_fits meter es es' place kind.Rescale (entry.Change at before new sf) true low h = λ s. entered_lower meter es es' _ low (h refl)

-- If a row is voided (cancelled), then the rules for meter entries still accept the next valid row,
-- with recomputed rollovers.
pub next_fits : (meter : Installed) (es : List Entry) (place : ℕ) (k : EntryKind) (e : Entry) (stands : Bool)
    → NextFits meter es (Some (record { place = place; kind = k; entry = e; stands = stands }))
    → StandFits meter es (rolled (last_after meter es) (record { place = place; kind = k; entry = e; stands = stands }))
next_fits meter es place k e false h = λ s. absurd (let f : false ≡ true = s in cc)
next_fits meter es place kind.Reading (entry.Step at raw rolls) true h =
    λ s. subst (IsAcceptedAs meter es at raw) (rolls_of meter es at raw h.1.0 h.1.1) h.1.1
next_fits meter es place kind.Reading (entry.Change at before new sf) true h = λ s. absurd (h.1)
next_fits meter es place kind.Manual e true h = λ s. absurd (let f : false ≡ true = h.0 in cc)
next_fits meter es place kind.Closing e true h = λ s. absurd (let f : false ≡ true = h.0 in cc)
next_fits meter es place kind.Reset e true h = λ s. absurd (let f : false ≡ true = h.0 in cc)
next_fits meter es place kind.Rescale e true h = λ s. absurd (let f : false ≡ true = h.0 in cc)
