-- Lemmas that the records stay lawful after a void (cancellation) of an entry and after an exchange
-- of meters. Lawful means that the rules for adding records accept each record after the earlier
-- ones.
use Rattle.std.proofs.Common.{◌≡◌, ℕ, ℤ, pos, negsuc, ◌<◌, ◌≤◌, ◌≤ℤ◌, max, nat_lt, Bool, true, false, cond, ◌&&◌, List, ◌∷◌, refl, sym, ap, ◌∙◌, Option, Some, None, arith}
use Rattle.std.specs.List.{cons_option, AllByRecursion}
use Rattle.std.specs.Option.{is_some, option_map, option_and_then}
use Rattle.std.proofs.lemmas.Bool.{cond-true, or_parts, ltb-false, not-false}
use Rattle.std.proofs.lemmas.Bool.Decides.{nat_tests}
use Rattle.energy_core.specs.declared.entries.Entry.{Entry}
use Rattle.energy_core.specs.declared.entries.Entry.TheVariants as entry
use Rattle.energy_core.specs.declared.verdicts.Cause.{Cause}
use Rattle.energy_core.specs.declared.verdicts.Cause.TheVariants as cause
use Rattle.energy_core.specs.declared.verdicts.Verdict.{Verdict}
use Rattle.energy_core.specs.declared.verdicts.Verdict.TheVariants as verdict
use Rattle.energy_core.proofs.Tables.{none_pass}
use Rattle.meter_journal.specs.declared.lines.EntryKind.{EntryKind}
use Rattle.meter_journal.specs.declared.lines.EntryKind.TheVariants as kind
use Rattle.meter_journal.specs.declared.lines.EntryRow.{EntryRow}
use Rattle.meter_journal.specs.Journal as journal
use Rattle.meter_journal.specs.Fitting as journals
use Rattle.office_events.specs.declared.facts.Opening.{Opening}
use Rattle.office_events.specs.declared.facts.Fact.{Fact}
use Rattle.office_events.specs.declared.facts.Fact.TheVariants as fact
use Rattle.office_events.specs.declared.commands.VoidEntry.{VoidEntry}
use Rattle.office_events.specs.declared.commands.Command.TheVariants as command
use Rattle.office_events.specs.declared.events.Event.{Event}
use Rattle.office_events.specs.declared.events.Event.TheVariants as event
use Rattle.office_books.specs.Facts.{moment_limit, latest_in, same, opening_of, installed_at, register_of}
use Rattle.office_books.specs.Meters.{installed, journal_of, rows_of, entries_of, is_ended, installation_of, if_open, open_at, place_in, entry_at}
use Rattle.office_books.specs.History.{History, Fed, facts_of}
use Rattle.office_books.specs.Refusals.{is_not_voidable, verdict_at, is_held_for, same_cause, refuses, reasons, refusal_of}
use Rattle.office_books.specs.Lawful.{LineFits, AreLawful}
use Rattle.office_books.proofs.Lookups.{same_itself}

-- If an event is not refused, then no reason to refuse the event applies.
pub not_refused : (past : History) (at : ℕ) (e : Event) → refusal_of past at e ≡ None → AllByRecursion (λ why. refuses past at e why ≡ false) reasons
not_refused past at e h = none_pass (refuses past at e) reasons h

same_cause_itself : (c : Cause) → same_cause c c ≡ true
same_cause_itself cause.NotAccumulated = refl
same_cause_itself cause.ScaleChanged = refl
same_cause_itself cause.NotLater = refl
same_cause_itself cause.SpanTooLong = refl
same_cause_itself cause.GapTooLong = refl
same_cause_itself cause.TooFast = refl
same_cause_itself cause.TotalFull = refl
same_cause_itself cause.NotBelowRange = refl

-- If a verdict on a reading is not a rejection for any of the causes, then the verdict accepts the
-- reading.
accepts : (v : Verdict) → ((why : Cause) → is_held_for why (Some v) ≡ false) → (rolls : ℕ) × (step : ℕ) × (v ≡ verdict.Accepted rolls step)
accepts (verdict.Accepted rolls step) h = (rolls, step, refl)
accepts (verdict.Held c) h = absurd (let e : true ≡ false = sym (same_cause_itself c) ∙ h c in cc)

read_entry : (P : Entry → Type 0) → ((at raw rolls : ℕ) → P (entry.Step at raw rolls)) → (k : EntryKind) (e : Entry) → journal.is_read k e ≡ true → P e
read_entry P h kind.Reading (entry.Step at raw rolls) is = h at raw rolls
read_entry P h kind.Reading (entry.Change at before new sf) is = absurd (cc)
read_entry P h kind.Manual e is = absurd (cc)
read_entry P h kind.Closing e is = absurd (cc)
read_entry P h kind.Reset e is = absurd (cc)
read_entry P h kind.Rescale e is = absurd (cc)

next_plausible : (facts : List Fact) (o : Opening) (before : List EntryRow) (row next : EntryRow) → journal.is_read next.kind next.entry ≡ true
    → ((why : Cause) → is_held_for why (verdict_at (Some (place_in facts o (record { before = before; row = row; next = Some next })))) ≡ false)
    → journals.IsPlausibleNext (installed o) (journal.entries_in before) next.entry
next_plausible facts o before row next is none =
    read_entry
    (λ e. ((why : Cause) → is_held_for why (verdict_at (Some (place_in facts o (record { before = before; row = row; next = Some (record { place = next.place; kind = next.kind; entry = e; stands = next.stands }) })))) ≡ false)
    → journals.IsPlausibleNext (installed o) (journal.entries_in before) e)
    (λ at raw rolls h. let a = accepts _ h in (a.0, record { step = a.1; accepted = a.2 })) next.kind next.entry is none

both_true : (a b : Bool) → (a && b) ≡ true → (a ≡ true) × (b ≡ true)
both_true true b h = (refl, h)
both_true false b h = absurd (let e : false ≡ true = h in cc)

next_fits : (facts : List Fact) (o : Opening) (before : List EntryRow) (row : EntryRow) (next : Option EntryRow) → journals.is_free next ≡ true
    → ((why : Cause) → is_held_for why (verdict_at (Some (place_in facts o (record { before = before; row = row; next = next })))) ≡ false)
    → journals.IsNextPlausible (installed o) (journal.entries_in before) next
next_fits facts o before row None h none = tt
next_fits facts o before row (Some next) h none = next_plausible facts o before row next h none

-- If a void (cancellation) is not refused, then the entry to void exists, and the rules for the
-- meter's journal (history) accept the void.
around_fits : (facts : List Fact) (m : List ℕ) (place : ℕ) (o : Opening) (found : Option journal.Around) → opening_of facts m ≡ Some o
    → journal.row_at place (rows_of facts o) ≡ found
    → is_not_voidable (option_map (place_in facts o) found) ≡ false
    → ((why : Cause) → is_held_for why (verdict_at (option_map (place_in facts o) found)) ≡ false)
    → LineFits facts m (journal.Voided place)
around_fits facts m place o None installed_there there voidable none = absurd (let e : true ≡ false = voidable in cc)
around_fits facts m place o (Some a) installed_there there voidable none =
    let may : journals.is_voidable a.row a.next ≡ true = not-false (journals.is_voidable a.row a.next) voidable in
    let free = (both_true (a.row.stands && journal.is_read a.row.kind a.row.entry) (journals.is_free a.next) may).1 in
    record {
      opening = o;
      there = installed_there;
      fits = record { around = a; there = there; voidable = may; next = next_fits facts o a.before a.row a.next free none };
    }

void_fits : (facts : List Fact) (m : List ℕ) (place : ℕ) (found : Option Opening) → opening_of facts m ≡ found
    → is_not_voidable (option_and_then (λ o. option_map (place_in facts o) (journal.row_at place (rows_of facts o))) found) ≡ false
    → ((why : Cause) → is_held_for why (verdict_at (option_and_then (λ o. option_map (place_in facts o) (journal.row_at place (rows_of facts o))) found)) ≡ false)
    → LineFits facts m (journal.Voided place)
void_fits facts m place None is voidable none = absurd (let e : true ≡ false = voidable in cc)
void_fits facts m place (Some o) is voidable none = around_fits facts m place o (journal.row_at place (rows_of facts o)) is refl voidable none

by_cause : (P : Cause → Type 0) → P cause.NotAccumulated → P cause.ScaleChanged → P cause.NotLater → P cause.SpanTooLong → P cause.GapTooLong
    → P cause.TooFast → P cause.TotalFull → P cause.NotBelowRange → (c : Cause) → P c
by_cause P a b c d e f g h cause.NotAccumulated = a
by_cause P a b c d e f g h cause.ScaleChanged = b
by_cause P a b c d e f g h cause.NotLater = c
by_cause P a b c d e f g h cause.SpanTooLong = d
by_cause P a b c d e f g h cause.GapTooLong = e
by_cause P a b c d e f g h cause.TooFast = f
by_cause P a b c d e f g h cause.TotalFull = g
by_cause P a b c d e f g h cause.NotBelowRange = h

void_by : (past : History) (at : ℕ) (place : ℕ) (meter : Option (List ℕ)) → AreLawful (facts_of past)
    → refusal_of past at (event.Command (command.Void (record { meter = meter; place = place }))) ≡ None
    → AreLawful (facts_of (Fed at (event.Command (command.Void (record { meter = meter; place = place }))) ∷ past))
void_by past at place None h taken = h
void_by past at place (Some m) h taken =
    let facts : List Fact = facts_of past in
    let all = not_refused past at (event.Command (command.Void (record { meter = Some m; place = place }))) taken in
    let ten = all.1.1.1.1.1.1.1.1.1.1 in
    let limit = or_parts (nat_lt moment_limit at) _ ten.0 in
    let last = ten.1 in
    let none : (why : Cause) → is_held_for why (verdict_at (entry_at facts m place)) ≡ false =
    by_cause (λ why. is_held_for why (verdict_at (entry_at facts m place)) ≡ false)
    last.1.0 last.1.1.0 last.1.1.1.0 last.1.1.1.1.0 last.1.1.1.1.1.0 last.1.1.1.1.1.1.0 last.1.1.1.1.1.1.1.0 last.1.1.1.1.1.1.1.1.0 in
    ((void_fits facts m place (opening_of facts m) refl last.0 none, ltb-false moment_limit at limit.0), h)

-- If a void (cancellation) of an entry is accepted, then the records with the void still follow the
-- rules for adding records (`AreLawful`).
pub void_lawful : (past : History) (at : ℕ) (c : VoidEntry) → AreLawful (facts_of past) → refusal_of past at (event.Command (command.Void c)) ≡ None
    → AreLawful (facts_of (Fed at (event.Command (command.Void c)) ∷ past))
void_lawful past at c h taken = void_by past at c.place c.meter h taken

max_least : (a b c : ℕ) → a ≤ c → b ≤ c → max a b ≤ c
max_least a b c h k = grind (arith, nat_tests)

-- After the closing of a meter is recorded, the meter is closed.
ended_now : (facts : List Fact) (o : Opening) (meter : List ℕ) (e : Entry) → same meter o.meter ≡ true
    → is_ended (fact.Entry (record { meter = meter; kind = kind.Closing; entry = e }) ∷ facts) o ≡ true
ended_now facts o meter e is =
    ap (λ b. journal.is_ended (cons_option (cond b (Some (journal.Entered kind.Closing e)) None) (journal_of facts o.meter))) is

none_open : (facts : List Fact) (o : Opening) (b : Bool) → is_ended facts o ≡ b → b ≡ true → if_open (installation_of facts o) ≡ None
none_open facts o b is h = cond-true _ _ _ (is ∙ h)

free_after : (facts : List Fact) (o : Opening) (r : List ℕ) (e : Entry) → installed_at facts r ≡ Some o
    → open_at (fact.Entry (record { meter = o.meter; kind = kind.Closing; entry = e }) ∷ facts) r ≡ None
free_after facts o r e is =
    let f : Fact = fact.Entry (record { meter = o.meter; kind = kind.Closing; entry = e }) in
    ap (λ (x : Option Opening). option_and_then if_open (option_map (installation_of (f ∷ facts)) x)) is
    ∙ none_open (f ∷ facts) o (is_ended (f ∷ facts) o) refl (ended_now facts o o.meter e (same_itself o.meter))

-- If an exchange of meters is accepted, then the rules for meter entries accept its records. The
-- records are the closing of the old meter and the opening (first entry) of the new meter.
pub exchange_fits : (facts : List Fact) (at : ℕ) (r m : List ℕ) (o : Opening) (last rolls raw ceiling range : ℕ) (sf : ℤ) → AreLawful facts
    → at ≤ moment_limit → latest_in facts ≤ at
    → opening_of facts o.meter ≡ Some o → installed_at facts r ≡ Some o → is_ended facts o ≡ false
    → is_some (register_of facts r) ≡ true
    → journals.IsEntered (installed o) (entries_of facts o) (entry.Step at last rolls)
    → opening_of facts m ≡ None → (65536 ≤ range) × (range ≤ 4294967296) → raw < range → (negsuc 2 ≤ℤ sf) × (sf ≤ℤ pos 3) → (1 ≤ ceiling) × (ceiling ≤ 1000000000)
    → AreLawful (fact.Opening (record { meter = m; register = r; ceiling = ceiling; range = range; at = at; raw = raw; sf = sf })
    ∷ fact.Entry (record { meter = o.meter; kind = kind.Closing; entry = entry.Step at last rolls }) ∷ facts)
exchange_fits facts at r m o last rolls raw ceiling range sf h timely latest found there unended known entered new ranged below scale limited = (
  (
    record {
      new = new;
      free = free_after facts o r (entry.Step at last rolls) there;
      register = known;
      latest = max_least at (latest_in facts) at (omega arith) latest;
      range = ranged;
      raw = below;
      scale = scale;
      ceiling = limited;
    },
    timely,
  ),
  ((record { opening = o; there = found; fits = (unended, entered) }, timely), h),
)
