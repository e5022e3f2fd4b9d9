-- Properties of a meter's state after the records of a pending write (records not yet stored).
use Rattle.std.proofs.Common.{◌≡◌, ℕ, ◌+◌, ◌<◌, Bool, true, false, cond, List, [], ◌∷◌, ◌++◌, reverse, take, length, get_or, refl, sym, ap, subst, ◌∙◌, Option, Some, None, suc, arith}
use Rattle.std.specs.List.{cons_option, find, Contains}
use Rattle.std.specs.Option.{option_map, option_and_then}
use Rattle.std.proofs.lemmas.List.{reverse-append, take_more}
use Rattle.std.proofs.lemmas.List.Elements.{All-contains}
use Rattle.std.proofs.lemmas.Option.{same_Some}
use Rattle.energy_core.specs.declared.entries.Last.{Last}
use Rattle.energy_core.specs.declared.entries.Step.{Step}
use Rattle.energy_core.specs.declared.entries.Entry.{Entry}
use Rattle.energy_core.specs.declared.entries.Entry.TheVariants as entry
use Rattle.energy_core.specs.Laws as energy
use Rattle.meter_journal.specs.declared.lines.EntryKind.{EntryKind}
use Rattle.meter_journal.specs.declared.lines.EntryKind.TheVariants as kind
use Rattle.meter_journal.specs.Journal as journal
use Rattle.meter_journal.specs.Books.{HasAccount}
use Rattle.meter_journal.specs.Fitting as journals
use Rattle.office_events.specs.declared.facts.Opening.{Opening}
use Rattle.office_events.specs.declared.facts.BookedEntry.{BookedEntry}
use Rattle.office_events.specs.declared.facts.Fact.{Fact}
use Rattle.office_events.specs.declared.facts.Fact.TheVariants as fact
use Rattle.office_events.specs.declared.questions.Installation.{Installation}
use Rattle.office_books.specs.Facts.{same, openings_in, opening_of, installed_at}
use Rattle.office_books.specs.Meters.{opened, installed, held_line, journal_of, standing, installation_of, installation_at, if_open, open_at}
use Rattle.office_books.specs.Lawful.{LineFits, AreLawful}
use Rattle.office_books.specs.Laws.{IsRecorded, MetersAreKept}
use Rattle.office_books.proofs.Lookups.{same_text}
use Rattle.office_books.specs.Lawfulness.{NamesAreDistinct}
use Rattle.office_books.specs.Ranges.{IsSound}
use Rattle.office_core.specs.Settling.Drafts.{IsReported, AreReported}
use Rattle.office_core.specs.Settling.Following.{with_result, with_entry, installation_with, IsIn, IsAfterFacts}
use Rattle.office_core.proofs.SettlingLemmas.Reported.{reported_openings, reported_first, reported_at, lawful_first}

-- The theorems about meter entries that the proofs about pending writes (records not yet stored)
-- use.
pub record Laws : Type 0 where
  pub names : NamesAreDistinct
  pub kept : MetersAreKept
  pub accepted : energy.AcceptedIsEntered
  pub booked : energy.EnteredIsBooked
  pub go_on : energy.AccountsGoOn

-- The state of an installed meter after the entries of its journal (history).
abbrev at_journal : Opening → journal.Journal → Installation
at_journal o lines = standing o (journal.entries_of (opened o) lines) (journal.is_ended lines)

-- If a reading of a meter is accepted, then the state of the installed meter advances to the
-- reading.
reading_entered : Laws → (o : Opening) (lines : journal.Journal) (k : EntryKind) (e : Entry) → k ≡ kind.Reading
    → journals.EntryFits (installed o) (journal.entries_of (opened o) lines) k e → HasAccount (installed o) (journal.entries_of (opened o) lines)
    → (at_journal o lines).last.raw < o.range → with_entry (at_journal o lines) e ≡ at_journal o (journal.Entered k e ∷ lines)
reading_entered laws o lines kind.Reading (entry.Step at raw rolls) is fits account low =
    let row : Installation = at_journal o lines in
    let next : Last = record { at = at; raw = raw; sf = row.last.sf } in
    let step : Step = record { from = row.last.at; till = at; mwh = fits.step } in
    let entered = laws.accepted o.range (record { ceiling = o.ceiling; total = row.total }) row.last
    (journals.reading_at row.last at raw) rolls fits.step low fits.accepted in
    let all = laws.go_on o.range (opened o) (journal.entries_of (opened o) lines) row.last row.total (entry.Step at raw rolls) next step account
    ((laws.booked o.range row.total row.last (entry.Step at raw rolls) next step).0 entered) in
    ap (with_result row) entered
    ∙ ap (λ (n : ℕ). record row { last = next; total = n }) all.total_is
reading_entered laws o lines kind.Reading (entry.Change at before after sf) is fits account low = absurd fits
reading_entered laws o lines kind.Manual e is fits account low = absurd (cc)
reading_entered laws o lines kind.Closing e is fits account low = absurd (cc)
reading_entered laws o lines kind.Reset e is fits account low = absurd (cc)
reading_entered laws o lines kind.Rescale e is fits account low = absurd (cc)

-- If an accepted reading is added to a pending write (records not yet stored), then only the state
-- of the reading's meter advances.
booked_goes_on : Laws → (facts : List Fact) (o : Opening) (b : BookedEntry) (same_meter : Bool) → same b.meter o.meter ≡ same_meter
    → b.kind ≡ kind.Reading → LineFits facts b.meter (journal.Entered b.kind b.entry) → AreLawful facts → IsRecorded facts o
    → (installation_of facts o).last.raw < o.range
    → cond same_meter (with_entry (installation_of facts o) b.entry) (installation_of facts o)
    ≡ at_journal o (cons_option (cond same_meter (Some (journal.Entered b.kind b.entry)) None) (journal_of facts o.meter))
booked_goes_on laws facts o b false e is fits lawful recorded low = refl
booked_goes_on laws facts o b true e is fits lawful recorded low =
    let there : opening_of facts o.meter ≡ Some fits.opening =
    subst (λ (m : List ℕ). opening_of facts m ≡ Some fits.opening) (same_text b.meter o.meter e) fits.there in
    let found : opening_of facts o.meter ≡ Some o =
    All-contains (λ (x : Opening). opening_of facts x.meter ≡ Some x) (openings_in facts) o (laws.names facts lawful).meter_found recorded in
    let own : journals.Fits (installed o) (journal_of facts o.meter) (journal.Entered b.kind b.entry) =
    subst (λ (x : Opening). journals.Fits (installed x) (journal_of facts x.meter) (journal.Entered b.kind b.entry))
    (same_Some fits.opening o (sym there ∙ found)) fits.fits in
    reading_entered laws o (journal_of facts o.meter) b.kind b.entry is own.1 (laws.kept facts o lawful recorded).account.account low

known_goes_on : (o : Opening) (lines : journal.Journal) (line : journal.Line) (b : Bool) → journal.rows_of (opened o) (line ∷ lines) ≡ journal.rows_of (opened o) lines
    → journal.is_ended (line ∷ lines) ≡ journal.is_ended lines
    → at_journal o lines ≡ at_journal o (cons_option (cond b (Some line) None) lines)
known_goes_on o lines line false rows ended = refl
known_goes_on o lines line true rows ended =
    ap (λ rs. standing o (journal.entries_in rs) (journal.is_ended lines)) (sym rows)
    ∙ ap (λ e. standing o (journal.entries_of (opened o) (line ∷ lines)) e) (sym ended)

-- Suppose that a poll's outcome or a reading is added to the records. Then the state of an
-- installed meter before it, changed by this record alone, equals the state computed from all
-- records.
pub goes_on : Laws → (f : Fact) (facts : List Fact) (o : Opening) → IsReported f → AreLawful (f ∷ facts) → IsRecorded facts o
    → (installation_of facts o).last.raw < o.range → installation_with f (installation_of facts o) ≡ installation_of (f ∷ facts) o
goes_on laws (fact.Device device) facts o reported h recorded low = absurd reported
goes_on laws (fact.List put) facts o reported h recorded low = absurd reported
goes_on laws (fact.Register register) facts o reported h recorded low = absurd reported
goes_on laws (fact.Opening opening) facts o reported h recorded low = absurd reported
goes_on laws (fact.Entry b) facts o reported h recorded low =
    booked_goes_on laws facts o b (same b.meter o.meter) refl reported h.0.0 h.1 recorded low
goes_on laws (fact.Hold held) facts o reported h recorded low =
    known_goes_on o (journal_of facts o.meter) (held_line held) (same held.meter o.meter) refl refl
goes_on laws (fact.Void voided) facts o reported h recorded low = absurd reported
goes_on laws (fact.Poll poll) facts o reported h recorded low = absurd reported
goes_on laws (fact.Outcome ended) facts o reported h recorded low = refl
goes_on laws (fact.Reply reply) facts o reported h recorded low = absurd reported

-- True if the second installation is the state of the first one's meter after the first `i` records
-- of a pending write (records not yet stored).
abbrev pub StandsAfterFirst : Installation → List Fact → ℕ → Installation → Type 0
StandsAfterFirst row facts i following = (known : List Fact) → AreReported facts → AreLawful (reverse facts ++ known)
    → IsIn known row → following ≡ installation_of (reverse (take i facts) ++ known) row.opening

still_recorded : (facts known : List Fact) (o : Opening) → AreReported facts → IsRecorded known o → IsRecorded (reverse facts ++ known) o
still_recorded facts known o reported recorded =
    subst (λ (os : List Opening). Contains os o) (sym (reported_openings facts known reported)) recorded

reverse_more : (facts : List Fact) (i : ℕ) (x : Fact) → i < length facts → x ≡ get_or facts i x → reverse (take (i + 1) facts) ≡ x ∷ reverse (take i facts)
reverse_more facts i x less is =
    ap reverse (take_more facts i x less ∙ ap (λ y. take i facts ++ y ∷ []) (sym is)) ∙ reverse-append (take i facts) (x ∷ [])

pub one_fact_more : Laws → (row : Installation) (facts : List Fact) (i : ℕ) (following new : Installation) (x : Fact)
    → i < length facts → x ≡ get_or facts i x → IsSound following → StandsAfterFirst row facts i following → new ≡ installation_with x following
    → StandsAfterFirst row facts (i + 1) new
one_fact_more laws row facts i following new x less is sound stands with_it = λ known reported lawful at_first.
    let first : List Fact = reverse (take i facts) ++ known in
    let more : reverse (take (i + 1) facts) ++ known ≡ x ∷ first = ap (λ fs. fs ++ known) (reverse_more facts i x less is) in
    let fits : AreLawful (x ∷ first) = subst AreLawful more (lawful_first facts known (i + 1) lawful) in
    let here : following ≡ installation_of first row.opening = stands known reported lawful at_first in
    let low : (installation_of first row.opening).last.raw < row.opening.range =
    subst (λ (r : Installation). r.last.raw < r.opening.range) here sound.raw in
    with_it
    ∙ ap (installation_with x) here
    ∙ goes_on laws x first row.opening (reported_at facts i x less is reported) fits (still_recorded (take i facts) known row.opening (reported_first i facts reported) at_first.recorded) low
    ∙ ap (λ fs. installation_of fs row.opening) (sym more)

-- If a search finds an element in a list, then the element is in the list.
found_step : {X : Type 0} (p : X → Bool) (b : Bool) (y x : X) (ys : List X) → (find p ys ≡ Some x → Contains ys x)
    → cond b (Some y) (find p ys) ≡ Some x → Contains (y ∷ ys) x
found_step p true y x ys later h = (0, omega arith, same_Some y x h)
found_step p false y x ys later h = let there = later h in (suc there.0, omega (arith, there.1), there.2)

found_contains : {X : Type 0} (p : X → Bool) (xs : List X) (x : X) → find p xs ≡ Some x → Contains xs x
found_contains p [] x h = absurd (cc)
found_contains p (y ∷ ys) x h = found_step p (p y) y x ys (found_contains p ys x) h

-- Records of poll outcomes and of readings install no meter.
installed_after : (facts known : List Fact) (register : List ℕ) → AreReported facts → installed_at (reverse facts ++ known) register ≡ installed_at known register
installed_after facts known register reported =
    ap (λ os. find (λ (o : Opening). same o.register register) os) (reported_openings facts known reported)

-- If an accounting register (a named energy counter) has no open meter, then it still has none
-- after polls end and readings are recorded.
pub none_open : (facts known : List Fact) (register : List ℕ) → AreReported facts → None ≡ installation_at known register
    → None ≡ open_at (reverse facts ++ known) register
none_open facts known register reported none =
    none_by (installed_at known register) none
    ∙ ap (λ o. option_and_then if_open (option_map (installation_of (reverse facts ++ known)) o)) (sym (installed_after facts known register reported))
  where
    none_by : (o : Option Opening) → None ≡ option_map (installation_of known) o
        → None ≡ option_and_then if_open (option_map (installation_of (reverse facts ++ known)) o)
    none_by None h = refl
    none_by (Some opening) h = absurd (cc)

-- After a pending write, the state of an accounting register's open meter
-- is its state in the store, advanced by the pending records.
found_open : (facts known : List Fact) (register : List ℕ) (row new : Installation) (found : Option Opening) → AreReported facts → AreLawful (reverse facts ++ known)
    → IsAfterFacts row facts new → installed_at known register ≡ found → Some row ≡ option_map (installation_of known) found
    → if_open new ≡ open_at (reverse facts ++ known) register
found_open facts known register row new None reported lawful stands there is = absurd (cc)
found_open facts known register row new (Some o) reported lawful stands there is =
    let F : List Fact = reverse facts ++ known in
    let row_is : row ≡ installation_of known o = same_Some row (installation_of known o) is in
    let opening_is : row.opening ≡ o = ap (λ (r : Installation). r.opening) row_is in
    let at_first : IsIn known row = record {
      recorded =
          subst (IsRecorded known) (sym opening_is)
          (found_contains (λ (x : Opening). same x.register register) (openings_in known) o there);
      stands = row_is ∙ ap (installation_of known) (sym opening_is);
    } in
    let new_is : new ≡ installation_of F o = stands known reported lawful at_first ∙ ap (installation_of F) opening_is in
    ap if_open new_is
    ∙ ap (λ x. option_and_then if_open (option_map (installation_of F) x)) (sym (installed_after facts known register reported ∙ there))

pub open_after : (facts known : List Fact) (register : List ℕ) (row new : Installation) → AreReported facts → AreLawful (reverse facts ++ known)
    → IsAfterFacts row facts new → Some row ≡ installation_at known register → if_open new ≡ open_at (reverse facts ++ known) register
open_after facts known register row new reported lawful stands is =
    found_open facts known register row new (installed_at known register) reported lawful stands refl is
