-- Proofs that the latest timestamp in the rows of `entries` equals the latest timestamp of the
-- meter entries that the store has recorded.
use Rattle.std.proofs.Common.{◌≡◌, ℕ, ◌≤◌, ◌==◌, ◌&&◌, Bool, true, false, cond, List, [], ◌∷◌, map, filter, get_or, is_some, Option, Some, None, refl, sym, ap, ap₂, subst, ◌∙◌, IsPermutation, arith}
use Rattle.std.specs.List.{AllByRecursion, All, find, cons_option}
use Rattle.std.proofs.lemmas.List.Sorted.{IsPermutation-sym}
use Rattle.std.proofs.lemmas.List.Elements.{All-from_recursion, recursion_from_All}
use Rattle.sqlite_keyed.proofs.ListLemmas.{all_weaker, all-filter}
use Rattle.energy_core.specs.declared.entries.Last.{Last}
use Rattle.energy_core.specs.declared.entries.Entry.{Entry}
use Rattle.energy_core.specs.declared.entries.Entry.TheVariants as entry
use Rattle.energy_core.specs.Account.{moment_of, last_of}
use Rattle.meter_journal.specs.declared.lines.EntryKind.{EntryKind}
use Rattle.meter_journal.specs.declared.lines.EntryRow.{EntryRow}
use Rattle.meter_journal.specs.Journal.{Line, Journal, Entered, Held, Voided, is_reading, entries_in, with_rolls, rolled, struck, with_void, rows_of}
use Rattle.office_events.specs.declared.facts.Opening.{Opening}
use Rattle.office_events.specs.declared.facts.BookedEntry.{BookedEntry}
use Rattle.office_events.specs.declared.facts.Fact.{Fact}
use Rattle.office_events.specs.declared.facts.Fact.TheVariants as fact
use Rattle.office_books.specs.Facts as facts_of
use Rattle.office_books.specs.Facts.{same, openings_in, opening_of}
use Rattle.office_books.specs.Lawful.{AreLawful}
use Rattle.office_books.specs.Meters.{opened, held_line, journal_of}
use Rattle.office_books.specs.Meters as meters
use Rattle.office_books.proofs.Lookups.{same_itself, each_found}
use Rattle.office_books.proofs.FoundOpenings.{openings_apart}
use Rattle.office_books.proofs.Stepping.{named}
use Rattle.store_tables.specs.Entries.Rows as entries
use Rattle.store_tables.specs.Entries.Rows.{is_of}
use Rattle.store_tables.specs.Entries.Latest.{entry_moment}
use Rattle.office_store.specs.Rows.{entered_rows, entries_at, entries_of}
use Rattle.office_store.proofs.Passing.{all_passing}
use Rattle.office_store.specs.Finding.Latest.{greatest, latest_entered}
use Rattle.office_store.proofs.FindingLemmas.Greatest.{permuted, none_past, at_most, below}
use Rattle.office_store.proofs.FindingLemmas.Lists.{all_found}

-- Lemmas that the timestamps in a meter's history are those of its entries.

abbrev moments_in : Journal → List ℕ
moments_in [] = []
moments_in (Entered k e ∷ lines) = moment_of e ∷ moments_in lines
moments_in (Held reading cause ∷ lines) = moments_in lines
moments_in (Voided place ∷ lines) = moments_in lines

abbrev moments_of : List EntryRow → List ℕ
moments_of rows = map (λ (row : EntryRow). moment_of row.entry) rows

roll_moment : (last : Last) (e : Entry) → moment_of (with_rolls last e) ≡ moment_of e
roll_moment last (entry.Step at raw rolls) = refl
roll_moment last (entry.Change at before after sf) = refl

rolled_if : (b : Bool) (row other : EntryRow) → moment_of other.entry ≡ moment_of row.entry → moment_of (cond b other row).entry ≡ moment_of row.entry
rolled_if true row other is = is
rolled_if false row other is = refl

void_if : (b : Bool) (one other : List EntryRow) (ms : List ℕ) → moments_of one ≡ ms → moments_of other ≡ ms → moments_of (cond b one other) ≡ ms
void_if true one other ms h k = h
void_if false one other ms h k = k

-- If an entry is voided (cancelled), the timestamps in the meter's history stay unchanged.
void_moments : (opening : Last) (place : ℕ) (rows : List EntryRow) → moments_of (with_void opening place rows) ≡ moments_of rows
void_moments opening place [] = refl
void_moments opening place (row ∷ rows) =
    let rest = with_void opening place rows in
    let last = last_of opening (entries_in rest) in
    void_if (row.place == place) (struck row ∷ rows) (rolled last row ∷ rest) (moments_of (row ∷ rows)) refl
    (ap₂ ◌∷◌ (rolled_if (row.stands && is_reading row.kind) row (record row { entry = with_rolls last row.entry }) (roll_moment last row.entry)) (void_moments opening place rows))

journal_moments : (opening : Last) (lines : Journal) → moments_of (rows_of opening lines) ≡ moments_in lines
journal_moments opening [] = refl
journal_moments opening (Entered k e ∷ lines) = ap (λ ms. moment_of e ∷ ms) (journal_moments opening lines)
journal_moments opening (Held reading cause ∷ lines) = journal_moments opening lines
journal_moments opening (Voided place ∷ lines) = void_moments opening place (rows_of opening lines) ∙ journal_moments opening lines

-- Lemmas that, if a property holds for all timestamps of a meter's entries, the property holds for
-- the timestamps in the meter's rows of `entries`.

module _ (P : ℕ → Type 0) where
  entered_all : (o : Opening) (rows : List EntryRow) → AllByRecursion P (moments_of rows) → P o.at → AllByRecursion (λ e. P (entry_moment e)) (entered_rows o rows)
  entered_all o [] all first = (first, tt)
  entered_all o (row ∷ rows) all first = (all.0, entered_all o rows all.1 first)

  entered_back : (o : Opening) (rows : List EntryRow) → AllByRecursion (λ e. P (entry_moment e)) (entered_rows o rows) → AllByRecursion P (moments_of rows) × P o.at
  entered_back o [] h = (tt, h.0)
  entered_back o (row ∷ rows) h = let rest = entered_back o rows h.1 in ((h.0, rest.0), rest.1)

  line_in : (b : Bool) (k : EntryKind) (e : Entry) (lines : Journal) → P (moment_of e) → AllByRecursion P (moments_in lines) → AllByRecursion P (moments_in (cons_option (cond b (Some (Entered k e)) None) lines))
  line_in true k e lines p h = (p, h)
  line_in false k e lines p h = h

  line_out : (b : Bool) (k : EntryKind) (e : Entry) (lines : Journal) → AllByRecursion P (moments_in (cons_option (cond b (Some (Entered k e)) None) lines)) → (b ≡ true → P (moment_of e)) × AllByRecursion P (moments_in lines)
  line_out true k e lines h = (λ is. h.0, h.1)
  line_out false k e lines h = (λ is. absurd (let f : false ≡ true = is in cc), h)

  -- A rejected reading, or a void (the cancellation of an entry), adds no timestamp to the
  -- timestamps of a meter's entries.
  other_in : (b : Bool) (line : Line) (lines : Journal) → moments_in (line ∷ lines) ≡ moments_in lines → moments_in (cons_option (cond b (Some line) None) lines) ≡ moments_in lines
  other_in true line lines is = is
  other_in false line lines is = refl

  journal_all : (meter : List ℕ) (facts : List Fact) → AllByRecursion (λ (b : BookedEntry). P (moment_of b.entry)) (facts_of.entries_in facts) → AllByRecursion P (moments_in (journal_of facts meter))
  journal_all meter [] h = tt
  journal_all meter (fact.Device d ∷ facts) h = journal_all meter facts h
  journal_all meter (fact.List l ∷ facts) h = journal_all meter facts h
  journal_all meter (fact.Register r ∷ facts) h = journal_all meter facts h
  journal_all meter (fact.Opening o ∷ facts) h = journal_all meter facts h
  journal_all meter (fact.Entry b ∷ facts) h = line_in (same b.meter meter) b.kind b.entry (journal_of facts meter) h.0 (journal_all meter facts h.1)
  journal_all meter (fact.Hold b ∷ facts) h = subst (AllByRecursion P) (sym (other_in (same b.meter meter) (held_line b) (journal_of facts meter) refl)) (journal_all meter facts h)
  journal_all meter (fact.Void v ∷ facts) h = subst (AllByRecursion P) (sym (other_in (same v.meter meter) (Voided v.place) (journal_of facts meter) refl)) (journal_all meter facts h)
  journal_all meter (fact.Poll p ∷ facts) h = journal_all meter facts h
  journal_all meter (fact.Outcome e ∷ facts) h = journal_all meter facts h
  journal_all meter (fact.Reply r ∷ facts) h = journal_all meter facts h

  journal_back : (meter : List ℕ) (facts : List Fact) → AllByRecursion P (moments_in (journal_of facts meter)) → AllByRecursion (λ (b : BookedEntry). same b.meter meter ≡ true → P (moment_of b.entry)) (facts_of.entries_in facts)
  journal_back meter [] h = tt
  journal_back meter (fact.Device d ∷ facts) h = journal_back meter facts h
  journal_back meter (fact.List l ∷ facts) h = journal_back meter facts h
  journal_back meter (fact.Register r ∷ facts) h = journal_back meter facts h
  journal_back meter (fact.Opening o ∷ facts) h = journal_back meter facts h
  journal_back meter (fact.Entry b ∷ facts) h = let parts = line_out (same b.meter meter) b.kind b.entry (journal_of facts meter) h in (parts.0, journal_back meter facts parts.1)
  journal_back meter (fact.Hold b ∷ facts) h = journal_back meter facts (subst (AllByRecursion P) (other_in (same b.meter meter) (held_line b) (journal_of facts meter) refl) h)
  journal_back meter (fact.Void v ∷ facts) h = journal_back meter facts (subst (AllByRecursion P) (other_in (same v.meter meter) (Voided v.place) (journal_of facts meter) refl) h)
  journal_back meter (fact.Poll p ∷ facts) h = journal_back meter facts h
  journal_back meter (fact.Outcome e ∷ facts) h = journal_back meter facts h
  journal_back meter (fact.Reply r ∷ facts) h = journal_back meter facts h

-- Lemmas that the timestamps of all recorded meter entries are the timestamps in the histories of
-- all meters.

some_after : {X : Type 0} (b : Bool) (x : X) (o : Option X) → is_some o ≡ true → is_some (cond b (Some x) o) ≡ true
some_after true x o h = refl
some_after false x o h = h

-- If the records are lawful (the store's rules accepted each after the earlier ones), each recorded
-- meter entry belongs to a meter that was installed.
has_opening : (facts : List Fact) → AreLawful facts → AllByRecursion (λ (b : BookedEntry). is_some (opening_of facts b.meter) ≡ true) (facts_of.entries_in facts)
has_opening [] h = tt
has_opening (fact.Device d ∷ facts) h = has_opening facts h.1
has_opening (fact.List l ∷ facts) h = has_opening facts h.1
has_opening (fact.Register r ∷ facts) h = has_opening facts h.1
has_opening (fact.Opening o ∷ facts) h =
    all_weaker _ (λ (b : BookedEntry). is_some (opening_of (fact.Opening o ∷ facts) b.meter) ≡ true) (λ b is. some_after (same o.meter b.meter) o (opening_of facts b.meter) is) (facts_of.entries_in facts) (has_opening facts h.1)
has_opening (fact.Entry b ∷ facts) h = (ap is_some h.0.0.there, has_opening facts h.1)
has_opening (fact.Hold b ∷ facts) h = has_opening facts h.1
has_opening (fact.Void v ∷ facts) h = has_opening facts h.1
has_opening (fact.Poll p ∷ facts) h = has_opening facts h.1
has_opening (fact.Outcome e ∷ facts) h = has_opening facts h.1
has_opening (fact.Reply r ∷ facts) h = has_opening facts h.1

module _ (facts : List Fact) (n : ℕ) where
  abbrev Early : ℕ → Type 0
  Early moment = moment ≤ n

  of_opening : (meter : List ℕ) (found : Option Opening) → opening_of facts meter ≡ found → is_some found ≡ true → AllByRecursion (λ e. Early (entry_moment e)) (entries_at facts found)
      → AllByRecursion (λ (b : BookedEntry). same b.meter meter ≡ true → Early (moment_of b.entry)) (facts_of.entries_in facts)
  of_opening meter None there is all = absurd (let f : false ≡ true = is in cc)
  of_opening meter (Some o) there is all =
      subst (λ (t : List ℕ). AllByRecursion (λ (b : BookedEntry). same b.meter t ≡ true → Early (moment_of b.entry)) (facts_of.entries_in facts)) (named facts meter o there)
      (journal_back Early o.meter facts (subst (AllByRecursion Early) (journal_moments (opened o) (journal_of facts o.meter)) (entered_back Early o (meters.rows_of facts o) all).0))

  -- No meter entry in the store's records, including the first entry of each meter, is later than
  -- the latest timestamp in `entries`.
  pub entries_above : AreLawful facts → ((meter : List ℕ) → AllByRecursion (λ e. Early (entry_moment e)) (entries_of facts meter)) → latest_entered facts ≤ n
  entries_above lawful each =
      let es = facts_of.entries_in facts in
      let found = each_found (λ (o : Opening). o.meter) (openings_in facts) (openings_apart facts lawful) in
      let first = at_most (λ (o : Opening). o.at) (openings_in facts) n
      (recursion_from_All (λ (o : Opening). Early o.at) (openings_in facts)
      (λ k d lt. let o = get_or (openings_in facts) k d in
      (entered_back Early o (meters.rows_of facts o) (subst (λ (f : Option Opening). AllByRecursion (λ e. Early (entry_moment e)) (entries_at facts f)) (found k d lt) (each o.meter))).1)) in
      let later = at_most (λ (b : BookedEntry). moment_of b.entry) es n
      (recursion_from_All (λ (b : BookedEntry). Early (moment_of b.entry)) es
      (λ k d lt. let meter = (get_or es k d).meter in
      let is = All-from_recursion (λ (b : BookedEntry). is_some (opening_of facts b.meter) ≡ true) es (has_opening facts lawful) k d lt in
      All-from_recursion (λ (b : BookedEntry). same b.meter meter ≡ true → Early (moment_of b.entry)) es (of_opening meter (opening_of facts meter) refl is (each meter)) k d lt (same_itself meter))) in
      omega (arith, first, later)

  below_found : (meter : List ℕ) (found : Option Opening) → opening_of facts meter ≡ found → latest_entered facts ≤ n → AllByRecursion (λ e. Early (entry_moment e)) (entries_at facts found)
  below_found meter None there h = tt
  below_found meter (Some o) there h =
      entered_all Early o (meters.rows_of facts o)
      (subst (AllByRecursion Early) (sym (journal_moments (opened o) (journal_of facts o.meter)))
      (journal_all Early o.meter facts (none_past (λ (b : BookedEntry). moment_of b.entry) (facts_of.entries_in facts) n (omega (arith, h)))))
      (all_found (λ (q : Opening). Early q.at) (λ (q : Opening). same q.meter meter) (openings_in facts) o (none_past (λ (q : Opening). q.at) (openings_in facts) n (omega (arith, h))) there)

  -- The latest timestamp in `entries` is at most the latest timestamp of all meter entries in the
  -- store's records, including first entries.
  pub entries_below : (meter : List ℕ) → latest_entered facts ≤ n → AllByRecursion (λ e. Early (entry_moment e)) (entries_of facts meter)
  entries_below meter h = below_found meter (opening_of facts meter) refl h

-- Lemmas that the latest timestamp in the table `entries` is the latest timestamp of all meters'
-- entries.

all_own : (P : entries.Entered → Type 0) (p : entries.Entered → Bool) (rows : List entries.Entered) → AllByRecursion P (filter p rows) → AllByRecursion (λ e. p e ≡ true → P e) rows
all_own P p rows h =
    all_passing (λ e. p e ≡ true → P e) p (λ e off is. absurd (let f : true ≡ false = sym is ∙ off in cc)) rows (all_weaker P (λ e. p e ≡ true → P e) (λ e own is. own) (filter p rows) h)

pub by_meter : (P : entries.Entered → Type 0) (rows : List entries.Entered) → ((meter : List ℕ) → AllByRecursion P (filter (is_of meter) rows)) → AllByRecursion P rows
by_meter P rows each =
    recursion_from_All P rows (λ k d lt.
    let meter = (get_or rows k d).meter in All-from_recursion (λ e. is_of meter e ≡ true → P e) rows (all_own P (is_of meter) rows (each meter)) k d lt (same_itself meter))

pub table_latest : (facts : List Fact) (rows : List entries.Entered) → AreLawful facts → ((meter : List ℕ) → IsPermutation (filter (is_of meter) rows) (entries_of facts meter)) → greatest entry_moment rows ≡ latest_entered facts
table_latest facts rows lawful each =
    let high = entries_above facts (greatest entry_moment rows) lawful
    (λ meter. permuted (λ e. entry_moment e ≤ greatest entry_moment rows) (filter (is_of meter) rows) (entries_of facts meter) (each meter) (all-filter (λ e. entry_moment e ≤ greatest entry_moment rows) (is_of meter) rows (below entry_moment rows))) in
    let low = at_most entry_moment rows (latest_entered facts)
    (by_meter (λ e. entry_moment e ≤ latest_entered facts) rows (λ meter.
    permuted (λ e. entry_moment e ≤ latest_entered facts) (entries_of facts meter) (filter (is_of meter) rows) (IsPermutation-sym _ _ (each meter)) (entries_below facts (latest_entered facts) meter (omega arith)))) in
    omega (arith, high, low)
