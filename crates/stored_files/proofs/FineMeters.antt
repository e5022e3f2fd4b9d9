-- Lemmas on one meter in whose rows an audit finds no discrepancy: its interval rows (energy by
-- quarter hour) are in order of time, and between the meter's first and last entry.
use Rattle.std.proofs.Common.{◌≡◌, ℕ, ◌*◌, ◌^◌, ◌≤◌, Bool, true, false, List, [], ◌∷◌, Option, Some, None, Ok, Result, refl, sym, ap, subst, ◌∙◌, arith}
use Rattle.std.specs.Prelude.{All, if◌then◌else◌}
use Rattle.std.proofs.lemmas.Bool.{leb-true}
use Rattle.energy_core.specs.declared.entries.Last.{Last}
use Rattle.energy_core.specs.declared.limits.TheConstants.{MAX_SHOWN}
use Rattle.interval_core.specs.Account.{energy_of}
use Rattle.meter_journal.specs.declared.audit.rows.TableRow.{TableRow}
use Rattle.meter_journal.specs.Books.{interval_rows, last_in}
use Rattle.meter_journal.specs.Changes.{LiesWithin, RowsLieWithin}
use Rattle.meter_journal.specs.Laws.{IntervalRowsAreAccounts}
use Rattle.meter_journal.specs.Audit.Fitting.{Tables}
use Rattle.meter_journal.specs.Audit.Laws.{FineTablesAreLawful}
use Rattle.office_books.specs.Facts.{moment_limit}
use Rattle.sqlite.specs.Order.{Row, column}
use Rattle.store_tables.specs.Columns.{whole_in, within}
use Rattle.store_tables.specs.Content.{Content}
use Rattle.store_tables.specs.Limits.{greatest_place, latest_moment}
use Rattle.store_tables.specs.Meters.Rows.{installation_in}
use Rattle.store_tables.specs.declared.faults.RowFault.{RowFault}
use Rattle.store_tables.specs.declared.meters.rows.InstallationRow.{InstallationRow}
use Rattle.store_tables.proofs.ReadLemmas.{ok_is, then_read, has_read}
use Rattle.store_tables.proofs.MetersLemmas.ReadRows.{sound_installation}
use Rattle.table_audit.specs.declared.rows.MeterRows.{MeterRows}
use Rattle.table_audit.specs.declared.spans.MeterSpan.{MeterSpan}
use Rattle.table_audit.specs.Fine.{IsFine}
use Rattle.table_audit.specs.Lawful.{tables_from}
use Rattle.table_audit.specs.Meters.{LookedAt, IsLookedUp, AreTheirs, IsFineAt, span_in}
use Rattle.table_audit.specs.Reading.{all_in, entry_in, kind_in, name_in}
use Rattle.table_audit.specs.Spans.{closed_in, is_closed_by, opened_in, span_of}
use Rattle.stored_files.specs.FineFiles.{AreWhole, shares_of, shares_read}
use Rattle.stored_files.proofs.RowOrder.{NeverFall, never_ascending}

-- The theorems on the tables and the history of a single meter that the proofs use.
pub record FromJournals : Type 0 where
  pub tables : FineTablesAreLawful
  pub accounts : IntervalRowsAreAccounts
  pub within : RowsLieWithin

-- Lemmas: the time of a meter's opening (first entry) is the time in its first row of entries.

no_rows : (entries : List TableRow) (opening : TableRow) (later : List TableRow) → (let r : Result (List TableRow) RowFault = Ok [] in r) ≡ Ok entries
    → entries ≡ opening ∷ later → ⊥
no_rows entries opening later read first =
    let none : [] ≡ opening ∷ later = ok_is read ∙ first in
    cc

same_first : (a b : TableRow) (rows others : List TableRow) → a ∷ rows ≡ b ∷ others → a ≡ b
same_first a b rows others h = cc

opened_read : (read : Row → Result TableRow RowFault)
    → ((row : Row) (entry : TableRow) → read row ≡ Ok entry → whole_in 0 latest_moment (column row 2) ≡ Some entry.moment)
    → (items : List Row) (entries : List TableRow) (opening : TableRow) (later : List TableRow) → all_in read items ≡ Ok entries → entries ≡ opening ∷ later
    → opened_in items ≡ Some opening.moment
opened_read read moment [] entries opening later are first = absurd (no_rows entries opening later are first)
opened_read read moment (row ∷ rows) entries opening later are first =
    let one = then_read (read row) _ entries are in
    let rest = then_read (all_in read rows) _ entries one.2 in
    let same : one.0 ≡ opening = same_first one.0 opening rest.0 later (ok_is rest.2 ∙ first) in
    moment row one.0 one.1 ∙ ap (λ (e : TableRow). Some e.moment) same

-- States that the interval rows of one meter are in order of time, and between the meter's opening
-- (first entry) and its last entry. Their energies add up to the meter's total energy.
pub record HasRowsInOrder (installation : InstallationRow) (rows : MeterRows) : Type 0 where
  pub opened : ℕ
  pub opened_is : opened_in rows.entries.items ≡ Some opened
  pub never_fall : NeverFall (shares_of (Some rows))
  pub within : All (LiesWithin opened installation.last.moment) (shares_of (Some rows))
  pub energy : energy_of (shares_of (Some rows)) ≡ installation.last.total

rows_in_order : FromJournals → (installation : InstallationRow) (rows : MeterRows) → IsFine installation rows → HasRowsInOrder installation rows
rows_in_order law installation rows fine =
    let lawful = fine.lawful in
    let meter = lawful.meter in
    let well = lawful.may.installed in
    let tables : Tables = tables_from fine.entries fine.shares installation in
    let journal = law.tables meter tables well lawful.fine in
    let read : shares_of (Some rows) ≡ fine.shares = ap shares_read fine.shares_read in
    let are : interval_rows meter journal.lines ≡ shares_of (Some rows) = sym (read ∙ journal.intervals) in
    let last : (last_in meter journal.lines).at ≡ installation.last.moment = sym (ap (λ (l : Last). l.at) journal.last) in
    let lies = law.within meter journal.lines well journal.fit in
    let up_to_last : All (LiesWithin meter.opening.at installation.last.moment) (interval_rows meter journal.lines) =
    subst (λ n. All (LiesWithin meter.opening.at n) (interval_rows meter journal.lines)) last lies in
    let opening : lawful.opening.moment ≡ meter.opening.at = ap (λ (e : TableRow). e.moment) lawful.opened.opening_is in
    let moment : (row : Row) (entry : TableRow) → entry_in fine.voids row ≡ Ok entry → whole_in 0 latest_moment (column row 2) ≡ Some entry.moment =
    λ row entry is.
    let place = has_read (whole_in 1 greatest_place (column row 0)) _ entry is in
    let kind = has_read (kind_in (column row 1)) _ entry place.rest in
    let at = has_read (whole_in 0 latest_moment (column row 2)) _ entry kind.rest in
    let raw = has_read (whole_in 0 MAX_SHOWN (column row 3)) _ entry at.rest in
    let rolls = has_read (whole_in 0 255 (column row 4)) _ entry raw.rest in
    let after = has_read (whole_in 0 MAX_SHOWN (column row 5)) _ entry rolls.rest in
    let sf = has_read (within 3 (column row 6)) _ entry after.rest in
    at.is ∙ ap (λ (e : TableRow). Some e.moment) (ok_is sf.rest) in
    record {
      opened = meter.opening.at;
      opened_is =
          opened_read (entry_in fine.voids) moment rows.entries.items fine.entries lawful.opening lawful.later fine.entries_read lawful.first
          ∙ ap (λ n. Some n) opening;
      never_fall =
          subst NeverFall are (never_ascending (interval_rows meter journal.lines) (law.accounts meter journal.lines well journal.fit).in_order);
      within = subst (λ shares. All (LiesWithin meter.opening.at installation.last.moment) shares) are up_to_last;
      energy = ap energy_of read ∙ journal.adds_up;
    }

-- Lemmas: the time during which a meter is installed follows from its rows.

span_from : (row : Row) (rows : MeterRows) (meter register : List ℕ) (opened : ℕ) (installation : InstallationRow)
    → name_in (column row 1) ≡ Some meter → name_in (column row 2) ≡ Some register → opened_in rows.entries.items ≡ Some opened
    → installation_in row ≡ Ok installation
    → span_of row rows ≡ Some (record { register = register; meter = meter; opened = opened; closed = closed_in installation })
span_from row rows meter register opened installation a b c d = rw a (rw b (rw c (rw d refl)))

closed_by : (is_ended : Bool) (last opened : ℕ) → is_closed_by (if is_ended then Some last else None) opened ≡ true → last ≤ opened
closed_by true last opened h = leb-true last opened h
closed_by false last opened h = absurd (let g : false ≡ true = h in cc)

-- States that the interval rows of one meter are in order of time, and between the meter's opening
-- (first entry) and its last entry. A meter that was closed has its last entry at its closing.
pub record IsInOrder (one : LookedAt) : Type 0 where
  pub span : MeterSpan
  pub span_is : span_in one.row one.rows ≡ Some span
  pub register_is : name_in (column one.row 2) ≡ Some span.register
  pub last : ℕ
  pub closed : (opened : ℕ) → is_closed_by span.closed opened ≡ true → last ≤ opened
  pub limit : last ≤ moment_limit
  pub whole : AreWhole one.rows
  pub never_fall : NeverFall (shares_of one.rows)
  pub within : All (LiesWithin span.opened last) (shares_of one.rows)
  pub energy : energy_of (shares_of one.rows) ≤ 4 * 10 ^ 18

in_order_at : FromJournals → (content : Content) (place : ℕ) (row : Row) (rows : Option MeterRows) → AreTheirs content row rows → IsFineAt place row rows
    → IsInOrder (record { row = row; rows = rows })
in_order_at law content place row None theirs fine = absurd fine
in_order_at law content place row (Some rows) theirs fine =
    let installation = fine.installation in
    let own = rows_in_order law installation rows fine.fine in
    let sound = sound_installation row installation fine.read in
    record {
      span = record { register = fine.register; meter = theirs.0; opened = own.opened; closed = closed_in installation };
      span_is = span_from row rows theirs.0 fine.register own.opened installation theirs.1 fine.register_named own.opened_is fine.read;
      register_is = fine.register_named;
      last = installation.last.moment;
      closed = closed_by installation.is_ended installation.last.moment;
      limit = sound.last.moment;
      whole = (fine.fine.shares, fine.fine.shares_read);
      never_fall = own.never_fall;
      within = own.within;
      energy = omega (arith, own.energy, sound.last.total);
    }

pub in_order : FromJournals → (content : Content) (place : ℕ) (one : LookedAt) → IsLookedUp content one → IsFineAt place one.row one.rows → IsInOrder one
in_order law content place one theirs fine = in_order_at law content place one.row one.rows theirs fine

-- The index of a meter in which an audit finds no discrepancy is at most 2^62.
pub placed_within : (place : ℕ) (row : Row) (rows : Option MeterRows) → IsFineAt place row rows → place ≤ 2 ^ 62
placed_within place row None fine = absurd fine
placed_within place row (Some rows) fine =
    let sound = sound_installation row fine.installation fine.read in
    omega (arith, fine.placed, sound.place.1)
