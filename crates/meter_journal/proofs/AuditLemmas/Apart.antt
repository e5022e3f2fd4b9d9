-- Lemmas: if the rules for meter entries accept entry rows of a meter, then these rows can be read
-- back from their rows in the database table.
use Rattle.std.proofs.Common.{◌≡◌, ℕ, ◌+◌, ◌<◌, Bool, true, false, not, List, [], ◌∷◌, ◌++◌, reverse, take, drop, length, get_or, Option, Some, None, Result, Ok, Err, IsOk, refl, sym, ap, subst, ◌∙◌}
use Rattle.std.proofs.lemmas.Option.{slice_get-get_or}
use Rattle.std.proofs.lemmas.List.{reverse-append, take_more, take-append-drop}
use Rattle.energy_core.specs.declared.entries.Step.{Step}
use Rattle.energy_core.specs.declared.entries.Entry.{Entry}
use Rattle.energy_core.specs.declared.entries.Entry.TheVariants as entry
use Rattle.meter_journal.specs.declared.lines.Installed.{Installed}
use Rattle.meter_journal.specs.declared.lines.EntryKind.{EntryKind}
use Rattle.meter_journal.specs.declared.lines.EntryKind.TheVariants as kind
use Rattle.meter_journal.specs.declared.lines.EntryRow.{EntryRow}
use Rattle.meter_journal.specs.Books.{IsWellInstalled}
use Rattle.meter_journal.specs.Journal.{entries_in}
use Rattle.meter_journal.specs.declared.audit.checks.Check.{Check}
use Rattle.meter_journal.specs.declared.audit.faults.RowFault.{RowFault}
use Rattle.meter_journal.specs.declared.audit.rows.TableRow.{TableRow}
use Rattle.meter_journal.specs.Audit.Rows.{scale_after, table_row, later_rows}
use Rattle.meter_journal.specs.Audit.Fitting.{MayCome, RowFits, AllFit, AreReported}
use Rattle.meter_journal.specs.Audit.Passing.{kind_in, entry_in, passed}
use Rattle.meter_journal.specs.Audit.Laws.{check_after, PassedRowsFit, RowsAreReportedApart, HasPassed, IsFirstRefused}
use Rattle.meter_journal.proofs.AuditLemmas.Passing.{fitting_rows_pass}

abbrev kind_or : Option EntryKind → EntryKind
kind_or None = kind.Reading
kind_or (Some k) = k

-- The entry row of a meter that a row of the database table encodes.
abbrev decoded : TableRow → EntryRow
decoded reported = record {
  place = reported.place;
  kind = kind_or (kind_in reported.kind);
  entry = entry_in (kind_or (kind_in reported.kind)) reported;
  stands = not reported.is_voided;
}

abbrev row_with : (place : ℕ) → EntryKind → Entry → Bool → EntryRow
row_with place k e stands = record { place = place; kind = k; entry = e; stands = stands }

abbrev reported_after : Installed → List EntryRow → EntryRow → TableRow
reported_after meter rows row = table_row (scale_after meter (row ∷ rows)) row

read_back : (meter : Installed) (rows : List EntryRow) (place : ℕ) (stands : Bool) (k : EntryKind) (e : Entry)
    → MayCome meter (entries_in rows) stands k e
    → decoded (reported_after meter rows (row_with place k e stands)) ≡ row_with place k e stands
read_back meter rows place true kind.Reading (entry.Step at raw rolls) h = refl
read_back meter rows place true kind.Manual (entry.Step at raw rolls) h = refl
read_back meter rows place true kind.Closing (entry.Step at raw rolls) h = refl
read_back meter rows place true kind.Reset (entry.Change at before new sf) h = refl
read_back meter rows place true kind.Rescale (entry.Change at before new sf) h = refl
read_back meter rows place true kind.Reading (entry.Change at before new sf) h = absurd h
read_back meter rows place true kind.Manual (entry.Change at before new sf) h = absurd h
read_back meter rows place true kind.Closing (entry.Change at before new sf) h = absurd h
read_back meter rows place true kind.Reset (entry.Step at raw rolls) h = absurd h
read_back meter rows place true kind.Rescale (entry.Step at raw rolls) h = absurd h
read_back meter rows place false kind.Reading (entry.Step at raw rolls) h = refl
read_back meter rows place false kind.Reading (entry.Change at before new sf) h = absurd h
read_back meter rows place false kind.Manual e h = absurd h
read_back meter rows place false kind.Closing e h = absurd h
read_back meter rows place false kind.Reset e h = absurd h
read_back meter rows place false kind.Rescale e h = absurd h

is_back : (meter : Installed) (rows : List EntryRow) (row : EntryRow) → RowFits meter rows row → decoded (reported_after meter rows row) ≡ row
is_back meter rows row fits = read_back meter rows row.place row.stands row.kind row.entry fits.entry

pub same_head : {X : Type 0} (x y : X) (xs ys : List X) → x ∷ xs ≡ y ∷ ys → x ≡ y
same_head x y xs ys h = cc

pub same_tail : {X : Type 0} (x y : X) (xs ys : List X) → x ∷ xs ≡ y ∷ ys → xs ≡ ys
same_tail x y xs ys h = cc

pub rows_are_distinct : RowsAreReportedApart
rows_are_distinct meter [] [] fit fit' h = refl
rows_are_distinct meter [] (row' ∷ rows') fit fit' h = absurd (cc)
rows_are_distinct meter (row ∷ rows) [] fit fit' h = absurd (cc)
rows_are_distinct meter (row ∷ rows) (row' ∷ rows') fit fit' h =
    let head = same_head (reported_after meter rows row) (reported_after meter rows' row') (later_rows meter rows) (later_rows meter rows') h in
    let tail = same_tail (reported_after meter rows row) (reported_after meter rows' row') (later_rows meter rows) (later_rows meter rows') h in
    let rest : rows ≡ rows' = rows_are_distinct meter rows rows' fit.1 fit'.1 tail in
    let first : row ≡ row' = sym (is_back meter rows row fit.0) ∙ ap decoded head ∙ is_back meter rows' row' fit'.0 in
    ap (λ (r : EntryRow). r ∷ rows) first ∙ ap (λ (rs : List EntryRow). row' ∷ rs) rest

-- If the check of a meter's tables refuses a table row, then the row does not encode an entry row
-- that the rules for meter entries accept.

refused_next : (meter : Installed) (rows : List EntryRow) (reported : TableRow) (f : RowFault) (later : List EntryRow) → IsWellInstalled meter
    → AllFit meter rows → passed meter (check_after meter rows) reported ≡ Err f → AllFit meter later
    → reported ∷ later_rows meter rows ≡ later_rows meter later → ⊥
refused_next meter rows reported f [] well fit why all h = absurd (cc)
refused_next meter rows reported f (row ∷ rows') well fit why all h =
    let head : reported ≡ reported_after meter rows' row = same_head reported (reported_after meter rows' row) (later_rows meter rows) (later_rows meter rows') h in
    let tail = same_tail reported (reported_after meter rows' row) (later_rows meter rows) (later_rows meter rows') h in
    let rest : rows ≡ rows' = rows_are_distinct meter rows rows' fit all.1 tail in
    let passes : IsOk (passed meter (check_after meter rows') (reported_after meter rows' row)) =
    fitting_rows_pass meter rows' (check_after meter rows') row well (record { fit = all.1; check_is = refl }) all.0 in
    let same : passed meter (check_after meter rows') (reported_after meter rows' row) ≡ Err f =
    ap (λ (t : TableRow). passed meter (check_after meter rows') t) (sym head)
    ∙ ap (λ (rs : List EntryRow). passed meter (check_after meter rs) reported) (sym rest) ∙ why in
    let ok : (let r : Result (Check × Option Step) RowFault = Err f in IsOk r) = subst IsOk same passes in
    absurd (cc)

-- If a list of table rows contains a row that the check of a meter's tables refuses, the list
-- encodes no entry rows that the rules for meter entries accept. Rows that follow the refused row
-- change nothing.
pub refused_below : (meter : Installed) (rows : List EntryRow) (reported : TableRow) (f : RowFault) (newer : List TableRow) (all : List EntryRow)
    → IsWellInstalled meter → AllFit meter rows → passed meter (check_after meter rows) reported ≡ Err f → AllFit meter all
    → newer ++ reported ∷ later_rows meter rows ≡ later_rows meter all → ⊥
refused_below meter rows reported f [] all well fit why fits h = refused_next meter rows reported f all well fit why fits h
refused_below meter rows reported f (x ∷ newer) [] well fit why fits h = absurd (cc)
refused_below meter rows reported f (x ∷ newer) (row ∷ rows') well fit why fits h =
    refused_below meter rows reported f newer rows' well fit why fits.1
    (same_tail x (reported_after meter rows' row) (newer ++ reported ∷ later_rows meter rows) (later_rows meter rows') h)

-- Suppose that the check of a meter's tables passes some table rows and refuses the next row. Then
-- all table rows together encode no entry rows that the rules for meter entries accept.
pub none_reported : (meter : Installed) (reported : List TableRow) (i : ℕ) (d : TableRow) (rows : List EntryRow) (f : RowFault) → IsWellInstalled meter
    → i < length reported → AllFit meter rows → reverse (take i reported) ≡ later_rows meter rows
    → passed meter (check_after meter rows) (get_or reported i d) ≡ Err f → AreReported meter (reverse reported) → ⊥
none_reported meter reported i d rows f well lt fit first why all =
    let upto : reverse (take (i + 1) reported) ≡ get_or reported i d ∷ later_rows meter rows =
    ap reverse (take_more reported i d lt) ∙ reverse-append (take i reported) (get_or reported i d ∷ [])
    ∙ ap (λ (ts : List TableRow). get_or reported i d ∷ ts) first in
    let parts : reverse reported ≡ reverse (drop (i + 1) reported) ++ reverse (take (i + 1) reported) =
    ap (λ (ts : List TableRow). reverse ts) (sym (take-append-drop (i + 1) reported)) ∙ reverse-append (take (i + 1) reported) (drop (i + 1) reported) in
    refused_below meter rows (get_or reported i d) f (reverse (drop (i + 1) reported)) all.rows well fit why all.fit
    (ap (λ (ts : List TableRow). reverse (drop (i + 1) reported) ++ ts) (sym upto) ∙ sym parts ∙ all.reported_is)

-- If the first `i` + 1 table rows are reversed, the result begins with the row at the index `i`.
pub reported_more : (reported : List TableRow) (i : ℕ) (d : TableRow) → i < length reported → reverse (take (i + 1) reported) ≡ get_or reported i d ∷ reverse (take i reported)
reported_more reported i d lt = ap (λ (ts : List TableRow). reverse ts) (take_more reported i d lt) ∙ reverse-append (take i reported) (get_or reported i d ∷ [])

pub passed_more : PassedRowsFit → (meter : Installed) (reported : List TableRow) (i : ℕ) (d : TableRow) (check next : Check) (step : Option Step)
    → IsWellInstalled meter → i < length reported → HasPassed meter (reverse (take i reported)) check
    → passed meter check (get_or reported i d) ≡ Ok (next, step) → HasPassed meter (reverse (take (i + 1) reported)) next
passed_more law meter reported i d check next step well lt before h =
    let t = law meter before.rows check (get_or reported i d) next step well before.taken h in
    record {
      rows = t.row ∷ before.rows;
      taken = t.taken;
      reported_is = reported_more reported i d lt ∙ ap (λ (x : TableRow). x ∷ reverse (take i reported)) t.reported_is
          ∙ ap (λ (ts : List TableRow). reported_after meter before.rows t.row ∷ ts) before.reported_is;
    }

pub refused_all : (meter : Installed) (reported : List TableRow) (i : ℕ) (d : TableRow) (check : Check) (f : RowFault) → IsWellInstalled meter
    → i < length reported → HasPassed meter (reverse (take i reported)) check → passed meter check (get_or reported i d) ≡ Err f
    → AreReported meter (reverse reported) → ⊥
refused_all meter reported i d check f well lt before h all =
    none_reported meter reported i d before.rows f well lt before.taken.fit before.reported_is
    (subst (λ (c : Check). passed meter c (get_or reported i d) ≡ Err f) before.taken.check_is h) all

pub first_refused : (meter : Installed) (reported : List TableRow) (i : ℕ) (d : TableRow) (check : Check) (f : RowFault)
    → i < length reported → HasPassed meter (reverse (take i reported)) check → passed meter check (get_or reported i d) ≡ Err f
    → IsFirstRefused meter reported (record { index = i; fault = f })
first_refused meter reported i d check f lt before h =
    record { check = check; before = before; row = get_or reported i d; there = slice_get-get_or reported i d lt; refused = h }
