-- Lemmas on the tables of successive database files for which the check that each file continues
-- the meters of the files before it reports no difference.
use Rattle.std.proofs.Common.{◌≡◌, ◌+◌, List, [], ◌∷◌, ◌++◌, refl, sym, ap, subst, ◌∙◌, arith}
use Rattle.std.specs.List.{AllByRecursion}
use Rattle.energy_core.specs.declared.entries.Last.{Last}
use Rattle.meter_journal.specs.declared.lines.Installed.{Installed}
use Rattle.meter_journal.specs.Books.{IsWellInstalled}
use Rattle.meter_journal.specs.declared.audit.rows.TableRow.{TableRow}
use Rattle.meter_journal.specs.declared.audit.standing.Standing.{Standing}
use Rattle.meter_journal.specs.Audit.CarriedFiles.{GoesOnAs, InFile, GoOn, reported_by_both, entry_from_all_rows, FilesAreOneHistory}
use Rattle.meter_journal.specs.Audit.Fitting.{Tables, AreFine}
use Rattle.store_tables.specs.declared.meters.rows.InstallationRow.{InstallationRow}
use Rattle.store_tables.proofs.ReadLemmas.{ok_is}
use Rattle.table_audit.specs.Lawful.{last_shown, tables_from}
use Rattle.table_seals.specs.declared.filed.FiledMeter.{FiledMeter}
use Rattle.table_seals.specs.Filing.{standing_in}
use Rattle.table_seals.specs.JoinLaws.{EachGoesOn, FiledMetersAreReported, IsReportedBy, JoinedFilesAreLawful, energy_of, in_file, in_files}
use Rattle.table_seals.proofs.Read.{same_read}

-- Lemmas that the data read about a meter equal the data in its tables in one database file, if an
-- audit finds nothing wrong in these tables.

same_head : (a b : TableRow) (rows others : List TableRow) → a ∷ rows ≡ b ∷ others → a ≡ b
same_head a b rows others h = cc

same_meter : (m n : Installed) → m.range ≡ n.range → m.ceiling ≡ n.ceiling → m.opening ≡ n.opening → m ≡ n
same_meter m n range ceiling opening =
    ap (λ r. let x : Installed = record { range = r; ceiling = m.ceiling; opening = m.opening } in x) range
    ∙ ap (λ c. let x : Installed = record { range = n.range; ceiling = c; opening = m.opening } in x) ceiling
    ∙ ap (λ (l : Last). let x : Installed = record { range = n.range; ceiling = n.ceiling; opening = l } in x) opening

pub kept_meters_are_reported : FiledMetersAreReported
kept_meters_are_reported row rows installation filed read fine so =
    let law = fine.lawful in
    let same : installation ≡ so.installation = ok_is (sym read ∙ so.installation_read) in
    let rest = same_read rows fine.range fine.voids fine.entries filed.installed.range so.voids (so.opening ∷ so.later)
    (record { range_read = fine.range_read; voids_read = fine.voids_read; entries_read = fine.entries_read }) so.read in
    let opening : law.opening ≡ so.opening = same_head law.opening so.opening law.later so.later (sym law.first ∙ rest.entries_are) in
    let shown : last_shown law.opening ≡ law.meter.opening = ap last_shown law.opened.opening_is in
    let meter : law.meter ≡ filed.installed =
    same_meter law.meter filed.installed (law.opened.range_is ∙ rest.range_is)
    (law.opened.ceiling_is ∙ ap (λ (i : InstallationRow). i.ceiling) same ∙ sym so.ceiling_is)
    (sym shown ∙ ap last_shown opening ∙ sym so.opened) in
    let stands : standing_in installation ≡ filed.standing = ap standing_in same ∙ sym so.stands in
    let tables : Tables = tables_from fine.entries fine.shares installation in (
      tables,
      record {
        well = subst IsWellInstalled meter law.may.installed;
        fine = subst (λ (m : Installed). AreFine m tables) meter law.fine;
        last = ap (λ (s : Standing). s.last) stands;
        total = ap (λ (s : Standing). s.total) stands;
        ended = ap (λ (s : Standing). s.is_ended) stands;
      },
    )

-- The latest file in a list of the files of a meter.
abbrev latest : InFile → List InFile → InFile
latest first [] = first
latest first (next ∷ later) = latest next later

goes_one_more : (first new : InFile) (later : List InFile) → GoOn first later
    → GoesOnAs (latest first later).meter (latest first later).tables.last (latest first later).tables.ended new.meter
    → AreFine new.meter new.tables → GoOn first (later ++ new ∷ [])
goes_one_more first new [] goes on fine = (on, fine, tt)
goes_one_more first new (next ∷ later) goes on fine = (goes.0, goes.1, goes_one_more next new later goes.2 on fine)

latest_more : (first new : InFile) (later : List InFile) → latest first (later ++ new ∷ []) ≡ new
latest_more first new [] = refl
latest_more first new (next ∷ later) = latest_more next new later

reported_more : (old : Tables) (later : List InFile) (new : InFile) → (entry_from_all_rows old (later ++ new ∷ [])).total ≡ (entry_from_all_rows old later).total + new.tables.total
reported_more old [] new = refl
reported_more old (next ∷ later) new = reported_more (reported_by_both old next.tables) later new

-- States that the rows of one meter continue from each database file in the next, from the oldest
-- file with this meter up to the file of `meter`.
record GoesUpTo (tables : FiledMeter → Tables) (meter : FiledMeter) (meters : List FiledMeter) : Type 0 where
  pub first : InFile
  pub later : List InFile
  pub are : in_files tables meters ≡ first ∷ later
  pub well : IsWellInstalled first.meter
  pub fine : AreFine first.meter first.tables
  pub goes : GoOn first later
  pub last : latest first later ≡ in_file tables meter
  pub total : (entry_from_all_rows first.tables later).total ≡ energy_of meters

up_to : (tables : FiledMeter → Tables) (meter : FiledMeter) (older : List FiledMeter) → AllByRecursion (λ m. IsReportedBy m (tables m)) (meter ∷ older)
    → EachGoesOn (meter ∷ older) → GoesUpTo tables meter (meter ∷ older)
up_to tables meter [] reported goes = record {
  first = in_file tables meter;
  later = [];
  are = refl;
  well = reported.0.well;
  fine = reported.0.fine;
  goes = tt;
  last = refl;
  total = omega (arith, reported.0.total);
}
up_to tables meter (old ∷ older) reported goes =
    let before = up_to tables old older reported.1 goes.1 in
    let new : InFile = in_file tables meter in
    let old_reported : IsReportedBy old (tables old) = reported.1.0 in
    let on : GoesOnAs old.installed old.standing.last old.standing.is_ended meter.installed = goes.0 in
    let from : GoesOnAs old.installed (tables old).last (tables old).ended meter.installed = record {
      unended = old_reported.ended ∙ on.unended;
      range = on.range;
      ceiling = on.ceiling;
      opening = on.opening ∙ sym old_reported.last;
    } in
    let after : GoesOnAs (latest before.first before.later).meter (latest before.first before.later).tables.last
    (latest before.first before.later).tables.ended new.meter =
    subst (λ (f : InFile). GoesOnAs f.meter f.tables.last f.tables.ended new.meter) (sym before.last) from in
    record {
      first = before.first;
      later = before.later ++ new ∷ [];
      are = ap (λ (fs : List InFile). fs ++ new ∷ []) before.are;
      well = before.well;
      fine = before.fine;
      goes = goes_one_more before.first new before.later before.goes after reported.0.fine;
      last = latest_more before.first new before.later;
      total = omega (arith, reported_more before.first.tables before.later new, before.total, reported.0.total);
    }

pub joined_files_are_lawful : FilesAreOneHistory → JoinedFilesAreLawful
joined_files_are_lawful law tables meter older reported goes within =
    let all = up_to tables meter older reported goes in
    record {
      first = all.first;
      later = all.later;
      are = all.are;
      lawful = law all.first all.later all.well all.fine all.goes (omega (arith, within, all.total));
    }
