-- Worked examples of a meter in two and in three database files, computed from the definitions.
use Rattle.std.proofs.Common.{◌≡◌, ℕ, pos, true, List, [], ◌∷◌, map, Some, None, refl, ap, arith}
use Rattle.std.proofs.lemmas.Int.{ints}
use Rattle.energy_core.specs.declared.entries.Entry.TheVariants as entry
use Rattle.energy_core.specs.declared.entries.Last.{Last}
use Rattle.energy_core.specs.Value.{unit_of}
use Rattle.interval_core.specs.declared.shares.Share.{Share}
use Rattle.meter_journal.specs.declared.lines.EntryKind.TheVariants as kind
use Rattle.meter_journal.specs.declared.lines.EntryRow.{EntryRow}
use Rattle.meter_journal.specs.declared.lines.Installed.{Installed}
use Rattle.meter_journal.specs.Books.{IsWellInstalled, total_in, interval_rows}
use Rattle.meter_journal.specs.Fitting.{AreFitting}
use Rattle.meter_journal.specs.Journal.{Journal, Line, Entered, Voided}
use Rattle.meter_journal.specs.declared.audit.rows.TableRow.{TableRow}
use Rattle.meter_journal.specs.Audit.Carried.{carried, joined_journal, StaysWithin}
use Rattle.meter_journal.specs.Audit.CarriedFiles.{GoesOnAs, InFile, entry_from_all_rows}
use Rattle.meter_journal.specs.Audit.Fitting.{Tables, tables_of}
use Rattle.meter_journal.proofs.AuditLemmas.CarriedLemmas.Fitting.{carried_journals_fit}

-- A meter with a 32-bit counter that counts Wh, and with a ceiling (maximum power) of 100 kW.
abbrev installed : (at raw : ℕ) → Installed
installed at raw = record { range = 4294967296; ceiling = 100000; opening = record { at = at; raw = raw; sf = pos 0 } }

abbrev read : (at raw : ℕ) → Line
read at raw = Entered kind.Reading (entry.Step at raw 0)

abbrev row : (place at raw : ℕ) → EntryRow
row place at raw = record { place = place; kind = kind.Reading; entry = entry.Step at raw 0; stands = true }

abbrev share : (start mwh : ℕ) → Share
share start mwh = record { start = start; mwh = mwh }

abbrev house : Installed
house = installed 1000 5000

-- The meter's journal (history) in the old database file. Its last entry, at 2550 s, is voided
-- (cancelled), so the meter continues in the new file from 2500 s.
abbrev old : Journal
old = Voided 4 ∷ read 2550 5305 ∷ read 2500 5300 ∷ read 1900 5200 ∷ []

old_fits : AreFitting house old
unfolding unit_of
old_fits = (
  record {
    around = record { before = row 3 2500 5300 ∷ row 2 1900 5200 ∷ []; row = row 4 2550 5305; next = None };
    there = refl;
    voidable = refl;
    next = tt;
  },
  (
    (refl, record { step = 5000; accepted = refl }),
    ((refl, record { step = 100000; accepted = refl }), ((refl, record { step = 200000; accepted = refl }), tt)),
  ),
)

carried_at_2500 : carried house old ≡ installed 2500 5300
carried_at_2500 = refl

-- The meter's journal (history) in the new database file: two readings. The first reading is in the
-- quarter hour in which the new file began.
abbrev new : Journal
new = read 3600 5400 ∷ read 2600 5310 ∷ []

new_fits : AreFitting (installed 2500 5300) new
unfolding unit_of
new_fits = ((refl, record { step = 90000; accepted = refl }), ((refl, record { step = 10000; accepted = refl }), tt))

old_intervals : interval_rows house old ≡ share 900 177777 ∷ share 1800 122223 ∷ []
unfolding unit_of
old_intervals = refl

new_intervals : interval_rows (installed 2500 5300) new ≡ share 1800 19000 ∷ share 2700 81000 ∷ []
unfolding unit_of
new_intervals = refl

-- The quarter hour from 1800 s, in which the new database file began, has the energy of both files.
intervals_of_both : interval_rows house (joined_journal old new) ≡ share 900 177777 ∷ share 1800 141223 ∷ share 2700 81000 ∷ []
unfolding unit_of
intervals_of_both = refl

total_of_both : total_in house (joined_journal old new) ≡ 400000
unfolding unit_of
total_of_both = refl

-- Entry 2 of a meter in the new database file has sequence number 5 in the joined history of both
-- files, because the old file has entries 2 to 4.
void_of_both : joined_journal old (Voided 2 ∷ new)
    ≡ Voided 5 ∷ read 3600 5400 ∷ read 2600 5310 ∷ Voided 4 ∷ read 2550 5305 ∷ read 2500 5300 ∷ read 1900 5200 ∷ []
void_of_both = refl

-- The rules for meter entries accept a void (cancellation) of entry 2 of the new database file,
-- both in the new file and in the joined history of both files.
void_fits : AreFitting (installed 2500 5300) (Voided 2 ∷ new)
unfolding unit_of
void_fits = (
  record {
    around = record { before = []; row = row 2 2600 5310; next = Some (row 3 3600 5400) };
    there = refl;
    voidable = refl;
    next = (0, record { step = 100000; accepted = refl });
  },
  new_fits,
)

stays_within : StaysWithin house old (Voided 2 ∷ new)
unfolding unit_of
stays_within = (omega arith, (omega arith, (omega arith, tt)))

well_installed : IsWellInstalled house
well_installed = record { raw = omega arith; scale = (grind (arith, ints), grind (arith, ints)) }

void_of_both_fits : AreFitting house (joined_journal old (Voided 2 ∷ new))
void_of_both_fits = carried_journals_fit house old (Voided 2 ∷ new) well_installed old_fits refl void_fits stays_within

-- If an entry of the new database file is voided (cancelled), one step (energy between entries)
-- from 2500 s to 3600 s replaces two steps in the joined history.
void_intervals : interval_rows house (joined_journal old (Voided 2 ∷ new)) ≡ share 900 177777 ∷ share 1800 140404 ∷ share 2700 81819 ∷ []
unfolding unit_of
void_intervals = refl

abbrev file : Installed → List EntryRow → InFile
file meter rows = record { meter = meter; tables = tables_of meter rows }

abbrev first : InFile
first = file house (row 3 2500 5300 ∷ row 2 1900 5200 ∷ [])

abbrev second : InFile
second = file (installed 2500 5300) (row 3 3600 5400 ∷ row 2 2600 5310 ∷ [])

abbrev third : InFile
third = file (installed 3600 5400) (row 2 4500 5500 ∷ [])

second_goes_on : GoesOnAs house first.tables.last first.tables.ended second.meter
second_goes_on = record { unended = refl; range = refl; ceiling = refl; opening = refl }

third_goes_on : GoesOnAs second.meter second.tables.last second.tables.ended third.meter
third_goes_on = record { unended = refl; range = refl; ceiling = refl; opening = refl }

-- The meter of the third database file does not continue from the first file if the second file is
-- left out.
third_not_after_first : GoesOnAs house first.tables.last first.tables.ended third.meter → ⊥
third_not_after_first h = let at : 3600 ≡ 2500 = ap (λ (l : Last). l.at) h.opening in omega (arith, at)

abbrev reported_by_three : Tables
reported_by_three = entry_from_all_rows first.tables (second ∷ third ∷ [])

three_total : reported_by_three.total ≡ 500000
unfolding unit_of
three_total = refl

-- The joint interval rows (energies by quarter hour) of three database files. The second file began
-- within a quarter hour, and the third at the end of a quarter hour.
three_intervals : reported_by_three.intervals ≡ share 900 177777 ∷ share 1800 141223 ∷ share 2700 81000 ∷ share 3600 100000 ∷ []
unfolding unit_of
three_intervals = refl

-- The opening rows (first entries) of a meter in later database files are not entries of the joint
-- report of all files.
three_places : map (λ (reported : TableRow). reported.place) reported_by_three.entries ≡ 6 ∷ 5 ∷ 4 ∷ 3 ∷ 2 ∷ 1 ∷ []
three_places = refl
