-- Proofs that the three rows that are inserted for a new meter encode the record of its
-- installation.
use Rattle.std.proofs.Common.{◌≡◌, ℕ, List, subst}
use Rattle.office_events.specs.declared.facts.Opening.{Opening}
use Rattle.office_events.specs.declared.facts.Fact.TheVariants as fact
use Rattle.office_books.specs.Steps.{OpeningsBegin}
use Rattle.store_tables.specs.Answer.{every}
use Rattle.store_tables.specs.Content.{Content, Edits, with_row}
use Rattle.store_tables.specs.Meters.Trees as meter_tree
use Rattle.store_tables.specs.declared.meters.rows.InstallationRow.{InstallationRow}
use Rattle.store_tables.specs.Meters.Rows.{Installed, Ranged, installed_columns, installed_place, ranged_columns}
use Rattle.store_tables.specs.Entries.Trees as entry_tree
use Rattle.store_tables.specs.declared.entries.rows.EntryRow.{EntryRow}
use Rattle.store_tables.specs.Entries.Rows.{Entered, entry_columns}
use Rattle.office_store.specs.Rows.{begun, installed_as, ranged, entered, opening_row}
use Rattle.office_store.specs.Recording.{Records, IsNext}
use Rattle.office_store.proofs.MeterOpened.{opening_recorded}
use Rattle.office_store.proofs.BookingsLemmas.Leaving.{Then}

abbrev pub AddsInstallation : (meter register : List ℕ) → InstallationRow → Content → Content → Type 0
AddsInstallation meter register row = Edits meter_tree.installations installed_columns (with_row (let i : Installed = record { meter = meter; register = register; row = row } in i))

abbrev pub AddsRange : (meter : List ℕ) → (range : ℕ) → Content → Content → Type 0
AddsRange meter range = Edits meter_tree.ranges ranged_columns (with_row (let r : Ranged = record { meter = meter; range = range } in r))

abbrev pub AddsEntry : (meter : List ℕ) → EntryRow → Content → Content → Type 0
AddsEntry meter row = Edits entry_tree.entries entry_columns (with_row (let e : Entered = record { meter = meter; entry = row } in e))

abbrev pub IsNextInstallation : ℕ → Content → Content → Type 0
IsNextInstallation = IsNext meter_tree.installations installed_columns every installed_place

pub opening_entered : OpeningsBegin → (o : Opening) (place : ℕ) (meter register : List ℕ) (row : InstallationRow) (first : EntryRow)
    → meter ≡ o.meter → register ≡ o.register → row ≡ (installed_as place (begun o)).row → first ≡ opening_row o
    → (before mid after : Content) → Then (Then (IsNextInstallation place) (AddsInstallation meter register row)) (AddsRange meter o.range) before mid
    → AddsEntry meter first mid after → Records (fact.Opening o) before after
opening_entered law o place meter register row first meter_is register_is row_is first_is before mid after one adds zone facts a lawful =
    let installed_is : (let i : Installed = record { meter = meter; register = register; row = row } in i) ≡ installed_as place (begun o) =
    λ i. record { meter = meter_is i; register = register_is i; row = row_is i } in
    let range_is : (let r : Ranged = record { meter = meter; range = o.range } in r) ≡ ranged o = λ i. record { meter = meter_is i; range = o.range } in
    let entry_is : (let e : Entered = record { meter = meter; entry = first } in e) ≡ entered o.meter (opening_row o) = λ i. record { meter = meter_is i; entry = first_is i } in
    let next = one.1.1 in
    opening_recorded law o place zone facts before one.0 mid after a lawful next.following
    (subst (λ (x : Installed). Edits meter_tree.installations installed_columns (with_row x) before one.0) installed_is
    (subst (λ content. AddsInstallation meter register row content one.0) next.same one.1.2))
    (subst (λ (x : Ranged). Edits meter_tree.ranges ranged_columns (with_row x) one.0 mid) range_is one.2)
    (subst (λ (x : Entered). Edits entry_tree.entries entry_columns (with_row x) mid after) entry_is adds)
