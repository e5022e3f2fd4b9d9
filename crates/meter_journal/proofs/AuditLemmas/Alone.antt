-- Lemmas: if the rules for meter entries accept a meter's list of entry rows, then the valid (not
-- voided) rows alone form a history that the rules accept.
use Rattle.std.proofs.Common.{◌≡◌, Bool, true, false, List, [], ◌∷◌, map, refl, sym, ap, subst, ◌∙◌, inl, inr}
use Rattle.std.proofs.lemmas.Bool.{cases_Bool, cond-true, cond-false}
use Rattle.energy_core.specs.declared.entries.Last.{Last}
use Rattle.energy_core.specs.declared.entries.Entry.{Entry}
use Rattle.meter_journal.specs.declared.lines.Installed.{Installed}
use Rattle.meter_journal.specs.declared.lines.EntryKind.{EntryKind}
use Rattle.meter_journal.specs.declared.lines.EntryRow.{EntryRow}
use Rattle.meter_journal.specs.Books.{IsWellInstalled, HasAccount}
use Rattle.meter_journal.specs.Journal.{is_closing, is_ended as journal_ended, standing, entries_in, entries_of}
use Rattle.meter_journal.specs.Fitting.{EntryFits, AreFitting}
use Rattle.meter_journal.specs.Standing.{entering}
use Rattle.meter_journal.proofs.AsEntered.{stands_on}
use Rattle.meter_journal.proofs.Keeping.{journals_are_kept}
use Rattle.meter_journal.specs.Audit.Fitting.{is_ended, MayCome, AllFit}
use Rattle.meter_journal.specs.Audit.Laws.{FittingRowsStandAlone}

pub unended_parts : (row : EntryRow) (rows : List EntryRow) → is_ended (row ∷ rows) ≡ false
    → (is_closing row.kind ≡ false) × (is_ended rows ≡ false)
unended_parts row rows h =
    elim (cases_Bool (is_closing row.kind)) [
      | inl closing ↦ absurd (let f : true ≡ false = sym (cond-true _ _ _ closing) ∙ h in cc)
      | inr more ↦ (more, sym (cond-false _ _ _ more) ∙ h)
    ]

alone_unended : (rows : List EntryRow) → is_ended rows ≡ false → journal_ended (entering (standing rows)) ≡ false
alone_unended [] h = refl
alone_unended (row ∷ rows) h =
    let parts = unended_parts row rows h in
    elim (cases_Bool row.stands) [
      | inl on ↦ ap (λ rs. journal_ended (entering rs)) (stands_on row rows true on) ∙ cond-false _ _ _ parts.0 ∙ alone_unended rows parts.1
      | inr off ↦ ap (λ rs. journal_ended (entering rs)) (stands_on row rows false off) ∙ alone_unended rows parts.1
    ]

-- If each line of a meter's journal records the entry of one row of a list, then the journal's
-- valid (not voided) entries are exactly the entries of these rows.
entries_alone : (opening : Last) (rows : List EntryRow) → entries_of opening (entering rows) ≡ map (λ row. row.entry) rows
entries_alone opening [] = refl
entries_alone opening (row ∷ rows) = ap (λ (es : List Entry). row.entry ∷ es) (entries_alone opening rows)

pub came : (meter : Installed) (es : List Entry) (stands : Bool) (k : EntryKind) (e : Entry) → MayCome meter es stands k e
    → stands ≡ true → EntryFits meter es k e
came meter es true k e h is = h
came meter es false k e h is = absurd (let f : false ≡ true = is in cc)

alone_fits : (meter : Installed) (rows : List EntryRow) → AllFit meter rows → AreFitting meter (entering (standing rows))
alone_fits meter [] h = tt
alone_fits meter (row ∷ rows) h =
    let rest : AreFitting meter (entering (standing rows)) = alone_fits meter rows h.1 in
    elim (cases_Bool row.stands) [
      | inl on ↦
          let first : EntryFits meter (entries_of meter.opening (entering (standing rows))) row.kind row.entry =
          subst (λ (es : List Entry). EntryFits meter es row.kind row.entry) (sym (entries_alone meter.opening (standing rows)))
          (came meter (entries_in rows) row.stands row.kind row.entry h.0.entry on) in
          subst (λ (rs : List EntryRow). AreFitting meter (entering rs)) (sym (stands_on row rows true on))
          ((alone_unended rows h.0.unended, first), rest)
      | inr off ↦ subst (λ (rs : List EntryRow). AreFitting meter (entering rs)) (sym (stands_on row rows false off)) rest
    ]

pub matching_rows_are_independent : FittingRowsStandAlone
matching_rows_are_independent meter rows h =
    record { fit = alone_fits meter rows h; entries = entries_alone meter.opening (standing rows) }

-- If the rules for meter entries accept a list of entry rows, they accept each valid (not voided)
-- entry after the valid entries before it. The total energy of these entries is then within its
-- limit.
pub fitting_account : (meter : Installed) (rows : List EntryRow) → IsWellInstalled meter → AllFit meter rows → HasAccount meter (entries_in rows)
fitting_account meter rows well h =
    let alone = matching_rows_are_independent meter rows h in
    subst (HasAccount meter) alone.entries (journals_are_kept meter (entering (standing rows)) well alone.fit).account
