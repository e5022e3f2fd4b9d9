-- Lemmas: if the rules accept a meter's journal (history), the valid (not voided) entries before
-- each of its rows also obey the rules for meter entries.
use Rattle.std.proofs.Common.{◌≡◌, ℕ, ◌==◌, List, [], ◌∷◌, sym, subst, ◌∙◌, inl, inr, Some, None}
use Rattle.std.proofs.lemmas.Bool.{cases_Bool, cond-true, cond-false}
use Rattle.std.proofs.lemmas.Option.{same_Some}
use Rattle.energy_core.proofs.Soundness.{accounts_are_sound}
use Rattle.meter_journal.specs.declared.lines.Installed.{Installed}
use Rattle.meter_journal.specs.declared.lines.EntryRow.{EntryRow}
use Rattle.meter_journal.specs.Books.{HasAccount}
use Rattle.meter_journal.specs.Journal.{Around, entries_in, rows_of, passed, row_at}
use Rattle.meter_journal.specs.Changes.{PlacesWereKept}
use Rattle.meter_journal.proofs.Going.{account_below}
use Rattle.meter_journal.proofs.Keeping.{mapped_some, journals_are_kept}

account_before : (meter : Installed) (place : ℕ) (rows : List EntryRow) (a : Around) → row_at place rows ≡ Some a
    → HasAccount meter (entries_in rows) → HasAccount meter (entries_in a.before)
account_before meter place [] a there h = absurd (cc)
account_before meter place (row ∷ rows) a there h =
    let rest : HasAccount meter (entries_in rows) = account_below meter (row ∷ []) rows h in
    elim (cases_Bool (row.place == place)) [
      | inl at ↦
          let found : Around = record { before = rows; row = row; next = None } in
          let is : found ≡ a = same_Some found a (sym (cond-true _ _ _ at) ∙ there) in
          subst (λ (x : Around). HasAccount meter (entries_in x.before)) is rest
      | inr off ↦
          let found = mapped_some (passed row) (row_at place rows) a (sym (cond-false _ _ _ off) ∙ there) in
          subst (λ (x : Around). HasAccount meter (entries_in x.before)) found.2 (account_before meter place rows found.0 found.1 rest)
    ]

pub places_were_kept : PlacesWereKept
places_were_kept meter lines place around well h there =
    let account = account_before meter place (rows_of meter.opening lines) around there (journals_are_kept meter lines well h).account in
    record { account = account; sound = accounts_are_sound meter.range meter.opening (entries_in around.before) _ _ well.raw well.scale account }
