-- Defines the messages about missing parts of a device's setup. A device can't be polled while such
-- a part is missing.
use Rattle.std.specs.Prelude.{◌≡◌, ℕ, List, [], ◌∷◌, Option, Result, OnOk}
use Rattle.office_events.specs.declared.facts.Fact.{Fact}
use Rattle.office_books.specs.Ledgers.{Ledger}
use Rattle.run_http.specs.Status.Advice.Lacks.{lacks_of}
use Rattle.run_http.specs.Status.Advice.Sentences.{with_lack}
use Rattle.run_http.specs.declared.status.advice.lacks.DeviceLack.{DeviceLack}

-- The text with a line appended for each missing part of a device's setup, in the order of the list
-- of missing parts.
abbrev pub with_lacks : List DeviceLack → List ℕ → List ℕ
with_lacks [] text = text
with_lacks (lack ∷ lacks) text = with_lacks lacks (with_lack lack text)

-- States that a successful function call appends lines to a text: one line for each part of the
-- device's setup that is missing in the store. Nothing is stated if the store returned a wrong
-- result that was used.
abbrev pub PutsLacks : {T E : Type 0} → (old new : Ledger) → (device : Option (List ℕ))
    → (before after : List ℕ) → Result T E → Type 0
PutsLacks old new device before after result = (known : List Fact) → old.holds known
    → new.is_clean → OnOk result (after ≡ with_lacks (lacks_of known device) before)
