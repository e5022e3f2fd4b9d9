-- Lemmas: the data (meters and energies by day) that are collected for accounting registers (named
-- counters) are those of the earlier database files.
use Rattle.std.proofs.Common.{◌≡◌, List, ◌∷◌, Option, Some, None, true, Result, Ok, Err, refl, sym, subst, ◌∙◌}
use Rattle.std.specs.Prelude.{All, Contains, IfOk}
use Rattle.std.specs.Option.{is_some}
use Rattle.std.proofs.lemmas.List.Elements.{All-cons, All-tail}
use Rattle.interval_core.specs.declared.zone.Zone.{Zone}
use Rattle.office_events.specs.declared.facts.Fact.{Fact}
use Rattle.office_books.specs.declared.faults.BooksFault.{BooksFault}
use Rattle.office_books.specs.Lawful.{AreLawful}
use Rattle.carried_books.specs.Joining.Earlier.{AddsFile, HasRegisters, HoldAll, HoldsFile}
use Rattle.carried_books.specs.Joining.Keeping.{KeepsFile, PartsFile}
use Rattle.carried_books.specs.declared.joining.earlier.ComparedRegisters.{ComparedRegisters}
use Rattle.carried_books.specs.declared.joining.earlier.KeptRegister.{KeptRegister}
use Rattle.carried_books.specs.declared.joining.earlier.KeptRegisters.{KeptRegisters}
use Rattle.carried_books.specs.declared.joining.files.Unjoined.{Unjoined}

-- The collected accounting registers (named counters) have the data (meters and energies by day) of
-- the database files that were added. Their time zone is unchanged since the collection began.
abbrev Kept : Zone → List (List Fact) → KeptRegisters → Type 0
Kept zone files kept = (kept.zone ≡ zone) × (All AreLawful files → HasRegisters zone files kept.kept.items)

pub registers_kept : (zone : Zone) (facts : List Fact) (old new : KeptRegisters) (result : Result (Option Unjoined) BooksFault)
    → new.zone ≡ old.zone → IfOk result (λ why. why ≡ None → AddsFile old.zone facts old.kept.items new.kept.items)
    → IfOk result (KeepsFile (Kept zone) facts old new)
registers_kept zone facts old new (Ok None) same adds = λ files has. (
  same ∙ has.0,
  λ lawful.
      let before = subst (λ (z : Zone). HasRegisters z files old.kept.items) (sym has.0) (has.1 (All-tail AreLawful facts files lawful)) in
      subst (λ (z : Zone). HasRegisters z (facts ∷ files) new.kept.items) has.0 (adds refl files lawful before),
)
registers_kept zone facts old new (Ok (Some why)) same adds = tt
registers_kept zone facts old new (Err fault) same adds = tt

-- Each database file in `files` was compared with the collected data of the earlier files, and
-- continues the history of the meters in these data.
abbrev Held : Zone → List (List Fact) → ComparedRegisters → Type 0
Held zone files held = (held.kept.zone ≡ zone) × All (λ (facts : List Fact). HoldAll held.kept.kept.items facts None) files

pub registers_held : (zone : Zone) (facts : List Fact) (held : ComparedRegisters) (result : Result (Option Unjoined) BooksFault)
    → IfOk result (HoldAll held.kept.kept.items facts) → IfOk result (KeepsFile (Held zone) facts held held)
registers_held zone facts held (Ok None) holds = λ files has.
    (has.0, All-cons (λ (it : List Fact). HoldAll held.kept.kept.items it None) facts files holds has.1)
registers_held zone facts held (Ok (Some why)) holds = tt
registers_held zone facts held (Err fault) holds = tt

pub registers_part : (facts : List Fact) (held : ComparedRegisters) (result : Result (Option Unjoined) BooksFault)
    → IfOk result (HoldAll held.kept.kept.items facts) → IfOk result (PartsFile (λ why. HoldAll held.kept.kept.items facts (Some why)))
registers_part facts held (Ok None) holds = tt
registers_part facts held (Ok (Some why)) holds = holds
registers_part facts held (Err fault) holds = tt

pub held_apart : (kept : List KeptRegister) (facts : List Fact) (one : KeptRegister) (why : Option Unjoined) → is_some why ≡ true → Contains kept one
    → HoldsFile one facts why → HoldAll kept facts why
held_apart kept facts one None there among holds = absurd (cc)
held_apart kept facts one (Some why) there among holds = (one, among, holds)

-- If the statement `P` is true of the reason why a file is not added, and `P` implies `Q`, then `Q`
-- is true of this reason.
pub parts_as : (P Q : Unjoined → Type 0) → ((why : Unjoined) → P why → Q why) → (why : Option Unjoined) → PartsFile P why → PartsFile Q why
parts_as P Q implies None parts = tt
parts_as P Q implies (Some why) parts = implies why parts
