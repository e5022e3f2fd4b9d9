-- Lemmas on the device slots (devices with their connections) directly after the program opened its
-- store: one slot for each recorded device, and no connection.
use Rattle.std.proofs.Common.{◌≡◌, ℕ, List, [], ◌∷◌, map, refl, ap, sym, subst, ◌∙◌, Result, Ok, Err}
use Rattle.std.specs.Result.{IsErrAnd}
use Rattle.std.specs.declared.alloc.Global.{Global}
use Rattle.std.specs.declared.vec.Vec.{Vec}
use Rattle.office_events.specs.declared.facts.Device.{Device}
use Rattle.office_books.specs.Sessions.{Slot as Kept, slot_restarted}
use Rattle.office_books.specs.History.{History, Opened, facts_of}
use Rattle.office_core.specs.declared.sessions.slots.Slot.{Slot}
use Rattle.office_core.specs.Sessions.Keeping.{KeepsSlots}
use Rattle.office_books.specs.declared.faults.BooksFault.{BooksFault}
use Rattle.office_books.specs.Ledgers.{Ledger, Consults, Moves}
use Rattle.office_books.proofs.Moving.{read_then, failed}
use Rattle.office_core.specs.Opening.OpenedOffice.{opened, Opens}

opened_each : (slots : List Kept) → KeepsSlots (map opened (map (λ slot. slot.device) slots)) (map slot_restarted slots)
unfolding opened
opened_each [] = tt
opened_each (slot ∷ slots) = (record { device = refl; session = tt }, opened_each slots)

-- After the program opens its store, there is one slot (a device with its connection) in memory for
-- each recorded device, in the same order. No slot has a session, because no device is connected.
pub opened_keep : (made : List Slot) (devices : List Device) (slots : List Kept) → made ≡ map opened devices
    → map (λ slot. slot.device) slots ≡ devices → KeepsSlots made (map slot_restarted slots)
opened_keep made devices slots is same =
    subst (λ (ls : List Slot). KeepsSlots ls (map slot_restarted slots)) (sym (is ∙ ap (map opened) (sym same))) (opened_each slots)

-- If an opening of the store cannot record the pending polls (without an outcome) as lost, then the
-- store's records are unchanged.
pub not_opened : {T : Type 0} (past : History) (at : ℕ) (old between new : Ledger) (x : T) (fault : BooksFault) (result : Result (Vec Slot Global) BooksFault)
    → Consults old between (Ok x) → Moves {T = Unit {0}} between new (facts_of past) (facts_of (Opened at ∷ past)) (Err fault)
    → IsErrAnd result (λ f. f ≡ fault) → Opens past at old new result
not_opened past at old between new x fault (Ok slots) reads moves is = absurd is
not_opened past at old between new x fault (Err f) reads moves is = record {
  books =
      subst (λ g. Moves {T = Vec Slot Global} old new (facts_of past) (facts_of (Opened at ∷ past)) (Err g)) (sym is)
      (failed old new _ _ fault (read_then old between new _ _ x (Err fault) reads moves));
  slots = λ h clean. tt;
}
