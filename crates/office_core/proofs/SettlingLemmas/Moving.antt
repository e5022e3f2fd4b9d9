-- Lemmas on writing the records of a device event to the store. Written records follow the earlier
-- ones; if processing the event fails, the records are unchanged.
use Rattle.std.proofs.Common.{◌≡◌, ◌⊎◌, ℕ, List, [], ◌∷◌, ◌++◌, refl, sym, ap, subst, inr, Result, Ok, Err}
use Rattle.std.specs.Prelude.{OnOk, OnErr}
use Rattle.std.specs.Result.{IsErrAnd}
use Rattle.std.specs.declared.alloc.Global.{Global}
use Rattle.std.specs.declared.vec.Vec.{Vec}
use Rattle.office_events.specs.declared.answers.Note.{Note}
use Rattle.office_events.specs.declared.events.Event.{Event}
use Rattle.office_books.specs.History.{History, Fed, facts_of}
use Rattle.office_core.specs.declared.sessions.slots.Slot.{Slot}
use Rattle.office_core.specs.Settling.Events.{Settles}
use Rattle.office_events.specs.declared.facts.Fact.{Fact}
use Rattle.office_books.specs.Lawful.{AreLawful}
use Rattle.office_books.specs.declared.faults.BooksFault.{BooksFault}
use Rattle.office_books.proofs.Moving.{failed, passes_then}
use Rattle.office_books.specs.Ledgers.{Ledger, LedgerAfterCalls, Consults, Moves, with_facts}

-- If an event adds no records, then the store is unchanged.
pub moves_nothing : (old : Ledger) (facts known : List Fact) → facts ≡ [] → Moves {T = Unit {0}} old old known (with_facts facts known) (Ok tt)
moves_nothing old facts known none =
    let same : with_facts facts known ≡ known = ap (λ fs. with_facts fs known) none in
    record {
      holds = λ h clean. subst old.holds (sym same) h;
      refused = λ h. tt;
      settled = λ left h clean l. inr (same, l);
      under_way = λ left h clean l. tt;
      goes = record { clean = λ clean. clean; faults = refl; zone = refl };
    }

-- True if the store's records, followed by the new records `facts`, equal the records `later` and
-- are lawful (the rules for adding records accept each one).
abbrev pub Leads : Ledger → (clean : Type 0) → (facts known later : List Fact) → Type 0
Leads old clean facts known later = old.holds known → clean → (with_facts facts known ≡ later) × AreLawful (with_facts facts known)

-- If lookups in the store precede a write of records, then the lookups and the write together
-- satisfy the guarantees of the write (`Moves`).
pub moves_after : {T U : Type 0} (old mid new : Ledger) (facts known later : List Fact) (x : T) (r : Result U BooksFault)
    → Consults old mid (Ok x) → Leads old mid.is_clean facts known later
    → (AreLawful (with_facts facts known) → Moves mid new known (with_facts facts known) r)
    → (mid.holds known → OnErr r (new.holds known)) → LedgerAfterCalls mid new r → Moves old new known later r
moves_after old mid new facts known later x r reads leads moves refused goes = record {
  holds = λ h clean.
      let there = leads h (goes.clean clean) in
      subst (λ fs. OnOk r (new.holds fs)) there.0 ((moves there.1).holds (reads.keeps.facts known h) clean);
  refused = λ h. refused (reads.keeps.facts known h);
  settled = λ left h clean l.
      let there = leads h (goes.clean clean) in
      subst (λ fs. OnOk r (new.may_leave (fs ∷ []) ⊎ ((fs ≡ known) × new.may_leave left))) there.0
      ((moves there.1).settled left (reads.keeps.facts known h) clean (reads.keeps.left left l));
  under_way = λ left h clean l.
      let there = leads h (goes.clean clean) in
      subst (λ fs. OnErr r (new.may_leave left ⊎ new.may_leave (left ++ fs ∷ []))) there.0
      ((moves there.1).under_way left (reads.keeps.facts known h) clean (reads.keeps.left left l));
  goes = passes_then old mid new x r reads.goes goes;
}

-- If processing a device event fails, then no notifications are reported and the store's records
-- are unchanged.
pub settles_not : {T : Type 0} (past : History) (at : ℕ) (e : Event) (old new : Ledger) (after : List Slot) (fault : BooksFault)
    (r : Result (Vec Note Global) BooksFault) → Moves {T = T} old new (facts_of past) (facts_of (Fed at e ∷ past)) (Err fault)
    → IsErrAnd r (λ f. f ≡ fault) → Settles past at e old new after r
settles_not past at e old new after fault (Ok notes) moves is = absurd is
settles_not past at e old new after fault (Err f) moves is = record {
  slots = tt;
  books =
      subst (λ g. Moves {T = Vec Note Global} old new (facts_of past) (facts_of (Fed at e ∷ past)) (Err g)) (sym is)
      (failed old new (facts_of past) (facts_of (Fed at e ∷ past)) fault moves);
  notes = λ h clean. tt;
}
