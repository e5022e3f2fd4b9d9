-- The lemma that the reason to refuse a void (cancellation of an entry) depends only on the entry
-- at the given sequence number.
use Rattle.std.proofs.Common.{◌≡◌, List, refl, sym, ap}
use Rattle.office_events.specs.declared.commands.VoidEntry.{VoidEntry}
use Rattle.office_events.specs.declared.commands.Command.TheVariants as command
use Rattle.office_events.specs.declared.facts.Fact.{Fact}
use Rattle.office_events.specs.declared.refusals.Refusal.{Refusal}
use Rattle.office_events.specs.declared.refusals.Refusal.TheVariants as refusal
use Rattle.office_events.specs.declared.refusals.StoreCause.TheVariants as store
use Rattle.office_books.specs.Sessions.{Slot}
use Rattle.office_books.specs.Refusals.{reasons, is_held_for}
use Rattle.office_core.specs.declared.refusing.arrivals.Arrival.{Arrival}
use Rattle.office_core.specs.declared.refusing.voids.Spot.{Spot}
use Rattle.office_core.specs.Refusing.Reasons.{speaks_against, refusal_under}
use Rattle.office_core.specs.Refusing.Spots.{IsAt, speaks_of_void, void_refusal}
use Rattle.office_core.proofs.RefusingLemmas.AtMeters.{same_find, or_false}

voids_for : (slots : List Slot) (facts : List Fact) (arrival : Arrival) (c : VoidEntry) (found : Spot) → IsAt facts c.meter c.place found
    → (why : Refusal) → speaks_of_void arrival found why ≡ speaks_against slots facts arrival (command.Void c) why
voids_for slots facts arrival c found h refusal.NotFound = h.there
voids_for slots facts arrival c found h refusal.ClockBack = sym (or_false arrival.is_back)
voids_for slots facts arrival c found h refusal.Limit = sym (or_false arrival.is_beyond)
voids_for slots facts arrival c found h refusal.NotVoidable = h.voidable
voids_for slots facts arrival c found h (refusal.NotPlausible why) = ap (is_held_for why) h.verdict
voids_for slots facts arrival c found h (refusal.Store store.Refused) = refl
voids_for slots facts arrival c found h _ = refl

pub void_refused_as : (slots : List Slot) (facts : List Fact) (arrival : Arrival) (c : VoidEntry) (found : Spot) → IsAt facts c.meter c.place found
    → void_refusal arrival found ≡ refusal_under slots facts arrival (command.Void c)
void_refused_as slots facts arrival c found h = same_find _ _ reasons (voids_for slots facts arrival c found h)
