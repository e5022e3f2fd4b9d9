-- Lemmas about corrections: resets, changes of scale, and other meter entries that a person makes.
-- A correction is refused if and only if its entry is refused at the latest meter of the accounting
-- register (a named energy counter).
use Rattle.std.proofs.Common.{◌≡◌, ℕ, Bool, true, false, cond, ◌||◌, List, [], ◌∷◌, Option, Some, None, is_some, nat_le, length, refl, sym, ap, ◌∙◌}
use Rattle.std.specs.List.{find}
use Rattle.std.specs.Option.{is_none, option_and_then}
use Rattle.energy_core.specs.declared.entries.Entry.{Entry}
use Rattle.energy_core.specs.declared.entries.Entry.TheVariants as entry
use Rattle.energy_core.specs.declared.admission.TermFault.{TermFault}
use Rattle.energy_core.specs.declared.admission.TermFault.TheVariants as fault
use Rattle.office_events.specs.declared.commands.Command.{Command}
use Rattle.office_events.specs.declared.commands.Command.TheVariants as command
use Rattle.office_events.specs.declared.commands.Exchange.{Exchange}
use Rattle.office_events.specs.declared.facts.Fact.{Fact}
use Rattle.office_events.specs.declared.questions.Installation.{Installation}
use Rattle.office_events.specs.declared.questions.EntryContext.{EntryContext}
use Rattle.office_events.specs.declared.refusals.Refusal.{Refusal}
use Rattle.office_events.specs.declared.refusals.Refusal.TheVariants as refusal
use Rattle.office_events.specs.declared.refusals.StoreCause.TheVariants as store
use Rattle.office_books.specs.Facts.{opening_of, openings_in}
use Rattle.office_books.specs.Meters.{installation_at, if_open, open_at}
use Rattle.office_books.specs.Sessions.{Slot}
use Rattle.office_books.specs.History.{corrected_at}
use Rattle.office_books.specs.Refusals.{asks_unknown, asks_taken, asks_bad_scale, asks_bad_field, asks_busy, asks_faulty, asks_unvoidable, has_no_meter, installation_limit, is_closed, is_crowded, is_start, makes_fault, reasons, voided_place, is_held_for, verdict_at}
use Rattle.office_core.specs.declared.refusing.arrivals.Arrival.{Arrival}
use Rattle.office_core.specs.Refusing.Entries.{entry_has_fault, is_faulty, speaks_of_entry, entry_refusal}
use Rattle.office_core.specs.Refusing.Reasons.{speaks_against, refusal_under}

-- If two predicates have the same value for all elements of a list, then searches of the list with
-- these predicates find the same element.
pub same_find : {X : Type 0} (p q : X → Bool) (xs : List X) → ((x : X) → p x ≡ q x) → find p xs ≡ find q xs
same_find p q [] h = refl
same_find p q (x ∷ xs) h =
    ap (λ b. cond b (Some x) (find p xs)) (h x) ∙ ap (λ o. cond (q x) (Some x) o) (same_find p q xs h)

pub or_false : (a : Bool) → a || false ≡ a
or_false true = refl
or_false false = refl

or_assoc : (a b c : Bool) → (a || b) || c ≡ a || (b || c)
or_assoc true b c = refl
or_assoc false b c = refl

open_found : (facts : List Fact) (register : Option (List ℕ))
    → option_and_then (open_at facts) register ≡ option_and_then if_open (option_and_then (installation_at facts) register)
open_found facts None = refl
open_found facts (Some name) = refl

faulty_if : (at : ℕ) (c : Command) (row : Installation) (e : Entry) (why : TermFault) (ended : Bool) → makes_fault at why c (Some row) ≡ entry_has_fault row e why
    → makes_fault at why c (cond ended None (Some row)) ≡ is_faulty (cond ended None (Some row)) e why
faulty_if at c row e why true same = refl
faulty_if at c row e why false same = same

faulty_at : (facts : List Fact) (at : ℕ) (c : Command) (row : Installation) (e : Entry) (why : TermFault)
    → Some row ≡ option_and_then (installation_at facts) (corrected_at c) → makes_fault at why c (Some row) ≡ entry_has_fault row e why
    → is_faulty (if_open row) e why ≡ asks_faulty facts at why c
faulty_at facts at c row e why is same =
    sym (ap (makes_fault at why c) (open_found facts (corrected_at c) ∙ ap (option_and_then if_open) (sym is)) ∙ faulty_if at c row e why row.ended same)

-- True if the command corrects the latest meter of its accounting register (a named energy counter)
-- by adding the given meter entry. Two Booleans state whether the command's scale is out of range,
-- and whether another number is out of range.
pub record Corrects (slots : List Slot) (facts : List Fact) (at : ℕ) (c : Command) (row : Installation) (e : Entry)
    (off_scale off_limits : Bool) : Type 0 where
  pub unknown : asks_unknown slots facts c ≡ has_no_meter facts (corrected_at c)
  pub taken : asks_taken slots facts c ≡ false
  pub scale : asks_bad_scale c ≡ off_scale
  pub limits : asks_bad_field at c || is_crowded slots facts c ≡ off_limits
  pub busy : asks_busy slots c ≡ false
  pub voidable : asks_unvoidable facts c ≡ false
  pub place : voided_place facts c ≡ None
  pub start : is_start c ≡ false
  pub faults : (why : TermFault) → makes_fault at why c (Some row) ≡ entry_has_fault row e why

corrects_for : (slots : List Slot) (facts : List Fact) (arrival : Arrival) (c : Command) (row : Installation) (e : Entry) (off_scale off_limits : Bool)
    → Some row ≡ option_and_then (installation_at facts) (corrected_at c) → Corrects slots facts arrival.moment c row e off_scale off_limits
    → (why : Refusal) → speaks_of_entry arrival off_scale off_limits row e why ≡ speaks_against slots facts arrival c why
corrects_for slots facts arrival c row e off_scale off_limits is h refusal.NotFound = ap is_none is ∙ sym h.unknown
corrects_for slots facts arrival c row e off_scale off_limits is h refusal.Exists = sym h.taken
corrects_for slots facts arrival c row e off_scale off_limits is h refusal.ClockBack = sym (or_false arrival.is_back)
corrects_for slots facts arrival c row e off_scale off_limits is h refusal.BadScale = sym h.scale
corrects_for slots facts arrival c row e off_scale off_limits is h refusal.NegativeStep =
    faulty_at facts arrival.moment c row e fault.NegativeStep is (h.faults fault.NegativeStep)
corrects_for slots facts arrival c row e off_scale off_limits is h refusal.NotLater =
    faulty_at facts arrival.moment c row e fault.NotLater is (h.faults fault.NotLater)
corrects_for slots facts arrival c row e off_scale off_limits is h refusal.SpanTooLong =
    faulty_at facts arrival.moment c row e fault.SpanTooLong is (h.faults fault.SpanTooLong)
corrects_for slots facts arrival c row e off_scale off_limits is h refusal.TotalFull =
    faulty_at facts arrival.moment c row e fault.TotalFull is (h.faults fault.TotalFull)
corrects_for slots facts arrival c row e off_scale off_limits is h refusal.Ended = ap is_closed is
corrects_for slots facts arrival c row e off_scale off_limits is h refusal.Busy = sym h.busy
corrects_for slots facts arrival c row e off_scale off_limits is h refusal.Limit =
    ap (λ b. (arrival.is_beyond || b) || is_faulty (if_open row) e fault.NotBelowRange) (sym h.limits)
    ∙ or_assoc arrival.is_beyond (asks_bad_field arrival.moment c || is_crowded slots facts c) (is_faulty (if_open row) e fault.NotBelowRange)
    ∙ ap (λ b. arrival.is_beyond || (asks_bad_field arrival.moment c || is_crowded slots facts c || b))
    (faulty_at facts arrival.moment c row e fault.NotBelowRange is (h.faults fault.NotBelowRange))
corrects_for slots facts arrival c row e off_scale off_limits is h refusal.NotVoidable = sym h.voidable
corrects_for slots facts arrival c row e off_scale off_limits is h (refusal.NotPlausible why) =
    ap (λ (o : Option EntryContext). is_held_for why (verdict_at o)) (sym h.place)
corrects_for slots facts arrival c row e off_scale off_limits is h (refusal.Store store.Refused) = sym (rw h.start refl)
corrects_for slots facts arrival c row e off_scale off_limits is h _ = refl

-- A command that corrects a meter is refused for the same reason as the meter entry that the
-- command adds.
pub refused_as : (slots : List Slot) (facts : List Fact) (arrival : Arrival) (c : Command) (row : Installation) (e : Entry) (off_scale off_limits : Bool)
    → Some row ≡ option_and_then (installation_at facts) (corrected_at c) → Corrects slots facts arrival.moment c row e off_scale off_limits
    → entry_refusal arrival off_scale off_limits row e ≡ refusal_under slots facts arrival c
refused_as slots facts arrival c row e off_scale off_limits is h =
    same_find _ _ reasons (corrects_for slots facts arrival c row e off_scale off_limits is h)

-- The given refusal if there is one, otherwise the refusal `Limit` if `crowded` (too many meters)
-- is true.
abbrev pub or_limit : (crowded : Bool) → Option Refusal → Option Refusal
or_limit crowded None = cond crowded (Some refusal.Limit) None
or_limit crowded (Some why) = Some why

past : (crowded b : Bool) (why : Refusal) (later : Option Refusal)
    → or_limit crowded (cond b (Some why) later) ≡ cond b (Some why) (or_limit crowded later)
past crowded true why later = refl
past crowded false why later = refl

with_room : (r : Option Refusal) → or_limit false r ≡ r
with_room None = refl
with_room (Some why) = refl

limited : (beyond limits faulty : Bool)
    → or_limit true (cond ((beyond || limits) || faulty) (Some refusal.Limit) None) ≡ cond ((beyond || (limits || true)) || faulty) (Some refusal.Limit) None
limited true limits faulty = refl
limited false true faulty = refl
limited false false true = refl
limited false false false = refl

-- Checking the limit on the number of meters after all other reasons to refuse an entry gives the
-- same refusal as checking it together with the other limits. The refusal `Limit` is the last
-- reason to be checked.
pub room_last : (arrival : Arrival) (off_scale limits crowded : Bool) (row : Installation) (e : Entry)
    → or_limit crowded (entry_refusal arrival off_scale limits row e) ≡ entry_refusal arrival off_scale (limits || crowded) row e
room_last arrival off_scale limits false row e =
    with_room (entry_refusal arrival off_scale limits row e) ∙ ap (λ b. entry_refusal arrival off_scale b row e) (sym (or_false limits))
room_last arrival off_scale limits true row e =
    let after : (b : Bool) (why : Refusal) (o p : Option Refusal) → or_limit true o ≡ p → or_limit true (cond b (Some why) o) ≡ cond b (Some why) p =
    λ b why o p h. past true b why o ∙ ap (λ q. cond b (Some why) q) h in
    after arrival.is_back refusal.ClockBack _ _
    (after off_scale refusal.BadScale _ _
    (after (is_faulty (if_open row) e fault.NegativeStep) refusal.NegativeStep _ _
    (after (is_faulty (if_open row) e fault.NotLater) refusal.NotLater _ _
    (after (is_faulty (if_open row) e fault.SpanTooLong) refusal.SpanTooLong _ _
    (after (is_faulty (if_open row) e fault.TotalFull) refusal.TotalFull _ _
    (after row.ended refusal.Ended _ _ (limited arrival.is_beyond limits (is_faulty (if_open row) e fault.NotBelowRange))))))))

-- A command that exchanges a meter is refused for the same reason as the closing of the old meter,
-- or for the limit on the number of meters.
pub exchanged : (slots : List Slot) (facts : List Fact) (arrival : Arrival) (c : Exchange) (row : Installation) (off_scale limits crowded : Bool) (r : Option Refusal)
    → Some row ≡ option_and_then (installation_at facts) c.register → false ≡ is_some (option_and_then (opening_of facts) c.meter)
    → off_scale ≡ asks_bad_scale (command.Exchange c) → limits ≡ asks_bad_field arrival.moment (command.Exchange c)
    → crowded ≡ nat_le installation_limit (length (openings_in facts))
    → r ≡ entry_refusal arrival off_scale limits row (entry.Step arrival.moment c.last c.rolls)
    → or_limit crowded r ≡ refusal_under slots facts arrival (command.Exchange c)
exchanged slots facts arrival c row off_scale limits crowded r is new scale field full found =
    ap (or_limit crowded) found
    ∙ room_last arrival off_scale limits crowded row (entry.Step arrival.moment c.last c.rolls)
    ∙ refused_as slots facts arrival (command.Exchange c) row (entry.Step arrival.moment c.last c.rolls) off_scale (limits || crowded) is (record {
      unknown = refl;
      taken = sym new;
      scale = sym scale;
      limits = ap (λ b. b || nat_le installation_limit (length (openings_in facts))) (sym field) ∙ ap (λ b. limits || b) (sym full);
      busy = refl;
      voidable = refl;
      place = refl;
      start = refl;
      faults = λ why. refl;
    })
