-- Lemmas on Modbus reads that are started one after another on a session (the connection of a
-- device). They give how many reads can start, and the session's state, frames and records after
-- each start.
use Rattle.std.proofs.Common.{◌≡◌, ℕ, suc, ◌+◌, ◌*◌, ◌%◌, ◌≤◌, ◌<◌, min, Bool, true, false, List, [], ◌∷◌, ◌++◌, map, length, take, drop, get_or, refl, sym, ap, subst, ◌∙◌, inl, inr, if◌then◌else◌, Option, Some, None, append_assoc, arith, is_none, nat_lt}
use Rattle.std.proofs.Math.Seq.{drop-cons}
use Rattle.std.proofs.lemmas.Bool.{le-ltb}
use Rattle.poll_core.specs.declared.answers.StartFault.TheVariants.{WindowFull, IdBusy, ClockBack, Closed}
use Rattle.std.specs.List.{flat_map}
use Rattle.std.proofs.lemmas.List.{append-nil, length-append, map-append, length-take-le}
use Rattle.std.proofs.lemmas.Bool.{cond-true, cond-false, cases_Bool}
use Rattle.mb_wire.specs.Spans.{span_view}
use Rattle.mb_wire.specs.declared.span.ReadSpan.{ReadSpan}
use Rattle.poll_core.specs.Settling as session
use Rattle.poll_core.specs.Standing.{State, Stands, last_moment}
use Rattle.poll_core.specs.declared.answers.StartFault.{StartFault}
use Rattle.poll_core.specs.Starting.{start_fault, IsReady}
use Rattle.poll_core.proofs.Starts.{next_id-start}
use Rattle.poll_core.proofs.Settles.{last_moment-push}
use Rattle.office_events.specs.declared.facts.Device.{Device}
use Rattle.office_events.specs.declared.facts.Fact.{Fact}
use Rattle.office_books.specs.Sessions as sessions
use Rattle.office_books.specs.Sessions.{Send, is_startable, start_by, sends_on, sends_at, with_happenings}
use Rattle.office_books.specs.History.{poll_by}
use Rattle.office_books.specs.Notes.{frame_of}
use Rattle.office_core.specs.Sessions.Moments.{none_later}
use Rattle.office_core.specs.Sessions.Keeping.{KeepsSession, KeepsPresent, KeepsSlot}
use Rattle.office_core.specs.declared.sessions.slots.Slot.{Slot}
use Rattle.office_core.specs.Starting.Starts.{IsBefore, sent_from, slot_sent}
use Rattle.office_books.proofs.Rounds.{round_count}

-- The number of reads that a Modbus session can start equals the length of the list of reads that
-- it starts.
pub sends_count : (number at : ℕ) (device : Device) (events : List session.Event) (spans : List ReadSpan) (id count window n : ℕ)
    → IsReady device.timeout device.window events id count → count ≤ window → window ≡ device.window
    → n ≡ min (min count device.window) (length spans) → n ≡ length (sends_on number at device events spans)
sends_count number at device events spans id count window n ready few is made =
    let all = round_count at number device events [] id count spans ready tt (omega arith) in
    let same : sends_on number at device (events ++ []) spans ≡ sends_on number at device events spans =
    ap (λ (es : List session.Event). sends_on number at device es spans) (append-nil events) in
    omega (arith, all, ap length same, few, is, made)

pub ready_on : (device : Device) (kept : State) (events : List session.Event) (id count : ℕ) → KeepsSession device kept events
    → IsReady kept.timeout kept.window events id count → IsReady device.timeout device.window events id count
ready_on device kept events id count keeps ready =
    subst (λ t. IsReady t device.window events id count) keeps.timeout
    (subst (λ w. IsReady kept.timeout w events id count) keeps.window ready)

-- The state after the first `i` of the reads that a Modbus session can start. The reads that the
-- session can start are these `i` reads, followed by the reads that it can start next.
pub record SoFar (number at : ℕ) (device : Device) (events : List session.Event) (spans : List ReadSpan) (i : ℕ) : Type 0 where
  pub made : List Send
  pub long : length made ≡ i
  pub sends : sends_on number at device events spans
      ≡ made ++ sends_on (number + i) at device (events ++ map (start_by at device) made) (drop i spans)

pub none_more : (n : ℕ) → n ≡ n + 0
none_more n = omega arith

abbrev pub begin : (number at : ℕ) (device : Device) (events : List session.Event) (spans : List ReadSpan) → SoFar number at device events spans 0
begin number at device events spans = record {
  made = [];
  long = refl;
  sends = ap (λ (n : ℕ). sends_on n at device events spans) (none_more number)
      ∙ ap (λ (es : List session.Event). sends_on (number + 0) at device es spans) (sym (append-nil events));
}

-- True if the Modbus session can start one more read. The read then becomes the poll with the next
-- poll number.
pub record Next (number at : ℕ) (device : Device) (here : List session.Event) (span : ReadSpan) (rest : List ReadSpan) : Type 0 where
  pub can : is_startable device (Some here) ≡ true
  pub first : sends_on number at device here (span ∷ rest)
      ≡ (record { number = number; id = session.next_id here; span = span })
      ∷ sends_on (number + 1) at device (here ++ session.Start at number device.unit (span_view span) ∷ []) rest

pub next_of : (number at : ℕ) (device : Device) (here : List session.Event) (span : ReadSpan) (rest : List ReadSpan)
    → 1 ≤ length (sends_on number at device here (span ∷ rest)) → Next number at device here span rest
next_of number at device here span rest some =
    elim (cases_Bool (is_startable device (Some here))) [
      | inl can ↦ record { can = can; first = cond-true _ _ _ can }
      | inr cannot ↦
          let none : sends_on number at device here (span ∷ rest) ≡ [] = cond-false _ _ _ cannot in
          absurd (omega (arith, some, ap length none))
    ]

abbrev pub send_at : (number i : ℕ) → List session.Event → ReadSpan → Send
send_at number i here span = record { number = number + i; id = session.next_id here; span = span }

starts_further : (at : ℕ) (device : Device) (events : List session.Event) (made : List Send) (send : Send)
    → (events ++ map (start_by at device) made) ++ start_by at device send ∷ [] ≡ events ++ map (start_by at device) (made ++ send ∷ [])
starts_further at device events made send =
    append_assoc events (map (start_by at device) made) (start_by at device send ∷ [])
    ∙ ap (λ (es : List session.Event). events ++ es) (sym (map-append (start_by at device) made (send ∷ [])))

-- True if the Modbus session can start one more read after `i` reads. Also states that the
-- guarantees for the first `i + 1` reads hold.
pub record Further (number at : ℕ) (device : Device) (events : List session.Event) (spans : List ReadSpan) (i : ℕ) (made : List Send) (span : ReadSpan) : Type 0 where
  pub can : is_startable device (Some (events ++ map (start_by at device) made)) ≡ true
  pub so_far : SoFar number at device events spans (i + 1)
  pub is : so_far.made ≡ made ++ send_at number i (events ++ map (start_by at device) made) span ∷ []

some_left : (made i all left : ℕ) → made ≡ i → i < all → all ≡ made + left → 1 ≤ left
some_left made i all left is more split = omega (arith, is, more, split)

pub further : (number at : ℕ) (device : Device) (events : List session.Event) (spans : List ReadSpan) (i : ℕ) (span : ReadSpan)
    → span ≡ get_or spans i span → (so : SoFar number at device events spans i) → i < length (sends_on number at device events spans)
    → i < length spans → Further number at device events spans i so.made span
further number at device events spans i span there so more inside =
    let here : List session.Event = events ++ map (start_by at device) so.made in
    let send : Send = send_at number i here span in
    let left : List ReadSpan = drop (suc i) spans in
    let cut : drop i spans ≡ span ∷ left = drop-cons spans i span inside ∙ ap (λ (x : ReadSpan). x ∷ left) (sym there) in
    let split : sends_on number at device events spans ≡ so.made ++ sends_on (number + i) at device here (span ∷ left) =
    so.sends ∙ ap (λ (ss : List ReadSpan). so.made ++ sends_on (number + i) at device here ss) cut in
    let some : 1 ≤ length (sends_on (number + i) at device here (span ∷ left)) =
    some_left (length so.made) i (length (sends_on number at device events spans)) _ so.long more
    (ap length split ∙ length-append so.made (sends_on (number + i) at device here (span ∷ left))) in
    let next = next_of (number + i) at device here span left some in
    let rest : List Send = sends_on (number + (i + 1)) at device (events ++ map (start_by at device) (so.made ++ send ∷ [])) (drop (i + 1) spans) in
    let later : number + i + 1 ≡ number + (i + 1) = omega arith in
    let one : suc i ≡ i + 1 = omega arith in
    let same : sends_on (number + i + 1) at device (here ++ session.Start at (number + i) device.unit (span_view span) ∷ []) left ≡ rest =
    ap (λ (n : ℕ). sends_on n at device (here ++ start_by at device send ∷ []) left) later
    ∙ ap (λ (es : List session.Event). sends_on (number + (i + 1)) at device es left) (starts_further at device events so.made send)
    ∙ ap (λ (n : ℕ). sends_on (number + (i + 1)) at device (events ++ map (start_by at device) (so.made ++ send ∷ [])) (drop n spans)) one in
    record {
      can = next.can;
      so_far = record {
        made = so.made ++ send ∷ [];
        long = length-append so.made (send ∷ []) ∙ ap (λ n. n + 1) so.long;
        sends = split ∙ ap (λ (ss : List Send). so.made ++ ss) (next.first ∙ ap (λ (ss : List Send). send ∷ ss) same)
            ∙ sym (append_assoc so.made (send ∷ []) rest);
      };
      is = refl;
    }

-- If a list has the length 0, then the list is empty.
none_left : {X : Type 0} (xs : List X) → length xs ≡ 0 → xs ≡ []
none_left [] h = refl
none_left (x ∷ xs) h = absurd (omega (arith, h))

pub complete : (number at : ℕ) (device : Device) (events : List session.Event) (spans : List ReadSpan) (i : ℕ)
    → (so : SoFar number at device events spans i) → length (sends_on number at device events spans) ≤ i
    → so.made ≡ sends_on number at device events spans
complete number at device events spans i so all =
    let rest : List Send = sends_on (number + i) at device (events ++ map (start_by at device) so.made) (drop i spans) in
    let none : rest ≡ [] = none_left rest (omega (arith, all, ap length so.sends, length-append so.made rest, so.long)) in
    sym (so.sends ∙ ap (λ (ss : List Send). so.made ++ ss) none ∙ append-nil so.made)

-- After a read is started, the next transaction identifier is larger by one, modulo 65536.
pub id_after : (at : ℕ) (device : Device) (events : List session.Event) (made : List Send) (send : Send) (id next : ℕ)
    → id ≡ session.next_id (events ++ map (start_by at device) made) → next ≡ (id + 1) % 65536
    → next ≡ session.next_id (events ++ map (start_by at device) (made ++ send ∷ []))
id_after at device events made send id next is goes =
    goes ∙ ap (λ (n : ℕ). (n + 1) % 65536) is
    ∙ sym (next_id-start (events ++ map (start_by at device) made) at send.number device.unit (span_view send.span))
    ∙ ap session.next_id (starts_further at device events made send)

-- The reason why a Modbus session cannot start a poll, or `None`. If a start is allowed at the
-- session's latest timestamp, then it is allowed at each later timestamp.
abbrev fault_by : (full busy back over : Bool) → Option StartFault
fault_by full busy back over =
    if full then Some WindowFull else if busy then Some IdBusy else if back then Some ClockBack else if over then Some Closed else None

none_by : (full busy before back over : Bool) → is_none (fault_by full busy before over) ≡ true → back ≡ false → fault_by full busy back over ≡ None
none_by true busy before back over h e = absurd (cc)
none_by false true before back over h e = absurd (cc)
none_by false false true back over h e = absurd (cc)
none_by false false false back true h e = absurd (cc)
none_by false false false back false h e = ap (λ (b : Bool). fault_by false false b false) e

pub start_passes : (device : Device) (events : List session.Event) (moment : ℕ) → last_moment events ≤ moment
    → is_startable device (Some events) ≡ true → start_fault device.timeout device.window events moment ≡ None
start_passes device events moment later can =
    none_by _ _ (nat_lt (last_moment events) (last_moment events)) (nat_lt moment (last_moment events)) _ can (le-ltb moment (last_moment events) later)

-- After reads are started at a timestamp, no event of the Modbus session is later than this
-- timestamp.
pub last_more : (at : ℕ) (device : Device) (events : List session.Event) (made : List Send) (send : Send)
    → last_moment (events ++ map (start_by at device) (made ++ send ∷ [])) ≤ at
last_more at device events made send =
    let is : last_moment (events ++ map (start_by at device) (made ++ send ∷ [])) ≡ at =
    ap last_moment (sym (starts_further at device events made send))
    ∙ last_moment-push (events ++ map (start_by at device) made) (start_by at device send) in
    omega (arith, is)

-- After one more read is started, the frames to send are the earlier frames followed by the frame
-- of this read.
pub frames_after : (device : Device) (made : List Send) (send : Send) (out more : List ℕ) → out ≡ flat_map (frame_of device) made
    → more ≡ frame_of device send → out ++ more ≡ flat_map (frame_of device) (made ++ send ∷ [])
frames_after device [] send out more is one = ap (λ (o : List ℕ). o ++ more) is ∙ one ∙ sym (append-nil (frame_of device send))
frames_after device (first ∷ made) send out more is one =
    ap (λ (o : List ℕ). o ++ more) is
    ∙ append_assoc (frame_of device first) (flat_map (frame_of device) made) more
    ∙ ap (λ (o : List ℕ). frame_of device first ++ o) (frames_after device made send (flat_map (frame_of device) made) more refl one)

-- After one more read is started, the poll records are the earlier records followed by the record
-- of this read.
pub polls_after : (at number id : ℕ) (device : Device) (here : List session.Event) (span : ReadSpan) (made : List Send) (facts more : List Fact)
    → more ≡ facts ++ poll_by at device (record { number = number; id = id; span = span }) ∷ [] → facts ≡ map (poll_by at device) made
    → id ≡ session.next_id here
    → more ≡ map (poll_by at device) (made ++ (record { number = number; id = session.next_id here; span = span }) ∷ [])
polls_after at number id device here span made facts more one is next =
    one ∙ ap (λ (fs : List Fact). fs ++ poll_by at device (record { number = number; id = id; span = span }) ∷ []) is
    ∙ ap (λ (n : ℕ). map (poll_by at device) made ++ poll_by at device (record { number = number; id = n; span = span }) ∷ []) next
    ∙ sym (map-append (poll_by at device) made ((record { number = number; id = session.next_id here; span = span }) ∷ []))

-- After one more read is started, the Modbus session in memory is in the state that follows from
-- the session's events.
pub keeps_after : (at : ℕ) (device : Device) (events : List session.Event) (made : List Send) (send : Send) (kept new : State)
    → KeepsSession device kept (events ++ map (start_by at device) made) → (new.timeout ≡ kept.timeout) × (new.window ≡ kept.window)
    → Stands new ((events ++ map (start_by at device) made) ++ start_by at device send ∷ [])
    → KeepsSession device new (events ++ map (start_by at device) (made ++ send ∷ []))
keeps_after at device events made send kept new keeps terms stands = record {
  stands = subst (Stands new) (starts_further at device events made send) stands;
  timeout = terms.0 ∙ keeps.timeout;
  window = terms.1 ∙ keeps.window;
}

-- If a buffer has at most `12 * i` bytes, then one more request frame of 12 bytes gives it at most
-- `12 * (i + 1)` bytes.
pub room_after : (i len : ℕ) (out bytes more : List ℕ) → length out ≤ i * 12 → len ≡ 12 → length bytes ≡ 260 → more ≡ out ++ take len bytes → length more ≤ (i + 1) * 12
room_after i len out bytes more room size long is =
    omega (arith, room, size, ap length is, length-append out (take len bytes), length-take-le len bytes (omega (arith, size, long)))

-- If reads are started on the Modbus session of a device, then the session's events include the
-- starts of these reads.
sent_events : (at : ℕ) (slot : sessions.Slot) (before : List session.Event) (sends : List Send)
    → with_happenings slot before (map (start_by at slot.device) sends)
    ≡ record { device = slot.device; ended = slot.ended; present = Some (before ++ map (start_by at slot.device) sends) }
sent_events at slot before [] =
    ap (λ (es : List session.Event). record { device = slot.device; ended = slot.ended; present = Some es }) (sym (append-nil before))
sent_events at slot before (send ∷ sends) =
    sent_events at slot (before ++ start_by at slot.device send ∷ []) sends
    ∙ ap (λ (es : List session.Event). record { device = slot.device; ended = slot.ended; present = Some es })
    (append_assoc before (start_by at slot.device send ∷ []) (map (start_by at slot.device) sends))

pub record Kept (device : Device) (old : State) (present : Option (List session.Event)) : Type 0 where
  pub events : List session.Event
  pub is : present ≡ Some events
  pub keeps : KeepsSession device old events

pub kept_of : (device : Device) (old : State) (present : Option (List session.Event)) → KeepsPresent device (Some old) present → Kept device old present
kept_of device old None keeps = absurd keeps
kept_of device old (Some events) keeps = record { events = events; is = refl; keeps = keeps }

pub earlier_of : (at : ℕ) (present : Option (List session.Event)) (events : List session.Event) → none_later at present → present ≡ Some events → last_moment events ≤ at
earlier_of at present events h is = subst (none_later at) is h

pub slot_keeps : (number at : ℕ) (spans : List ReadSpan) (now slot : Slot) (kept : sessions.Slot) (old new : State)
    → slot.device ≡ now.device → slot.session ≡ Some new → now.session ≡ Some old → KeepsSlot now kept → IsBefore at kept
    → ((events : List session.Event) → KeepsSession now.device old events → last_moment events ≤ at
    → KeepsSession now.device new (events ++ map (start_by at now.device) (sends_on number at now.device events spans)))
    → KeepsSlot slot (slot_sent number at spans kept)
slot_keeps number at spans now slot kept old new same after before keeps early onward =
    let had = kept_of kept.device old kept.present (subst (λ (s : Option State). KeepsPresent kept.device s kept.present) before keeps.session) in
    let sends : List Send = sends_on number at kept.device had.events spans in
    let is : slot_sent number at spans kept ≡ record { device = kept.device; ended = kept.ended; present = Some (had.events ++ map (start_by at kept.device) sends) } =
    ap (λ (p : Option (List session.Event)). sent_from at kept (sends_at number at kept.device p spans) p) had.is ∙ sent_events at kept had.events sends in
    let goes : KeepsSession kept.device new (had.events ++ map (start_by at kept.device) sends) =
    subst (λ (d : Device). KeepsSession d old had.events → last_moment had.events ≤ at → KeepsSession d new (had.events ++ map (start_by at d) (sends_on number at d had.events spans)))
    keeps.device (onward had.events) had.keeps (earlier_of at kept.present had.events early had.is) in
    subst (KeepsSlot slot) (sym is) (record {
      device = same ∙ keeps.device;
      session = subst (λ (s : Option State). KeepsPresent kept.device s (Some (had.events ++ map (start_by at kept.device) sends))) (sym after) goes;
    })
