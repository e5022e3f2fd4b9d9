-- Lemmas on the bytes that one call of `handle` (which serves one request) reads from a client's
-- connection and writes to the connection.
use Rattle.std.proofs.Common.{◌≡◌, ◌∙◌, ◌≤◌, ◌+◌, ◌-◌, ◌^◌, min, arith, ℕ, Bool, true, false, not, ◌&&◌, List, [], ◌++◌, Option, Some, None, Result, Ok, Err, inl, inr, refl, sym, ap, subst}
use Rattle.std.specs.Io.KnownBytes.{Appends, Keeps}
use Rattle.std.specs.Prelude.{is_err}
use Rattle.std.proofs.KnownBytes.{Appends-trans, Consumes-kept, Keeps-trans}
use Rattle.std.proofs.lemmas.List.{append-nil}
use Rattle.mb_wire.specs.Links.{risen}
use Rattle.mb_wire.specs.declared.link.LastTake.{LastTake}
use Rattle.mb_wire.specs.declared.link.LinkFailed.{LinkFailed}
use Rattle.office_http.specs.Messages.Head.Heads.{IsOpenHead, Looks}
use Rattle.office_http.specs.declared.messages.head.head.HeadState.{HeadState}
use Rattle.office_http.specs.declared.messages.head.head.HeadState.TheVariants.{Open, TooLarge, NoHead, Whole}
use Rattle.office_http.specs.Messages.Reading.HeadAndBody.{ReadsHead, StopsAtOnce}
use Rattle.office_http.specs.Messages.Reading.Taking.{Came, CountsTakes, bytes_in}
use Rattle.office_http.specs.declared.messages.reading.inbox.TheConstants.{MOST_TAKES}
use Rattle.office_http.specs.declared.messages.reading.inbox.Inbox.{Inbox}
use Rattle.office_http.specs.declared.messages.reading.inbox.TakeFault.{TakeFault}
use Rattle.office_http.specs.declared.messages.reading.inbox.TakeFault.TheVariants as take
use Rattle.office_http.specs.Messages.Sending.Giving.{Gives}
use Rattle.office_http.specs.Messages.Sending.Sending.{HasPut, OnlyGives, Outgoing}
use Rattle.office_http.specs.Messages.Routing.Routes.{Table, routes}
use Rattle.office_http.specs.Messages.Whole.Whole.{IsUnfinished, Holds, ReadsRequest}
use Rattle.office_http.specs.Messages.Replies.{refused, reply_bytes}
use Rattle.office_events.specs.declared.refusals.Refusal.{Refusal}
use Rattle.office_events.specs.declared.refusals.Refusal.TheVariants as refusal
use Rattle.office_books.specs.Ledgers.{Ledger}
use Rattle.office_core.specs.Standing.{After}
use Rattle.office_core.specs.declared.office.Office.{Office}
use Rattle.office_http.specs.Exchange.{Does, DoesBare, GivesReply, Handles, HandlesBare, HasHead, IsEnd, Passage, ReadsOn, ReadsOnBare, Replies, RepliesBare, StopsReading, as_fault, ended, is_link_fault, passage}
use Rattle.office_http.specs.declared.fault.HandleFault.{HandleFault}
use Rattle.office_http.specs.declared.fault.HandleFault.TheVariants.{Read, Write, Short, TurnsUsed, Cut}
use Rattle.office_http.proofs.Served.{no_memory}

pub keeps_append : (a b : Option (List ℕ)) → Keeps a b → Appends a b []
keeps_append None b h = tt
keeps_append (Some x) None h = absurd h
keeps_append (Some x) (Some y) h = h ∙ sym (append-nil x)

-- If nothing was written to the client's connection between two times, then the bytes written since
-- the first time equal the bytes written since the second time.
pub gives_since : (sent : Result (Unit {0}) LinkFailed) (a b c : Option (List ℕ)) (bytes : List ℕ) → Keeps a b → Gives sent b c bytes → Gives sent a c bytes
gives_since (Ok x) a b c bytes h gives = Appends-trans a b c [] bytes (keeps_append a b h) gives
gives_since (Err e) a b c bytes h gives = (gives.0, gives.1, gives.2, Appends-trans a b c [] gives.0 (keeps_append a b h) gives.3)

-- If the input buffer was empty before a read, then the buffer's bytes after the read are exactly
-- the bytes that the client's connection delivered.
pub came_is : (old new : List ℕ) (r s : Option (List ℕ)) → old ≡ [] → (came : Came old new r s) → new ≡ came.chunk
came_is old new r s empty came = came.bytes ∙ ap (λ o. o ++ came.chunk) empty

pub stopped : (P : List ℕ → Type 0) → ((bytes : List ℕ) → P bytes → IsUnfinished routes bytes) → (old new : Inbox) (was now : Option LastTake) (read : List ℕ)
    → bytes_in old ≡ [] → bytes_in new ≡ read → StopsAtOnce P old new was now → StopsReading read now
stopped P goes old new was now read empty is (inl none) = inl (sym is ∙ none.bytes ∙ empty)
stopped P goes old new was now read empty is (inr some) = inr record {
  earlier = some.earlier;
  chunk = some.chunk;
  goes_on = goes some.earlier (subst (λ o. P (o ++ some.earlier)) empty some.goes_on);
  bytes = sym is ∙ some.bytes ∙ ap (λ o. (o ++ some.earlier) ++ some.chunk) empty;
  size = some.size;
}

-- If bytes contain a complete request or begin with an invalid head, then their request head is
-- complete or invalid.
pub head_of : (table : Table) (head_state : HeadState) (bytes : List ℕ) → Holds table bytes head_state → HasHead bytes
head_of table Open bytes h = absurd h
head_of table TooLarge bytes h = record { head_state = TooLarge; finds = h; come = refl }
head_of table NoHead bytes h = record { head_state = NoHead; finds = h; come = refl }
head_of table (Whole at) bytes h = record { head_state = Whole at; finds = h.head; come = refl }

-- Lemmas: if a call of `handle` (which serves one request) fails to read its request, the call
-- writes nothing and leaves the program's state unchanged.

pub read_failed : {B : Type 0} (ledger : B → Ledger) (at : ℕ) (office : Office B) (fault : TakeFault) (old new : List ℕ) (remaining later given later_given : Option (List ℕ))
    (last : Option LastTake) → old ≡ [] → ReadsRequest routes (Err fault) old new remaining later → Keeps given later_given
    → Handles ledger at office office (passage remaining later given later_given last) (Err (as_fault fault))
read_failed ledger at office take.Read old new remaining later given later_given last empty reads keeps = record {
  read = reads.0.chunk;
  takes = reads.0.consumed;
  does = record { goes_on = subst (IsUnfinished routes) (came_is old new remaining later empty reads.0) reads.1; nothing = keeps; unchanged = refl };
}
read_failed ledger at office take.Short old new remaining later given later_given last empty reads keeps = record {
  read = reads.0.chunk;
  takes = reads.0.consumed;
  does = (record { goes_on = subst (IsUnfinished routes) (came_is old new remaining later empty reads.0) reads.1; nothing = keeps; unchanged = refl }, reads.2);
}
read_failed ledger at office take.TurnsUsed old new remaining later given later_given last empty reads keeps = record {
  read = reads.0.chunk;
  takes = reads.0.consumed;
  does = record { goes_on = subst (IsUnfinished routes) (came_is old new remaining later empty reads.0) reads.1; nothing = keeps; unchanged = refl };
}

pub head_failed : (fault : TakeFault) (old new : List ℕ) (remaining later given later_given : Option (List ℕ)) (last : Option LastTake)
    → old ≡ [] → ReadsHead (Err fault) old new remaining later → Keeps given later_given
    → HandlesBare (passage remaining later given later_given last) (Err (as_fault fault))
head_failed take.Read old new remaining later given later_given last empty reads keeps = record {
  read = reads.0.chunk;
  takes = reads.0.consumed;
  does = record { goes_on = inl (subst IsOpenHead (came_is old new remaining later empty reads.0) reads.1); nothing = keeps };
}
head_failed take.Short old new remaining later given later_given last empty reads keeps = record {
  read = reads.0.chunk;
  takes = reads.0.consumed;
  does = (record { goes_on = inl (subst IsOpenHead (came_is old new remaining later empty reads.0) reads.1); nothing = keeps }, reads.2);
}
head_failed take.TurnsUsed old new remaining later given later_given last empty reads keeps = record {
  read = reads.0.chunk;
  takes = reads.0.consumed;
  does = record { goes_on = inl (subst IsOpenHead (came_is old new remaining later empty reads.0) reads.1); nothing = keeps };
}

-- Lemmas: if a call of `handle` read a request and wrote the response, then the call satisfies
-- `Handles`, the contract of serving one request.

pub does_reply : {B : Type 0} (ledger : B → Ledger) (at : ℕ) (old new : Office B) (link : Passage) (read : List ℕ) (result : Result (Unit {0}) HandleFault)
    → IsEnd result → Replies ledger at old new link read result → Does ledger at old new link read result
does_reply ledger at old new link read (Ok x) end replies = replies
does_reply ledger at old new link read (Err Write) end replies = replies
does_reply ledger at old new link read (Err Cut) end replies = replies
does_reply ledger at old new link read (Err Read) end replies = absurd end
does_reply ledger at old new link read (Err Short) end replies = absurd end
does_reply ledger at old new link read (Err TurnsUsed) end replies = absurd end

pub replied : {B : Type 0} (ledger : B → Ledger) (at : ℕ) (old new : Office B) (inbox full : Inbox) (seen : List ℕ) (result : Result (Unit {0}) HandleFault)
    (remaining mid later given given_mid later_given : Option (List ℕ)) (was between last : Option LastTake)
    → bytes_in inbox ≡ [] → seen ≡ bytes_in full → Came (bytes_in inbox) (bytes_in full) remaining mid → StopsAtOnce (IsUnfinished routes) inbox full was between → Keeps given given_mid
    → Keeps mid later → last ≡ between → IsEnd result → HasHead (bytes_in full)
    → After ledger old new (λ past. GivesReply ledger past at old new given_mid later_given seen result)
    → Handles ledger at old new (passage remaining later given later_given last) result
replied ledger at old new inbox full seen result remaining mid later given given_mid later_given was between last empty shown came stops keeps rest same end head gives =
    let all = came_is (bytes_in inbox) (bytes_in full) remaining mid empty came in
    let is : seen ≡ came.chunk = shown ∙ all in
    record {
      read = came.chunk;
      takes = Consumes-kept remaining mid later came.chunk came.consumed rest;
      does = does_reply ledger at old new (passage remaining later given later_given last) came.chunk result end (record {
        head = subst HasHead all head;
        stops = subst (StopsReading came.chunk) (sym same) (stopped (IsUnfinished routes) (λ bytes h. h) inbox full was between came.chunk empty all stops);
        replies = λ past stands clean.
            let one = subst (λ r. GivesReply ledger past at old new given_mid later_given r result) is (gives past stands clean) in
            record {
              cut = one.cut;
              sent = one.sent;
              ends = one.ends;
              put = one.put;
              serves = one.serves;
              gives = gives_since one.sent given given_mid later_given one.put keeps one.gives;
            };
      });
    }

-- Lemmas on a response writer, from its creation with an empty buffer until all buffered bytes were
-- written to the client's connection. Serving the request then ends with success, a failed write or
-- a response that was cut off.

pub write_first : (base given : Option (List ℕ)) (out : Outgoing) → out.given ≡ given → out.buffered ≡ [] → Keeps base given → HasPut base out []
write_first base given out is none keeps = record {
  sent = [];
  left = [];
  in_order = refl;
  came = subst (λ b. Appends base b []) (sym is) (keeps_append base given keeps);
  whole = λ _. sym none;
}

is_end : (sent : Result (Unit {0}) LinkFailed) (cut : Option Refusal) → IsEnd (ended sent cut)
is_end (Err e) cut = tt
is_end (Ok x) None = tt
is_end (Ok x) (Some why) = tt

pub ends_well : (sent : Result (Unit {0}) LinkFailed) (cut : Option Refusal) (result : Result (Unit {0}) HandleFault) → result ≡ ended sent cut → IsEnd result
ends_well sent cut result is = subst IsEnd (sym is) (is_end sent cut)

-- Two consecutive calls of a response writer count at most one failed write in all, because the
-- writer makes no write after a failed write.
risen_twice : (a b c : Bool) (count : ℕ) → (a ≡ true → b ≡ true) → (b ≡ true → c ≡ true) → risen (c && not b) (risen (b && not a) count) ≡ risen (c && not a) count
risen_twice true true true count ab bc = refl
risen_twice true true false count ab bc = refl
risen_twice true false c count ab bc = let e = ab refl in cc e
risen_twice false true true count ab bc = refl
risen_twice false true false count ab bc = let e = bc refl in cc e
risen_twice false false c count ab bc = refl

and_true : (b : Bool) → (b && true) ≡ b
and_true true = refl
and_true false = refl

fault_sent : (sent : Result (Unit {0}) LinkFailed) (cut : Option Refusal) → is_err sent ≡ is_link_fault (ended sent cut)
fault_sent (Err e) cut = refl
fault_sent (Ok x) None = refl
fault_sent (Ok x) (Some why) = refl

-- True if a response was sent through a buffered writer, and the buffered bytes were then written
-- to the client's connection.
pub record IsFinished (first put last : Outgoing) (sent : Result (Unit {0}) LinkFailed) : Type 0 where
  pub works : first.failed ≡ false
  pub puts : OnlyGives first put
  pub finish : OnlyGives put last
  pub failed : is_err sent ≡ last.failed

pub finished_failures : (first put last : Outgoing) (sent : Result (Unit {0}) LinkFailed) (cut : Option Refusal) (result : Result (Unit {0}) HandleFault) (before after : ℕ)
    → IsFinished first put last sent → first.failures ≡ before → result ≡ ended sent cut → after ≡ last.failures → after ≡ risen (is_link_fault result) before
finished_failures first put last sent cut result before after done from is to =
    let twice = risen_twice first.failed put.failed last.failed first.failures done.puts.stays done.finish.stays in
    let all : last.failures ≡ risen (last.failed && not first.failed) first.failures = done.finish.failures ∙ ap (risen (last.failed && not put.failed)) done.puts.failures ∙ twice in
    let one : (last.failed && not first.failed) ≡ is_link_fault result =
    ap (λ b. last.failed && not b) done.works ∙ and_true last.failed ∙ sym done.failed ∙ fault_sent sent cut ∙ ap is_link_fault (sym is) in
    to ∙ all ∙ ap (λ b. risen b first.failures) one ∙ ap (risen (is_link_fault result)) from

pub finished_remaining : (first put last : Outgoing) (sent : Result (Unit {0}) LinkFailed) (before after : Option (List ℕ))
    → IsFinished first put last sent → first.remaining ≡ before → after ≡ last.remaining → Keeps before after
finished_remaining first put last sent before after done from to =
    let all = Keeps-trans first.remaining put.remaining last.remaining done.puts.remaining done.finish.remaining in
    subst (λ a. Keeps before a) (sym to) (subst (λ b. Keeps b last.remaining) from all)

pub finished_last : (first put last : Outgoing) (sent : Result (Unit {0}) LinkFailed) (before after : Option LastTake)
    → IsFinished first put last sent → first.last ≡ before → after ≡ last.last → after ≡ before
finished_last first put last sent before after done from to = to ∙ done.finish.last ∙ done.puts.last ∙ from

pub finished_takes : (first put last : Outgoing) (sent : Result (Unit {0}) LinkFailed) (before after : ℕ)
    → IsFinished first put last sent → first.takes ≡ before → after ≡ last.takes → after ≡ before
finished_takes first put last sent before after done from to = to ∙ done.finish.takes ∙ done.puts.takes ∙ from

-- Lemmas: the program reads at most 100,000 times from the client's connection for one request.

-- A new input buffer reads at most 100,000 times from the client's connection. The connection's
-- count of reads rises by at most that number.
pub few_takes : {X : Type 0} (result : Result X TakeFault) (old new : Inbox) (taken later : ℕ) → old.takes ≡ 0 → CountsTakes result old new taken later
    → (count : ℕ) → taken ≡ min count (2 ^ 64 - 1) → later ≤ min (count + MOST_TAKES) (2 ^ 64 - 1)
few_takes result old new taken later none takes count is =
    let same : count ≡ count + old.takes = omega (arith, none) in
    let begun : taken ≡ min (count + old.takes) (2 ^ 64 - 1) = is ∙ ap (λ n. min n (2 ^ 64 - 1)) same in
    let ended : later ≡ min (count + new.takes) (2 ^ 64 - 1) = takes.counts count begun in
    let few = new.few in
    omega (arith, ended, few)

-- Lemmas: if memory for the request runs out, then a call of `handle` still satisfies `Handles`,
-- the contract of serving one request.

bare_on : {B : Type 0} (office : Office B) (link : Passage) (read : List ℕ) → ReadsOnBare link read → ReadsOn office office link read
bare_on office link read h = record { goes_on = h.goes_on; nothing = h.nothing; unchanged = refl }

bare_reply : {B : Type 0} (ledger : B → Ledger) (at : ℕ) (office : Office B) (link : Passage) (read : List ℕ) (result : Result (Unit {0}) HandleFault)
    → RepliesBare link read result → Replies ledger at office office link read result
bare_reply ledger at office link read result h = record {
  head = h.head;
  stops = h.stops;
  replies = λ past stands clean. record {
    cut = None;
    sent = h.sent;
    ends = h.ends;
    put = reply_bytes (refused refusal.Memory);
    serves = no_memory ledger past at read office office refl stands;
    gives = h.gives;
  };
}

pub bare : {B : Type 0} (ledger : B → Ledger) (at : ℕ) (office : Office B) (link : Passage) (result : Result (Unit {0}) HandleFault)
    → HandlesBare link result → Handles ledger at office office link result
bare ledger at office link (Ok x) h = record { read = h.read; takes = h.takes; does = bare_reply ledger at office link h.read (Ok x) h.does }
bare ledger at office link (Err Write) h = record { read = h.read; takes = h.takes; does = bare_reply ledger at office link h.read (Err Write) h.does }
bare ledger at office link (Err Cut) h = absurd h.does
bare ledger at office link (Err Read) h = record { read = h.read; takes = h.takes; does = bare_on office link h.read h.does }
bare ledger at office link (Err Short) h = record { read = h.read; takes = h.takes; does = (bare_on office link h.read h.does.0, h.does.1) }
bare ledger at office link (Err TurnsUsed) h = record { read = h.read; takes = h.takes; does = bare_on office link h.read h.does }

bare_does : (link : Passage) (read : List ℕ) (sent : Result (Unit {0}) LinkFailed) → RepliesBare link read (ended sent None) → DoesBare link read (ended sent None)
bare_does link read (Ok x) h = h
bare_does link read (Err e) h = h

-- If memory for a request ran out and the program read a request head, then the program wrote the
-- response that memory ran out.
pub bare_replied : (inbox full : Inbox) (head_state : HeadState) (sent : Result (Unit {0}) LinkFailed) (result : Result (Unit {0}) HandleFault)
    (remaining mid later given given_mid later_given : Option (List ℕ)) (was between last : Option LastTake)
    → bytes_in inbox ≡ [] → ReadsHead (Ok head_state) (bytes_in inbox) (bytes_in full) remaining mid → StopsAtOnce IsOpenHead inbox full was between → Keeps given given_mid
    → Keeps mid later → last ≡ between → result ≡ ended sent None → Gives sent given_mid later_given (reply_bytes (refused refusal.Memory))
    → HandlesBare (passage remaining later given later_given last) result
bare_replied inbox full head_state sent result remaining mid later given given_mid later_given was between last empty reads stops keeps rest same is gives =
    let came = reads.0 in
    let all = came_is (bytes_in inbox) (bytes_in full) remaining mid empty came in
    let link = passage remaining later given later_given last in
    subst (HandlesBare link) (sym is) (record {
      read = came.chunk;
      takes = Consumes-kept remaining mid later came.chunk came.consumed rest;
      does = bare_does link came.chunk sent (record {
        sent = sent;
        ends = refl;
        head = record { head_state = head_state; finds = subst (λ bytes. Looks bytes head_state) all reads.1; come = reads.2 };
        stops = subst (StopsReading came.chunk) (sym same) (stopped IsOpenHead (λ bytes h. inl h) inbox full was between came.chunk empty all stops);
        gives = gives_since sent given given_mid later_given (reply_bytes (refused refusal.Memory)) keeps gives;
      });
    })
