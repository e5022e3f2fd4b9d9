-- Lemmas that the function `handle_named`, which tests the Host header of a request before it
-- serves the request, satisfies its contract for accepted and for rejected hosts.
use Rattle.std.proofs.Common.{◌≡◌, ◌∙◌, ◌⊎◌, inl, inr, ℕ, false, true, List, [], ◌++◌, Option, None, Result, Ok, Err, refl, sym, ap, subst, append_assoc}
use Rattle.std.specs.Io.KnownBytes.{Consumes, Keeps}
use Rattle.std.proofs.KnownBytes.{Consumes-kept, Keeps-refl}
use Rattle.std.proofs.lemmas.List.{append-nil}
use Rattle.mb_wire.specs.declared.link.LastTake.{LastTake}
use Rattle.office_http.specs.Messages.Head.Heads.{IsOpenHead, Looks}
use Rattle.office_http.specs.Messages.Hosts.{may_ask_in}
use Rattle.office_http.specs.declared.messages.head.head.HeadState.{HeadState}
use Rattle.office_http.specs.declared.messages.head.head.HeadState.TheVariants.{Open}
use Rattle.office_http.specs.Messages.Reading.HeadAndBody.{EndsAt, ReadsHead, StopsAtOnce}
use Rattle.office_http.specs.Messages.Reading.Taking.{Came, CountsTakes, brought, bytes_in}
use Rattle.office_http.specs.declared.messages.reading.inbox.Inbox.{Inbox}
use Rattle.office_http.specs.declared.messages.reading.inbox.TakeFault.{TakeFault}
use Rattle.office_http.specs.declared.messages.reading.inbox.TakeFault.TheVariants as take
use Rattle.office_http.specs.Messages.Routing.Routes.{routes}
use Rattle.office_http.specs.Messages.Whole.Whole.{IsUnfinished, ReadsRequest}
use Rattle.office_http.proofs.MessagesLemmas.ReadingLemmas.Coming.{Came-then}
use Rattle.office_books.specs.Ledgers.{Ledger}
use Rattle.office_core.specs.Standing.{After}
use Rattle.office_core.specs.declared.office.Office.{Office}
use Rattle.office_http.specs.Exchange.{Does, GivesReply, HandlesBare, HasHead, IsEnd, StopsReading, as_fault, passage}
use Rattle.office_http.specs.Connections.Named.{HandlesNamed, MayAsk, RepliesMisdirected}
use Rattle.office_http.specs.declared.fault.HandleFault.{HandleFault}
use Rattle.office_http.proofs.Handled.{came_is, does_reply, gives_since, stopped}

-- Lemmas on a request that is read in two parts, first its head and then its body. If no part was
-- read further once it was complete, and all reads were counted, then both are true for the
-- complete request.

pub counts_both : {X Y : Type 0} (first : Result X TakeFault) (next : Result Y TakeFault) (a b c : Inbox) (r s t : ℕ)
    → CountsTakes first a b r s → CountsTakes next b c s t → CountsTakes next a c r t
counts_both first next a b c r s t one other = record {
  room = other.room ∙ one.room;
  counts = λ base h. other.counts base (one.counts base h);
  used = other.used;
}

pub stops_both : (a b c : Inbox) (chunk : List ℕ) (was then now : Option LastTake) → bytes_in b ≡ bytes_in a ++ chunk → StopsAtOnce IsOpenHead a b was then
    → StopsAtOnce (IsUnfinished routes) b c then now → StopsAtOnce (IsUnfinished routes) a c was now
stops_both a b c chunk was then now came (inl none) (inl also) = inl record {
  takes = also.takes ∙ none.takes;
  bytes = also.bytes ∙ none.bytes;
  last = also.last ∙ none.last;
}
stops_both a b c chunk was then now came (inr some) (inl also) = inr record {
  earlier = some.earlier;
  chunk = some.chunk;
  goes_on = inl some.goes_on;
  bytes = also.bytes ∙ some.bytes;
  size = some.size ∙ ap brought (sym also.last);
}
stops_both a b c chunk was then now came first (inr last) =
    let order : bytes_in b ++ last.earlier ≡ bytes_in a ++ (chunk ++ last.earlier) = ap (λ t. t ++ last.earlier) came ∙ append_assoc (bytes_in a) chunk last.earlier in
    inr record {
      earlier = chunk ++ last.earlier;
      chunk = last.chunk;
      goes_on = subst (IsUnfinished routes) order last.goes_on;
      bytes = last.bytes ∙ ap (λ t. t ++ last.chunk) order;
      size = last.size;
    }

-- If the input buffer was empty before a call of `handle_named` (which serves one request), then
-- all bytes in the buffer after the call were read from the client.
took : (old new : List ℕ) (r s t : Option (List ℕ)) → old ≡ [] → Came old new r s → Keeps s t → Consumes r t new
took old new r s t empty came keeps =
    subst (Consumes r t) (sym (came_is old new r s empty came)) (Consumes-kept r s t came.chunk came.consumed keeps)

-- Lemmas on bytes that pass the test of the Host header: bytes with an incomplete head, or with a
-- head that the test accepts.

none_yet : (names : List (List ℕ)) (read : List ℕ) → IsOpenHead read → MayAsk names read
none_yet names read goes_on = record {
  tested = read;
  same = inl (record { rest = []; is = sym (append-nil read) });
  head_state = Open;
  finds = goes_on;
  may = refl;
}

tested_first : (names : List (List ℕ)) (tested read : List ℕ) (r s : Option (List ℕ)) (head_state : HeadState) → Looks tested head_state
    → may_ask_in names tested head_state ≡ true → Came tested read r s → MayAsk names read
tested_first names tested read r s head_state finds may came = record {
  tested = tested;
  same = inl (record { rest = came.chunk; is = came.bytes });
  head_state = head_state;
  finds = finds;
  may = may;
}

-- Lemmas: if a call of `handle_named` (which tests the Host header and serves one request) fails to
-- read its request, the call writes nothing and leaves the program's state unchanged.

does_nothing : {B : Type 0} (ledger : B → Ledger) (at : ℕ) (office : Office B) (fault : TakeFault) (read : List ℕ) (remaining later given later_given : Option (List ℕ))
    (last : Option LastTake) → IsUnfinished routes read → Keeps given later_given → EndsAt fault later
    → Does ledger at office office (passage remaining later given later_given last) read (Err (as_fault fault))
does_nothing ledger at office take.Read read remaining later given later_given last on keeps ends = record { goes_on = on; nothing = keeps; unchanged = refl }
does_nothing ledger at office take.Short read remaining later given later_given last on keeps ends =
    (record { goes_on = on; nothing = keeps; unchanged = refl }, ends)
does_nothing ledger at office take.TurnsUsed read remaining later given later_given last on keeps ends = record { goes_on = on; nothing = keeps; unchanged = refl }

pub no_head : {B : Type 0} (names : List (List ℕ)) (ledger : B → Ledger) (at : ℕ) (office : Office B) (fault : TakeFault) (old new : List ℕ)
    (remaining later given later_given : Option (List ℕ)) (last : Option LastTake) → old ≡ [] → ReadsHead (Err fault) old new remaining later → Keeps given later_given
    → HandlesNamed names ledger at office office (passage remaining later given later_given last) (Err (as_fault fault))
no_head names ledger at office fault old new remaining later given later_given last empty reads keeps = record {
  read = new;
  takes = took old new remaining later later empty reads.0 (Keeps-refl later);
  does = inr (inl (record {
    may = none_yet names new reads.1;
    does = does_nothing ledger at office fault new remaining later given later_given last (inl reads.1) keeps reads.2;
  }));
}

pub no_body : {B : Type 0} (names : List (List ℕ)) (ledger : B → Ledger) (at : ℕ) (office : Office B) (fault : TakeFault) (head_state : HeadState) (old mid new : List ℕ)
    (remaining between later given later_given : Option (List ℕ)) (last : Option LastTake) → old ≡ [] → ReadsHead (Ok head_state) old mid remaining between
    → may_ask_in names mid head_state ≡ true → ReadsRequest routes (Err fault) mid new between later → Keeps given later_given
    → HandlesNamed names ledger at office office (passage remaining later given later_given last) (Err (as_fault fault))
no_body names ledger at office fault head_state old mid new remaining between later given later_given last empty first may reads keeps = record {
  read = new;
  takes = took old new remaining later later empty (Came-then old mid new remaining between later first.0 reads.0) (Keeps-refl later);
  does = inr (inl (record {
    may = tested_first names mid new between later head_state first.1 may reads.0;
    does = does_nothing ledger at office fault new remaining later given later_given last reads.1 keeps reads.2;
  }));
}

-- Lemmas: a call of `handle_named` that writes a response satisfies `HandlesNamed`, the contract of
-- testing the Host header and serving one request. This holds whether the Host header was rejected
-- or accepted.

pub turned_away : {B : Type 0} (names : List (List ℕ)) (ledger : B → Ledger) (at : ℕ) (office : Office B) (inbox full : Inbox) (head_state : HeadState)
    (result : Result (Unit {0}) HandleFault) (remaining mid later given given_mid later_given : Option (List ℕ)) (was between last : Option LastTake)
    → bytes_in inbox ≡ [] → ReadsHead (Ok head_state) (bytes_in inbox) (bytes_in full) remaining mid → StopsAtOnce IsOpenHead inbox full was between
    → Keeps given given_mid → Keeps mid later → last ≡ between → may_ask_in names (bytes_in full) head_state ≡ false
    → RepliesMisdirected (passage mid later given_mid later_given last) result
    → HandlesNamed names ledger at office office (passage remaining later given later_given last) result
turned_away names ledger at office inbox full head_state result remaining mid later given given_mid later_given was between last empty reads stops keeps rest same foreign replies = record {
  read = bytes_in full;
  takes = took (bytes_in inbox) (bytes_in full) remaining mid later empty reads.0 rest;
  does = inl (record {
    head_state = head_state;
    finds = reads.1;
    foreign = foreign;
    stops = subst (StopsReading (bytes_in full)) (sym same) (stopped IsOpenHead (λ bytes h. inl h) inbox full was between (bytes_in full) empty refl stops);
    replies = record { sent = replies.sent; ends = replies.ends; gives = gives_since replies.sent given given_mid later_given _ keeps replies.gives };
    unchanged = refl;
  });
}

pub let_ask : {B : Type 0} (names : List (List ℕ)) (ledger : B → Ledger) (at : ℕ) (old new : Office B) (inbox half full : Inbox) (seen : List ℕ) (head_state : HeadState)
    (result : Result (Unit {0}) HandleFault) (remaining between mid later given given_mid later_given : Option (List ℕ)) (was then now last : Option LastTake)
    → bytes_in inbox ≡ [] → ReadsHead (Ok head_state) (bytes_in inbox) (bytes_in half) remaining between → StopsAtOnce IsOpenHead inbox half was then
    → may_ask_in names (bytes_in half) head_state ≡ true
    → Came (bytes_in half) (bytes_in full) between mid → StopsAtOnce (IsUnfinished routes) half full then now → seen ≡ bytes_in full
    → Keeps given given_mid → Keeps mid later → last ≡ now → IsEnd result → HasHead (bytes_in full)
    → After ledger old new (λ past. GivesReply ledger past at old new given_mid later_given seen result)
    → HandlesNamed names ledger at old new (passage remaining later given later_given last) result
let_ask names ledger at old new inbox half full seen head_state result remaining between mid later given given_mid later_given was then now last empty first at_head may came at_body shown keeps rest same end head gives = record {
  read = bytes_in full;
  takes = took (bytes_in inbox) (bytes_in full) remaining mid later empty (Came-then (bytes_in inbox) (bytes_in half) (bytes_in full) remaining between mid first.0 came) rest;
  does = inr (inl (record {
    may = tested_first names (bytes_in half) (bytes_in full) between mid head_state first.1 may came;
    does = does_reply ledger at old new (passage remaining later given later_given last) (bytes_in full) result end (record {
      head = head;
      stops = subst (StopsReading (bytes_in full)) (sym same) (stopped (IsUnfinished routes) (λ bytes h. h) inbox full was now (bytes_in full) empty refl
          (stops_both inbox half full first.0.chunk was then now first.0.bytes at_head at_body));
      replies = λ past stands clean.
          let one = subst (λ r. GivesReply ledger past at old new given_mid later_given r result) shown (gives past stands clean) in
          record {
            cut = one.cut;
            sent = one.sent;
            ends = one.ends;
            put = one.put;
            serves = one.serves;
            gives = gives_since one.sent given given_mid later_given one.put keeps one.gives;
          };
    });
  }));
}

pub no_room : {B : Type 0} (names : List (List ℕ)) (ledger : B → Ledger) (at : ℕ) (office : Office B) (remaining later given later_given : Option (List ℕ))
    (last : Option LastTake) (result : Result (Unit {0}) HandleFault) → HandlesBare (passage remaining later given later_given last) result
    → HandlesNamed names ledger at office office (passage remaining later given later_given last) result
no_room names ledger at office remaining later given later_given last result h = record {
  read = h.read;
  takes = h.takes;
  does = inr (inr (record { does = h.does; unchanged = refl }));
}
