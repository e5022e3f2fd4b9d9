-- Lemmas: the program's state after HTTP connections were served follows from the events accepted
-- before and the commands of the connections.
use Rattle.std.proofs.Common.{◌≡◌, ◌⊎◌, inl, inr, ℕ, Bool, ◌≤◌, ◌+◌, List, [], ◌∷◌, ◌++◌, length, Option, None, Some, Result, Ok, Err, refl, sym, ap, ◌∙◌, subst, arith, length-append}
use Rattle.interval_core.specs.declared.zone.Zone.{Zone}
use Rattle.office_events.specs.declared.refusals.Refusal.{Refusal}
use Rattle.office_books.specs.History.{History}
use Rattle.office_books.specs.declared.failures.Failures.{Failures}
use Rattle.office_books.specs.Ledgers.{Ledger}
use Rattle.office_core.specs.Standing.{After, Stands, books_in}
use Rattle.office_core.specs.declared.office.Office.{Office}
use Rattle.std.specs.Io.KnownBytes.{Consumes}
use Rattle.mb_wire.specs.Sockets.Clocks.{ReportsMoment}
use Rattle.office_events.specs.declared.events.Asked.{Asked}
use Rattle.office_http.specs.Exchange.{Does, Handles, Passage, Replies}
use Rattle.office_http.specs.Serving.{Asks, IsAnswered, IsServed, Lasts}
use Rattle.office_http.specs.declared.fault.HandleFault.{HandleFault}
use Rattle.office_http.specs.declared.fault.HandleFault.TheVariants.{Read, Write, Short, TurnsUsed, Cut}
use Rattle.office_http.specs.Connections.Connections.{AskedBy, ServesOne, ServesUpTo, history_with}
use Rattle.office_http.specs.Connections.Named.{HandlesNamed, HasNoRoom, LetsAsk, MayAsk, TurnsAway}

-- If the program executed no command on a connection, then the program's state is still the state
-- after the events that it accepted before this connection.
pub unasked : {B : Type 0} (names : List (List ℕ)) (at : ℕ) (ledger : B → Ledger) (past : History) (office : Office B) → Stands ledger past office
    → ServesOne names at ledger past office
unasked names at ledger past office stands = record {
  connection = record { at = at; read = []; asked = None; asks = tt };
  moment = refl;
  stands = stands;
}

asked_by : (names : List (List ℕ)) (read : List ℕ) (asked : Option Asked) → MayAsk names read → Asks read asked → AskedBy names read asked
asked_by names read None may asks = tt
asked_by names read (Some asked) may asks = (may, asks)

asked_one : {B : Type 0} (names : List (List ℕ)) (ledger : B → Ledger) (zone : Zone) (past : History) (at : ℕ) (read reply : List ℕ) (later : History)
    (office : Office B) → MayAsk names read → IsAnswered zone past at read reply later → Stands ledger later office → ServesOne names at ledger past office
asked_one names ledger zone past at read reply later office may answered stands = record {
  connection = record { at = at; read = read; asked = answered.asked; asks = asked_by names read answered.asked may answered.asks };
  moment = refl;
  stands = let P : History → Type 0 = λ h. Stands ledger h office in subst P answered.accepts stands;
}

served_one : {B : Type 0} (names : List (List ℕ)) (ledger : B → Ledger) (zone : Zone) (past : History) (at : ℕ) (read : List ℕ) (had_stopped : Bool) (before after : Failures)
    (cut : Option Refusal) (reply : List ℕ) (later : History) (office : Office B) → MayAsk names read
    → IsServed zone past at read had_stopped before after cut reply later → Stands ledger later office → ServesOne names at ledger past office
served_one names ledger zone past at read had_stopped before after None reply later office may (inl answered) stands =
    asked_one names ledger zone past at read reply later office may answered.0 stands
served_one names ledger zone past at read had_stopped before after None reply later office may (inr none) stands =
    let P : History → Type 0 = λ h. Stands ledger h office in
    unasked names at ledger past office (subst P none.unchanged stands)
served_one names ledger zone past at read had_stopped before after (Some why) reply later office may answered stands =
    asked_one names ledger zone past at read reply later office may answered.0 stands

replied : {B : Type 0} (names : List (List ℕ)) (ledger : B → Ledger) (past : History) (at : ℕ) (old new : Office B) (link : Passage) (read : List ℕ)
    (result : Result (Unit {0}) HandleFault) → MayAsk names read → Replies ledger at old new link read result → Stands ledger past old
    → (ledger (books_in new)).is_clean → ServesOne names at ledger past new
replied names ledger past at old new link read result may replies stands clean =
    let gives = replies.replies past stands clean in
    served_one names ledger _ past at read _ _ _ gives.cut gives.serves.reply gives.serves.later new may gives.serves.served gives.serves.stands

same : {B : Type 0} (names : List (List ℕ)) (at : ℕ) (ledger : B → Ledger) (past : History) (old new : Office B) → new ≡ old → Stands ledger past old
    → ServesOne names at ledger past new
same {B = B} names at ledger past old new is stands =
    let P : Office B → Type 0 = λ o. Stands ledger past o in
    unasked names at ledger past new (subst P (sym is) stands)

does : {B : Type 0} (names : List (List ℕ)) (ledger : B → Ledger) (past : History) (at : ℕ) (old new : Office B) (link : Passage) (read : List ℕ)
    (result : Result (Unit {0}) HandleFault) → MayAsk names read → Does ledger at old new link read result → Stands ledger past old
    → (ledger (books_in new)).is_clean → ServesOne names at ledger past new
does names ledger past at old new link read (Ok x) may h stands clean = replied names ledger past at old new link read (Ok x) may h stands clean
does names ledger past at old new link read (Err Write) may h stands clean = replied names ledger past at old new link read (Err Write) may h stands clean
does names ledger past at old new link read (Err Cut) may h stands clean = replied names ledger past at old new link read (Err Cut) may h stands clean
does names ledger past at old new link read (Err Read) may h stands clean = same names at ledger past old new h.unchanged stands
does names ledger past at old new link read (Err Short) may h stands clean = same names at ledger past old new h.0.unchanged stands
does names ledger past at old new link read (Err TurnsUsed) may h stands clean = same names at ledger past old new h.unchanged stands

-- If a call tests the Host header and then acts as `handle` (which serves one request), the
-- program's state follows from the events accepted before and this connection.
pub handled : {B : Type 0} (names : List (List ℕ)) (ledger : B → Ledger) (at : ℕ) (old new : Office B) (link : Passage) (result : Result (Unit {0}) HandleFault)
    → ((read : List ℕ) → Consumes link.remaining link.later_remaining read → MayAsk names read)
    → Handles ledger at old new link result → After ledger old new (λ past. ServesOne names at ledger past new)
handled names ledger at old new link result may h past stands clean =
    does names ledger past at old new link h.read result (may h.read h.takes) h.does stands clean

named_does : {B : Type 0} (names : List (List ℕ)) (ledger : B → Ledger) (past : History) (at : ℕ) (old new : Office B) (link : Passage) (read : List ℕ)
    (result : Result (Unit {0}) HandleFault)
    → TurnsAway names old new link read result ⊎ LetsAsk names ledger at old new link read result ⊎ HasNoRoom old new link read result
    → Stands ledger past old → (ledger (books_in new)).is_clean → ServesOne names at ledger past new
named_does names ledger past at old new link read result (inl away) stands clean = same names at ledger past old new away.unchanged stands
named_does names ledger past at old new link read result (inr (inl lets)) stands clean =
    does names ledger past at old new link read result lets.may lets.does stands clean
named_does names ledger past at old new link read result (inr (inr none)) stands clean = same names at ledger past old new none.unchanged stands

pub named_handled : {B : Type 0} (names : List (List ℕ)) (ledger : B → Ledger) (at : ℕ) (old new : Office B) (link : Passage) (result : Result (Unit {0}) HandleFault)
    → HandlesNamed names ledger at old new link result → After ledger old new (λ past. ServesOne names at ledger past new)
named_handled names ledger at old new link result h past stands clean = named_does names ledger past at old new link h.read result h.does stands clean

-- If the program's state follows from at most `n` served connections, then after one more
-- connection the state follows from at most `n` + 1. The time of the new connection is the clock's
-- time.
pub one_more : {B : Type 0} (names : List (List ℕ)) (n : ℕ) (begun mid now : Option (List ℕ)) (at : ℕ) (ledger : B → Ledger) (past : History) (old new : Office B)
    → ServesUpTo names n begun mid ledger past old → ReportsMoment mid now at
    → After ledger old new (λ h. ServesOne names at ledger h new) → (ledger (books_in new)).is_clean → ServesUpTo names (n + 1) begun now ledger past new
one_more names n begun mid now at ledger past old new first reported next clean =
    let then = next (history_with past first.connections) first.stands clean in
    record {
      connections = then.connection ∷ first.connections;
      few = omega (arith, first.few);
      timed = (mid, first.timed, subst (ReportsMoment mid now) (sym then.moment) reported);
      stands = then.stands;
    }

more : {B : Type 0} (names : List (List ℕ)) (m n : ℕ) (begun now : Option (List ℕ)) (ledger : B → Ledger) (past : History) (office : Office B) → m ≤ n
    → ServesUpTo names m begun now ledger past office → ServesUpTo names n begun now ledger past office
more names m n begun now ledger past office fits so =
    record { connections = so.connections; few = omega (arith, so.few); timed = so.timed; stands = so.stands }

-- Before the first connection, the program's state follows from an empty list of connections.
pub served_none : {B : Type 0} (names : List (List ℕ)) (n : ℕ) (begun : Option (List ℕ)) (ledger : B → Ledger) (office : Office B)
    → After ledger office office (λ past. ServesUpTo names n begun begun ledger past office)
served_none names n begun ledger office past stands clean = record { connections = []; few = omega arith; timed = refl; stands = stands }

pub served_more : {B : Type 0} (names : List (List ℕ)) (n : ℕ) (begun mid now : Option (List ℕ)) (at : ℕ) (ledger : B → Ledger) (begin old new : Office B)
    → After ledger begin old (λ past. ServesUpTo names n begun mid ledger past old) → ReportsMoment mid now at → Lasts ledger old new
    → After ledger old new (λ past. ServesOne names at ledger past new) → After ledger begin new (λ past. ServesUpTo names (n + 1) begun now ledger past new)
served_more names n begun mid now at ledger begin old new before reported lasts next past stands clean =
    one_more names n begun mid now at ledger past old new (before past stands (lasts.clean clean)) reported next clean

pub served_no_more : {B : Type 0} (names : List (List ℕ)) (n : ℕ) (begun now : Option (List ℕ)) (ledger : B → Ledger) (begin office : Office B)
    → After ledger begin office (λ past. ServesUpTo names n begun now ledger past office)
    → After ledger begin office (λ past. ServesUpTo names (n + 1) begun now ledger past office)
served_no_more names n begun now ledger begin office before past stands clean =
    more names n (n + 1) begun now ledger past office (omega arith) (before past stands clean)

pub lasts_both : {B : Type 0} (ledger : B → Ledger) (a b c : Office B) → Lasts ledger a b → Lasts ledger b c → Lasts ledger a c
lasts_both ledger a b c first next = record {
  stopped = next.stopped ∙ first.stopped;
  clean = λ clean. first.clean (next.clean clean);
  zone = next.zone ∙ first.zone;
}
