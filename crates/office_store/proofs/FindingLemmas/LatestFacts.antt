-- Proofs that the latest timestamp of all records is the maximum of the latest timestamps of each
-- kind of record.
use Rattle.std.proofs.Common.{◌≡◌, ℕ, ◌≤◌, max, List, [], ◌∷◌, Option, Some, None, refl, sym, ap, ◌∙◌, arith}
use Rattle.std.specs.List.{AllByRecursion, filter_map, cons_option}
use Rattle.energy_core.specs.Account.{moment_of}
use Rattle.office_events.specs.declared.facts.Opening.{Opening}
use Rattle.office_events.specs.declared.facts.BookedEntry.{BookedEntry}
use Rattle.office_events.specs.declared.facts.HeldReading.{HeldReading}
use Rattle.office_events.specs.declared.facts.VoidedEntry.{VoidedEntry}
use Rattle.office_events.specs.declared.facts.Poll.{Poll}
use Rattle.office_events.specs.declared.facts.EndedPoll.{EndedPoll}
use Rattle.office_events.specs.declared.facts.Reply.{Reply}
use Rattle.office_events.specs.declared.facts.Fact.{Fact}
use Rattle.office_events.specs.declared.facts.Fact.TheVariants as fact
use Rattle.office_books.specs.Facts.{as_opening, as_entry, as_hold, as_void, as_poll, as_ended, as_reply, openings_in, entries_in, holds_in, voids_in, polls_in, ended_in, replies_in, moment_in, latest_in}
use Rattle.office_store.specs.Finding.Latest.{greatest, latest_entered, latest_voided, latest_held, latest_started, latest_ended, latest_replied}
use Rattle.office_store.proofs.FindingLemmas.Greatest.{none_past}

-- Lemmas: for each kind of record, the latest timestamp of the records of this kind is at most the
-- latest timestamp of all records.

module _ {X : Type 0} (pick : Fact → Option X) (moment : X → ℕ) (own : (f : Fact) (x : X) → pick f ≡ Some x → moment x ≡ moment_in f) where
  step : (f : Fact) (facts : List Fact) (o : Option X) → pick f ≡ o → greatest moment (filter_map pick facts) ≤ latest_in facts → greatest moment (cons_option o (filter_map pick facts)) ≤ max (moment_in f) (latest_in facts)
  step f facts None is rest = omega (arith, rest)
  step f facts (Some x) is rest = let e = own f x is in omega (arith, rest, e)

  kind_within : (facts : List Fact) → greatest moment (filter_map pick facts) ≤ latest_in facts
  kind_within [] = omega arith
  kind_within (f ∷ facts) = step f facts (pick f) refl (kind_within facts)

opening_at : (f : Fact) (x : Opening) → as_opening f ≡ Some x → x.at ≡ moment_in f
opening_at (fact.Opening y) x is = let same_one : x ≡ y = cc in ap (λ (o : Opening). o.at) same_one
opening_at f x is = absurd (let none = is in cc)

entry_at : (f : Fact) (x : BookedEntry) → as_entry f ≡ Some x → moment_of x.entry ≡ moment_in f
entry_at (fact.Entry y) x is = let same_one : x ≡ y = cc in ap (λ (b : BookedEntry). moment_of b.entry) same_one
entry_at f x is = absurd (let none = is in cc)

hold_at : (f : Fact) (x : HeldReading) → as_hold f ≡ Some x → x.at ≡ moment_in f
hold_at (fact.Hold y) x is = let same_one : x ≡ y = cc in ap (λ (h : HeldReading). h.at) same_one
hold_at f x is = absurd (let none = is in cc)

void_at : (f : Fact) (x : VoidedEntry) → as_void f ≡ Some x → x.at ≡ moment_in f
void_at (fact.Void y) x is = let same_one : x ≡ y = cc in ap (λ (v : VoidedEntry). v.at) same_one
void_at f x is = absurd (let none = is in cc)

poll_at : (f : Fact) (x : Poll) → as_poll f ≡ Some x → x.at ≡ moment_in f
poll_at (fact.Poll y) x is = let same_one : x ≡ y = cc in ap (λ (p : Poll). p.at) same_one
poll_at f x is = absurd (let none = is in cc)

end_at : (f : Fact) (x : EndedPoll) → as_ended f ≡ Some x → x.at ≡ moment_in f
end_at (fact.Outcome y) x is = let same_one : x ≡ y = cc in ap (λ (e : EndedPoll). e.at) same_one
end_at f x is = absurd (let none = is in cc)

reply_at : (f : Fact) (x : Reply) → as_reply f ≡ Some x → x.at ≡ moment_in f
reply_at (fact.Reply y) x is = let same_one : x ≡ y = cc in ap (λ (r : Reply). r.at) same_one
reply_at f x is = absurd (let none = is in cc)

-- Lemmas that the latest timestamp of all records is at most the greatest of the latest timestamps
-- of each kind of record.

max_least : (a b c : ℕ) → a ≤ c → b ≤ c → max a b ≤ c
max_least a b c h k = omega arith

-- True if no record of any kind has a timestamp later than `n`.
record AreEarly (n : ℕ) (facts : List Fact) : Type 0 where
  openings : AllByRecursion (λ (o : Opening). o.at ≤ n) (openings_in facts)
  entries : AllByRecursion (λ (b : BookedEntry). moment_of b.entry ≤ n) (entries_in facts)
  holds : AllByRecursion (λ (h : HeldReading). h.at ≤ n) (holds_in facts)
  voids : AllByRecursion (λ (v : VoidedEntry). v.at ≤ n) (voids_in facts)
  polls : AllByRecursion (λ (p : Poll). p.at ≤ n) (polls_in facts)
  ended : AllByRecursion (λ (e : EndedPoll). e.at ≤ n) (ended_in facts)
  replies : AllByRecursion (λ (r : Reply). r.at ≤ n) (replies_in facts)

latest_least : (n : ℕ) (facts : List Fact) → AreEarly n facts → latest_in facts ≤ n
latest_least n [] h = omega arith
latest_least n (fact.Device d ∷ facts) h =
    max_least 0 (latest_in facts) n (omega arith)
    (latest_least n facts (record { openings = h.openings; entries = h.entries; holds = h.holds; voids = h.voids; polls = h.polls; ended = h.ended; replies = h.replies }))
latest_least n (fact.List l ∷ facts) h =
    max_least 0 (latest_in facts) n (omega arith)
    (latest_least n facts (record { openings = h.openings; entries = h.entries; holds = h.holds; voids = h.voids; polls = h.polls; ended = h.ended; replies = h.replies }))
latest_least n (fact.Register r ∷ facts) h =
    max_least 0 (latest_in facts) n (omega arith)
    (latest_least n facts (record { openings = h.openings; entries = h.entries; holds = h.holds; voids = h.voids; polls = h.polls; ended = h.ended; replies = h.replies }))
latest_least n (fact.Opening o ∷ facts) h =
    max_least o.at (latest_in facts) n h.openings.0
    (latest_least n facts (record { openings = h.openings.1; entries = h.entries; holds = h.holds; voids = h.voids; polls = h.polls; ended = h.ended; replies = h.replies }))
latest_least n (fact.Entry b ∷ facts) h =
    max_least (moment_of b.entry) (latest_in facts) n h.entries.0
    (latest_least n facts (record { openings = h.openings; entries = h.entries.1; holds = h.holds; voids = h.voids; polls = h.polls; ended = h.ended; replies = h.replies }))
latest_least n (fact.Hold b ∷ facts) h =
    max_least b.at (latest_in facts) n h.holds.0
    (latest_least n facts (record { openings = h.openings; entries = h.entries; holds = h.holds.1; voids = h.voids; polls = h.polls; ended = h.ended; replies = h.replies }))
latest_least n (fact.Void v ∷ facts) h =
    max_least v.at (latest_in facts) n h.voids.0
    (latest_least n facts (record { openings = h.openings; entries = h.entries; holds = h.holds; voids = h.voids.1; polls = h.polls; ended = h.ended; replies = h.replies }))
latest_least n (fact.Poll p ∷ facts) h =
    max_least p.at (latest_in facts) n h.polls.0
    (latest_least n facts (record { openings = h.openings; entries = h.entries; holds = h.holds; voids = h.voids; polls = h.polls.1; ended = h.ended; replies = h.replies }))
latest_least n (fact.Outcome e ∷ facts) h =
    max_least e.at (latest_in facts) n h.ended.0
    (latest_least n facts (record { openings = h.openings; entries = h.entries; holds = h.holds; voids = h.voids; polls = h.polls; ended = h.ended.1; replies = h.replies }))
latest_least n (fact.Reply r ∷ facts) h =
    max_least r.at (latest_in facts) n h.replies.0
    (latest_least n facts (record { openings = h.openings; entries = h.entries; holds = h.holds; voids = h.voids; polls = h.polls; ended = h.ended; replies = h.replies.1 }))

abbrev pub of_all : (opened entered voided started ended held replied : ℕ) → ℕ
of_all opened entered voided started ended held replied = max (max (max opened entered) voided) (max (max started ended) (max held replied))

-- If each of seven numbers is at most `n`, the greatest of them is at most `n`. The seven are the
-- latest timestamps of the kinds of records.
seven : (o b v s e h r n : ℕ) → o ≤ n → b ≤ n → v ≤ n → s ≤ n → e ≤ n → h ≤ n → r ≤ n → of_all o b v s e h r ≤ n
seven o b v s e h r n p q t u w x y =
    max_least _ _ n (max_least _ _ n (max_least o b n p q) t) (max_least _ _ n (max_least s e n u w) (max_least h r n x y))

left : (a b n : ℕ) → max a b ≤ n → a ≤ n
left a b n h = omega (arith, h)

right : (a b n : ℕ) → max a b ≤ n → b ≤ n
right a b n h = omega (arith, h)

apart : (facts : List Fact) (n : ℕ) → max (max (latest_entered facts) (latest_voided facts)) (max (max (latest_started facts) (latest_ended facts)) (max (latest_held facts) (latest_replied facts))) ≤ n → AreEarly n facts
apart facts n h =
    let booked = left _ _ n h in
    let entered = left _ _ n booked in
    let asked = right _ _ n h in
    let polled = left _ _ n asked in
    let noted = right _ _ n asked in
    record {
      openings = none_past (λ (o : Opening). o.at) (openings_in facts) n (left _ _ n entered);
      entries = none_past (λ (b : BookedEntry). moment_of b.entry) (entries_in facts) n (right _ _ n entered);
      voids = none_past (λ (v : VoidedEntry). v.at) (voids_in facts) n (right _ _ n booked);
      polls = none_past (λ (p : Poll). p.at) (polls_in facts) n (left _ _ n polled);
      ended = none_past (λ (e : EndedPoll). e.at) (ended_in facts) n (right _ _ n polled);
      holds = none_past (λ (h : HeldReading). h.at) (holds_in facts) n (left _ _ n noted);
      replies = none_past (λ (r : Reply). r.at) (replies_in facts) n (right _ _ n noted);
    }

at_itself : (a : ℕ) → a ≤ a
at_itself a = omega arith

antisymmetric : (a b : ℕ) → a ≤ b → b ≤ a → a ≡ b
antisymmetric a b h k = omega arith

pub latest_is : (facts : List Fact) → max (max (latest_entered facts) (latest_voided facts)) (max (max (latest_started facts) (latest_ended facts)) (max (latest_held facts) (latest_replied facts))) ≡ latest_in facts
latest_is facts =
    antisymmetric _ (latest_in facts)
    (seven (greatest (λ (o : Opening). o.at) (openings_in facts)) (greatest (λ (b : BookedEntry). moment_of b.entry) (entries_in facts)) (latest_voided facts) (latest_started facts) (latest_ended facts) (latest_held facts)
    (latest_replied facts) (latest_in facts)
    (kind_within as_opening (λ (o : Opening). o.at) opening_at facts) (kind_within as_entry (λ (b : BookedEntry). moment_of b.entry) entry_at facts) (kind_within as_void (λ (v : VoidedEntry). v.at) void_at facts)
    (kind_within as_poll (λ (p : Poll). p.at) poll_at facts) (kind_within as_ended (λ (e : EndedPoll). e.at) end_at facts) (kind_within as_hold (λ (h : HeldReading). h.at) hold_at facts)
    (kind_within as_reply (λ (r : Reply). r.at) reply_at facts))
    (latest_least _ facts (apart facts _ (at_itself _)))
