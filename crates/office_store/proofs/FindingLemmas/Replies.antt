-- Proofs: no idempotency key has two stored requests, and comparing a retried request with the
-- stored one gives the result that the store's records require.
use Rattle.std.proofs.Common.{◌≡◌, ℕ, ◌+◌, ◌≤◌, ◌<◌, ◌^◌, ◌==◌, ◌&&◌, Bool, true, false, cond, if◌then◌else◌, inl, inr, List, [], ◌∷◌, map, filter, length, find, bytes_eq, Option, Some, None, refl, sym, ap, subst, ◌∙◌, arith}
use Rattle.std.specs.Option.{option_map}
use Rattle.std.proofs.lemmas.Bool.{cond-true, cond-false, eqb-true, ne_eqb, and_parts}
use Rattle.office_events.specs.declared.answers.CommandKind.{CommandKind}
use Rattle.office_events.specs.declared.facts.Reply.{Reply}
use Rattle.office_events.specs.declared.facts.Fact.{Fact}
use Rattle.office_events.specs.declared.facts.Fact.TheVariants as fact
use Rattle.office_books.specs.declared.books.Repeat.{Repeat}
use Rattle.office_books.specs.declared.books.Repeat.TheVariants.{Same, Other}
use Rattle.office_books.specs.Repeats.{as_repeat, repeat_of}
use Rattle.office_books.specs.Facts.{same, replies_in, reply_of, request_limit}
use Rattle.office_books.specs.Lawful.{AreLawful}
use Rattle.office_books.proofs.Lookups.{same_text}
use Rattle.store_tables.specs.Answer.{IsFound}
use Rattle.store_tables.specs.declared.polls.rows.Repeat as kept_repeat
use Rattle.store_tables.specs.Polls.Rows.{Kept, is_reply, IsRepeat, repeat_as}
use Rattle.office_store.specs.Rows.{kept}
use Rattle.office_store.specs.Finding.Finding.{OfLawful}
use Rattle.office_store.specs.Finding.Reading.{repeat_from}
use Rattle.office_store.proofs.FindingLemmas.Each.{each_map}
use Rattle.office_store.proofs.FindingLemmas.Rows.{IsOnly, only_found}
use Rattle.office_store.proofs.FindingLemmas.Facts.{few_step, none_left}

repeat_back : (b : Bool) (k : CommandKind) → repeat_from (repeat_as k b) ≡ (if b then Same k else Other)
repeat_back true k = refl
repeat_back false k = refl

abbrev of : (caller : List ℕ) (number : ℕ) → Reply → Bool
of caller number r = same r.caller caller && (r.number == number)

-- If the records are lawful (the store's rules accepted each after the earlier ones), no
-- idempotency key has two stored requests.
few_replies : (facts : List Fact) (caller : List ℕ) (number : ℕ) → AreLawful facts → length (filter (of caller number) (replies_in facts)) ≤ 1
few_replies [] caller number h = omega arith
few_replies (fact.Device d ∷ facts) caller number h = few_replies facts caller number h.1
few_replies (fact.List l ∷ facts) caller number h = few_replies facts caller number h.1
few_replies (fact.Register r ∷ facts) caller number h = few_replies facts caller number h.1
few_replies (fact.Opening o ∷ facts) caller number h = few_replies facts caller number h.1
few_replies (fact.Entry b ∷ facts) caller number h = few_replies facts caller number h.1
few_replies (fact.Hold b ∷ facts) caller number h = few_replies facts caller number h.1
few_replies (fact.Void v ∷ facts) caller number h = few_replies facts caller number h.1
few_replies (fact.Poll p ∷ facts) caller number h = few_replies facts caller number h.1
few_replies (fact.Outcome e ∷ facts) caller number h = few_replies facts caller number h.1
few_replies (fact.Reply r ∷ facts) caller number h =
    few_step (of caller number r) r (filter (of caller number) (replies_in facts))
    (λ is.
    let parts = and_parts (same r.caller caller) (r.number == number) is in
    none_left (of caller number) (replies_in facts)
    (subst (λ (n : ℕ). find (of caller n) (replies_in facts) ≡ None) (eqb-true r.number number parts.1)
    (subst (λ (c : List ℕ). find (of c r.number) (replies_in facts) ≡ None) (same_text r.caller caller parts.0) h.0.0.new)))
    (few_replies facts caller number h.1)

abbrev ReplyRowOf : Kept → Reply → Type 0
ReplyRowOf y r = y ≡ kept r

reply_only : (facts : List Fact) (caller : List ℕ) (number : ℕ) (request : List ℕ) (found : Option kept_repeat.Repeat) → AreLawful facts
    → IsFound (is_reply caller number) (IsRepeat request) (map kept (replies_in facts)) found → IsOnly ReplyRowOf (IsRepeat request) (is_reply caller number) (of caller number) (replies_in facts) found
reply_only facts caller number request found lawful h =
    only_found ReplyRowOf (IsRepeat request) (is_reply caller number) (of caller number) (map kept (replies_in facts)) (replies_in facts) found
    (λ y r is. ap (is_reply caller number) is) (each_map kept (replies_in facts)) (few_replies facts caller number lawful) h

pub no_repeat : (facts : List Fact) (caller : List ℕ) (number : ℕ) (request : List ℕ)
    → OfLawful (λ facts. IsFound (is_reply caller number) (IsRepeat request) (map kept (replies_in facts))) facts None → None ≡ repeat_of facts caller number request
no_repeat facts caller number request h = sym (ap (option_map (as_repeat request)) (reply_only facts caller number request None h.0 h.1))

pub this_repeat : (facts : List Fact) (caller : List ℕ) (number : ℕ) (request : List ℕ) (found : kept_repeat.Repeat)
    → OfLawful (λ facts. IsFound (is_reply caller number) (IsRepeat request) (map kept (replies_in facts))) facts (Some found) → Some (repeat_from found) ≡ repeat_of facts caller number request
this_repeat facts caller number request found h =
    let it = reply_only facts caller number request (Some found) h.0 h.1 in
    let seen : found ≡ repeat_as it.1.kind (bytes_eq it.1.request request) = it.3 ∙ ap (λ (k : Kept). repeat_as k.kind (bytes_eq k.request request)) it.2 in
    ap (λ (a : kept_repeat.Repeat). Some (repeat_from a)) seen ∙ (ap Some (repeat_back (bytes_eq it.1.request request) it.1.kind) ∙ sym (ap (option_map (as_repeat request)) it.4))

none_past : (facts : List Fact) (caller : List ℕ) (number : ℕ) → AreLawful facts → request_limit < number → reply_of facts caller number ≡ None
none_past [] caller number h past = refl
none_past (fact.Device d ∷ facts) caller number h past = none_past facts caller number h.1 past
none_past (fact.List l ∷ facts) caller number h past = none_past facts caller number h.1 past
none_past (fact.Register r ∷ facts) caller number h past = none_past facts caller number h.1 past
none_past (fact.Opening o ∷ facts) caller number h past = none_past facts caller number h.1 past
none_past (fact.Entry b ∷ facts) caller number h past = none_past facts caller number h.1 past
none_past (fact.Hold b ∷ facts) caller number h past = none_past facts caller number h.1 past
none_past (fact.Void v ∷ facts) caller number h past = none_past facts caller number h.1 past
none_past (fact.Poll p ∷ facts) caller number h past = none_past facts caller number h.1 past
none_past (fact.Outcome e ∷ facts) caller number h past = none_past facts caller number h.1 past
none_past (fact.Reply r ∷ facts) caller number h past =
    let off : (r.number == number) ≡ false = ne_eqb r.number number (λ e. absurd (let few = h.0.0.number in omega (arith, past, e, few))) in
    cond-false _ _ _ (ap (λ b. same r.caller caller && b) off ∙ and_off (same r.caller caller)) ∙ none_past facts caller number h.1 past
  where
    and_off : (b : Bool) → (b && false) ≡ false
    and_off true = refl
    and_off false = refl

pub no_repeat_past : (facts : List Fact) (caller : List ℕ) (number : ℕ) (request : List ℕ) → AreLawful facts → request_limit < number → None ≡ repeat_of facts caller number request
no_repeat_past facts caller number request lawful past = sym (ap (option_map (as_repeat request)) (none_past facts caller number lawful past))
