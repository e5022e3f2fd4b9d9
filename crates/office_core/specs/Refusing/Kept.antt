-- Answers to requests whose idempotency key is already in the store: the stored answer for a retry,
-- or a refusal for a different request.
use Rattle.std.specs.Prelude.{◌≡◌, Option, Result, Ok, Err, IfSome, IfErr}
use Rattle.office_events.specs.declared.answers.CommandKind.{CommandKind}
use Rattle.office_events.specs.declared.events.Event.{Event}
use Rattle.office_events.specs.declared.events.Event.TheVariants as event
use Rattle.office_events.specs.declared.refusals.Refusal.{Refusal}
use Rattle.office_events.specs.declared.refusals.Refusal.TheVariants.{Reused}
use Rattle.office_books.specs.declared.books.Repeat.{Repeat}
use Rattle.office_books.specs.declared.books.Repeat.TheVariants.{Same, Other}

-- The answer to a request whose idempotency key is already in the store. For a retry, the answer is
-- the kind of the stored command. For a different request, the answer is the refusal `Reused` (the
-- key was reused).
abbrev pub kept_as : Repeat → Result CommandKind Refusal
kept_as (Same kind) = Ok kind
kept_as Other = Err Reused

-- True if a request with a known idempotency key is refused for no reason other than `Reused` (the
-- request stored under this key has other bytes).
abbrev pub IsReusedIfRefused : Option (Result CommandKind Refusal) → Type 0
IsReusedIfRefused answer = IfSome answer (λ r. IfErr r (λ why. why ≡ Reused))

-- True if the event has no idempotency key.
abbrev pub IsNoRequest : Event → Type 0
IsNoRequest (event.Asked asked) = ⊥
IsNoRequest _ = Unit {0}
