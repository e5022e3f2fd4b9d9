-- Detection of retried requests by idempotency key.
use Rattle.std.specs.Prelude.{ℕ, List, Option, if◌then◌else◌}
use Rattle.std.specs.Option.{option_map}
use Rattle.std.specs.Str.{bytes_eq}
use Rattle.office_events.specs.declared.facts.Reply.{Reply}
use Rattle.office_events.specs.declared.facts.Fact.{Fact}
use Rattle.office_books.specs.Facts.{reply_of}
use Rattle.office_books.specs.declared.books.Repeat.{Repeat}
use Rattle.office_books.specs.declared.books.Repeat.TheVariants.{Same, Other}

-- The value `Same` with the kind of the stored command if the request has the bytes of the request
-- stored under its idempotency key, otherwise `Other`.
abbrev pub as_repeat : (request : List ℕ) → Reply → Repeat
as_repeat request reply = if bytes_eq reply.request request then Same reply.kind else Other

-- Compares a request with the stored request of the same idempotency key, or returns `None` if the
-- store has no request with this key.
abbrev pub repeat_of : List Fact → (caller : List ℕ) → (number : ℕ) → (request : List ℕ)
    → Option Repeat
repeat_of facts caller number request =
    option_map (as_repeat request) (reply_of facts caller number)
