-- A complete HTTP request: its head and its body in the received bytes.
use Rattle.std.specs.Prelude.{◌≡◌, ◌+◌, ◌<◌, ◌≤◌, ◌⊎◌, ℕ, Bool, true, false, List, length, take, drop, Option, Some, None, Result, Ok, Err}
use Rattle.httparse.specs.Grammar.{RequestHead}
use Rattle.office_http.specs.Messages.Head.Heads.{IsHead, IsHeadAt, IsOpenHead, Looks}
use Rattle.office_http.specs.declared.messages.head.head.Head.{Head}
use Rattle.office_http.specs.declared.messages.head.head.HeadState.{HeadState}
use Rattle.office_http.specs.declared.messages.head.head.HeadState.TheVariants.{Open, TooLarge, NoHead, Whole}
use Rattle.office_http.specs.Messages.Reading.HeadAndBody.{EndsAt}
use Rattle.office_http.specs.Messages.Reading.Taking.{Came}
use Rattle.office_http.specs.declared.messages.reading.inbox.TakeFault.{TakeFault}
use Rattle.office_http.specs.Messages.HeadTests.{Start, asks, head_fault, start_at, start_of}
use Rattle.office_http.specs.Messages.Tests.{post_headers_of, size_in}
use Rattle.office_http.specs.Messages.Routing.Routes.{Table}
use Rattle.office_http.specs.Messages.Routing.Targets.{route_in}
use Rattle.office_http.specs.Messages.Asking.{TestsHead}
use Rattle.office_http.specs.declared.messages.ask.Ask.{Ask}
use Rattle.office_http.specs.declared.messages.status.Status.{Status}
use Rattle.office_http.specs.declared.messages.status.Status.TheVariants.{BadRequest, FieldsTooLarge}

-- The size of a request's body in bytes: the Content-Length of a command whose head passes all
-- tests, otherwise 0.
abbrev pub size_unless : Option Status → Bool → Option ℕ → ℕ
size_unless (Some status) question size = 0
size_unless None true size = 0
size_unless None false None = 0
size_unless None false (Some size) = size

-- The size in bytes of the body of a request. For a command whose head passes all tests, it is the
-- value of Content-Length, otherwise 0.
abbrev pub body_size : Table → Start → ℕ
body_size table start =
    size_unless (head_fault table start) (asks (route_in table start.target))
    (size_in (post_headers_of start.headers))

-- True if the bytes have a complete request head, followed by the request's complete body.
pub record IsWhole (table : Table) (bytes : List ℕ) (at : Head) : Type 0 where
  pub head : IsHeadAt bytes at
  pub body : at.len + body_size table (start_at bytes at) ≤ length bytes

-- True if the bytes have a complete request head, but only a part of the request's body.
pub record LacksBody (table : Table) (bytes : List ℕ) : Type 0 where
  pub at : Head
  pub head : IsHeadAt bytes at
  pub body : length bytes < at.len + body_size table (start_at bytes at)

-- True if the bytes have neither a complete request nor an invalid head.
abbrev pub IsUnfinished : Table → List ℕ → Type 0
IsUnfinished table bytes = IsOpenHead bytes ⊎ LacksBody table bytes

-- True if the bytes have a complete request with the given head, or an invalid head of the given
-- kind. False for the state Open (an incomplete head).
abbrev pub Holds : Table → List ℕ → HeadState → Type 0
Holds table bytes Open = ⊥
Holds table bytes TooLarge = Looks bytes TooLarge
Holds table bytes NoHead = Looks bytes NoHead
Holds table bytes (Whole at) = IsWhole table bytes at

-- True if the bytes have a complete request or an invalid head.
abbrev pub IsReadWhole : Table → List ℕ → Type 0
IsReadWhole table bytes = (head_state : HeadState) × Holds table bytes head_state

-- True if the buffer has a complete request or an invalid head, or if reading failed while the
-- buffer had neither of them.
abbrev pub ReadsRequest : Table → Result HeadState TakeFault → List ℕ → List ℕ → Option (List ℕ)
    → Option (List ℕ) → Type 0
ReadsRequest table (Ok head_state) old new before after =
    Came old new before after × Holds table new head_state
ReadsRequest table (Err fault) old new before after =
    Came old new before after × IsUnfinished table new × EndsAt fault after

-- True if the result is the query or command of a complete request, or the status that rejects the
-- request. This is 431 for a head past the limits for its size, 400 for a malformed head, otherwise
-- the status of the first test that the head fails.
abbrev pub TestsRequest : Table → List ℕ → HeadState → Result Ask Status → Type 0
TestsRequest table bytes Open result = ⊥
TestsRequest table bytes TooLarge result = result ≡ Err FieldsTooLarge
TestsRequest table bytes NoHead result = result ≡ Err BadRequest
TestsRequest table bytes (Whole at) result = TestsHead table (start_at bytes at) result

-- The body of a request: as many of the bytes after the head as the request's body size says.
abbrev pub body_of : Table → List ℕ → Head → List ℕ
body_of table bytes at = take (body_size table (start_at bytes at)) (drop at.len bytes)

-- True if the bytes begin with a complete request that has the given body, and a head within the
-- limits with the given method, target and headers.
pub record HoldsRequest (table : Table) (bytes : List ℕ) (start : Start) (body : List ℕ) : Type 0
  where
    pub head : RequestHead
    pub len : ℕ
    pub begins : IsHead bytes len head
    pub is : start ≡ start_of head
    pub whole : len + body_size table start ≤ length bytes
    pub body_is : body ≡ take (body_size table start) (drop len bytes)

-- True if two requests have equal heads (method, target and headers) and equal bodies.
pub record IsOneRequest (start other_start : Start) (body other_body : List ℕ) : Type 0 where
  pub one_start : start ≡ other_start
  pub one_body : body ≡ other_body

-- States that bytes begin with at most one request.
abbrev pub RequestsAreOne : Type 0
RequestsAreOne =
    (table : Table) (bytes : List ℕ) (start other_start : Start) (body other_body : List ℕ)
    → HoldsRequest table bytes start body → HoldsRequest table bytes other_start other_body
    → IsOneRequest start other_start body other_body
