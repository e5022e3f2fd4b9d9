-- The tests of a POST's headers, in a table. The first failed test determines the status of the
-- response.
use Rattle.std.specs.Prelude.{ℕ, nat_lt, Bool, true, false, not, ◌||◌, if◌then◌else◌, List, [], ◌∷◌, codes, is_none, Option, Some, None, option_and_then}
use Rattle.office_http.specs.Messages.Head.Headers.{values_of}
use Rattle.office_events.specs.Names.{named}
use Rattle.office_http.specs.Messages.Values.{digits_in, number_in}
use Rattle.office_http.specs.declared.messages.status.Status.{Status}
use Rattle.office_http.specs.declared.messages.status.Status.TheVariants.{BadRequest, LengthRequired, ContentTooLarge}

-- The status of the first failed test in a list. Each pair is a flag that the test failed, and the
-- status for that failure.
abbrev pub first_failed : List (Bool × Status) → Option Status
first_failed [] = None
first_failed (row ∷ rows) = if row.0 then Some row.1 else first_failed rows

-- How often a request has a header: never, once with its value, or more than once.
pub data Times : Type 0 where
  Missing : Times
  Alone : List ℕ → Times
  Repeated : Times

-- How often a request has a header (never, once or more often), from the list of the header's
-- values.
abbrev pub times : List (List ℕ) → Times
times [] = Missing
times (value ∷ []) = Alone value
times (value ∷ other ∷ values) = Repeated

-- True if the request does not have the header.
abbrev pub is_missing : Times → Bool
is_missing Missing = true
is_missing (Alone value) = false
is_missing Repeated = false

-- True if the request has the header more than once.
abbrev pub is_repeated : Times → Bool
is_repeated Missing = false
is_repeated (Alone value) = false
is_repeated Repeated = true

-- The value of a header that the request has exactly once, otherwise none.
abbrev pub value_in : Times → Option (List ℕ)
value_in Missing = None
value_in (Alone value) = Some value
value_in Repeated = None

-- The headers that are checked in a POST request (a command): `Transfer-Encoding`,
-- `Content-Length`, `Office-Caller` and `Office-Request`.
pub record PostHeaders : Type 0 where
  pub transfer : Times
  pub size : Times
  pub caller : Times
  pub number : Times

-- The headers that the tests of a POST read, taken from all headers of its head.
abbrev pub post_headers_of : List (List ℕ × List ℕ) → PostHeaders
post_headers_of headers = record {
  transfer = times (values_of (codes "transfer-encoding") headers);
  size = times (values_of (codes "content-length") headers);
  caller = times (values_of (codes "office-caller") headers);
  number = times (values_of (codes "office-request") headers);
}

-- The value of Content-Length: the size of the body in bytes.
abbrev pub size_in : PostHeaders → Option ℕ
size_in headers = option_and_then digits_in (value_in headers.size)

-- The value of the HTTP header `Office-Caller`, if it is a valid name.
abbrev pub caller_in : PostHeaders → Option (List ℕ)
caller_in headers = option_and_then named (value_in headers.caller)

-- The value of Office-Request: the number that the client gave this command.
abbrev pub request_in : PostHeaders → Option ℕ
request_in headers = option_and_then number_in (value_in headers.number)

-- True if the Content-Length is a number above the limit `most`, in bytes.
abbrev pub is_over : ℕ → Option ℕ → Bool
is_over most None = false
is_over most (Some size) = nat_lt most size

-- The tests of a POST's headers, each with the status of its failure.
abbrev pub post_tests : PostHeaders → List (Bool × Status)
post_tests headers = (
  not (is_missing headers.transfer) || is_repeated headers.size || is_repeated headers.caller
      || is_repeated headers.number,
  BadRequest,
)
    ∷ (is_missing headers.size, LengthRequired)
    ∷ (is_none (size_in headers), BadRequest)
    ∷ (is_over 65536 (size_in headers), ContentTooLarge)
    ∷ (is_none (caller_in headers) || is_none (request_in headers), BadRequest)
    ∷ []

-- The status of the first failed test of a POST's headers.
abbrev pub post_fault : PostHeaders → Option Status
post_fault headers = first_failed (post_tests headers)
