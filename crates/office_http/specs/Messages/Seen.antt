-- Converts how often a request has a header (never, once or more often) from the type that the code
-- uses to the type of the specification.
use Rattle.std.specs.Prelude.{Bool}
use Rattle.office_http.specs.declared.messages.head.headers.Given.{Given}
use Rattle.office_http.specs.declared.messages.head.headers.Given.TheVariants.{Never, Once, Often}
use Rattle.office_http.specs.Messages.Tests.{PostHeaders, Times, Missing, Alone, Repeated, is_missing, is_repeated}

-- How often a request has a header (never, once or more often), converted from the type that the
-- code uses.
abbrev pub seen : Given → Times
seen Never = Missing
seen (Once value) = Alone value.now
seen Often = Repeated

-- True if the HTTP request does not have the header whose occurrences are given.
abbrev pub is_missing_given : Given → Bool
is_missing_given given = is_missing (seen given)

-- True if `given`, which says how often a request has one of its headers, means more than once.
abbrev pub is_repeated_given : Given → Bool
is_repeated_given given = is_repeated (seen given)

-- How often a POST has each of four headers (Transfer-Encoding, Content-Length, Office-Caller and
-- Office-Request), converted from the type that the code uses.
abbrev pub seen_headers : Given → Given → Given → Given → PostHeaders
seen_headers transfer size caller number =
    record {
      transfer = seen transfer;
      size = seen size;
      caller = seen caller;
      number = seen number;
    }
