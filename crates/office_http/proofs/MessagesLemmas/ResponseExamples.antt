-- Worked examples of HTTP responses, byte for byte, computed from the definitions.
use Rattle.std.proofs.Common.{◌≡◌, ℕ, List, [], ◌∷◌, Some, None, Ok, Err, pos, true, false, refl}
use Rattle.std.specs.Prelude.{codes}
use Rattle.std.specs.Fmt.{digits}
use Rattle.matchit.proofs.OnLiterals.{matchit_on_literals}
use Rattle.interval_core.specs.declared.shares.Share.{Share}
use Rattle.office_http.specs.declared.messages.commands.fault.CommandFault.TheVariants.{Malformed, Negative, Faulty}
use Rattle.office_http.specs.Messages.HeadTests.{Start}
use Rattle.office_http.specs.Messages.Routing.Routes.{routes}
use Rattle.office_events.specs.declared.answers.CommandKind.TheVariants as kind
use Rattle.office_events.specs.declared.questions.Installation.{Installation}
use Rattle.office_events.specs.declared.refusals.Refusal.TheVariants as refusal
use Rattle.point_list.specs.declared.fault.RowFault.TheVariants as fault_of
use Rattle.office_http.specs.Messages.Kinds.{done_text}
use Rattle.office_http.specs.Messages.Offices.{Office}
use Rattle.office_http.specs.Messages.Replies.{fault_said, refused, reply_bytes, reply_of, row_reply}
use Rattle.office_http.specs.Messages.Requests.{kept_request, number_asked}
use Rattle.office_http.specs.Messages.Rows.{meter_text}

-- Example answers of the program: no meter exists, queries for energy by quarter hours return rows,
-- and the replacement of a meter is accepted.
abbrev office : Office
office = record {
  meter = λ name. Err refusal.NotFound;
  poll = λ number. Err refusal.NotFound;
  intervals = λ name. Ok (record { start = 900; mwh = 177777 } ∷ record { start = 1800; mwh = 22223 } ∷ []);
  days = λ name. Ok [];
  asked = λ asked. Ok kind.Exchange;
}

exchange_is_done : reply_bytes (row_reply done_text (Ok kind.Exchange))
    ≡ codes "HTTP/1.1 200 OK\r\nContent-Type: application/json\r\nContent-Length: 19\r\nConnection: close\r\n\r\n{\"done\":\"exchange\"}"
unfolding digits
exchange_is_done = refl

unknown_is_refused : reply_bytes (refused refusal.NotFound)
    ≡ codes "HTTP/1.1 404 Not Found\r\nContent-Type: application/json\r\nContent-Length: 13\r\nConnection: close\r\n\r\n{\"refused\":1}"
unfolding digits
unknown_is_refused = refl

negative_is_refused : reply_bytes (fault_said Negative)
    ≡ codes "HTTP/1.1 422 Unprocessable Content\r\nContent-Type: application/json\r\nContent-Length: 14\r\nConnection: close\r\n\r\n{\"refused\":12}"
unfolding digits
negative_is_refused = refl

faulty_rows_are_reported : reply_bytes (fault_said (Faulty (record { row = 2; fault = fault_of.Address } ∷ record { row = 3; fault = fault_of.Name } ∷ [])))
    ≡ codes "HTTP/1.1 422 Unprocessable Content\r\nContent-Type: application/json\r\nContent-Length: 24\r\nConnection: close\r\n\r\n{\"faults\":[[2,7],[3,3]]}"
unfolding digits
faulty_rows_are_reported = refl

abbrev asks : List ℕ → List ℕ → Start
asks method target = record { method = method; target = target; headers = [] }

no_route : reply_bytes (reply_of office routes (asks (codes "GET") (codes "/nothing")) [] (Err Malformed))
    ≡ codes "HTTP/1.1 404 Not Found\r\nContent-Type: application/json\r\nContent-Length: 13\r\nConnection: close\r\n\r\n{\"fault\":404}"
unfolding digits matchit_on_literals
no_route = refl

another_method : reply_bytes (reply_of office routes (asks (codes "POST") (codes "/meters/m1")) [] (Err Malformed))
    ≡ codes "HTTP/1.1 405 Method Not Allowed\r\nContent-Type: application/json\r\nContent-Length: 13\r\nConnection: close\r\n\r\n{\"fault\":405}"
unfolding digits matchit_on_literals
another_method = refl

no_length : reply_bytes (reply_of office routes (asks (codes "POST") (codes "/devices")) [] (Err Malformed))
    ≡ codes "HTTP/1.1 411 Length Required\r\nContent-Type: application/json\r\nContent-Length: 13\r\nConnection: close\r\n\r\n{\"fault\":411}"
unfolding digits matchit_on_literals
no_length = refl

intervals_are_reported : reply_bytes (reply_of office routes (asks (codes "GET") (codes "/meters/m1/intervals")) [] (Err Malformed))
    ≡ codes "HTTP/1.1 200 OK\r\nContent-Type: text/plain\r\nConnection: close\r\n\r\n900 177777\n1800 22223\nend 2\n"
unfolding digits matchit_on_literals
intervals_are_reported = refl

request_is_kept : kept_request (codes "POST") (codes "/devices") (codes "{}") ≡ codes "POST /devices\n{}"
request_is_kept = refl

greatest_poll : number_asked (Some (codes "9223372036854775807")) ≡ Some 9223372036854775807
greatest_poll = refl

past_the_greatest : number_asked (Some (codes "9223372036854775808")) ≡ None
past_the_greatest = refl

abbrev row : Installation
row = record {
  opening = record { meter = codes "m1"; register = codes "main"; ceiling = 100000; range = 4294967296; at = 1000; raw = 5000; sf = pos 0 };
  last = record { at = 1900; raw = 5200; sf = pos 0 };
  total = 200000;
  ended = false;
}

meter_is_reported : meter_text row
    ≡ codes "{\"at\":1900,\"ended\":false,\"last\":5200,\"meter\":\"m1\",\"range\":4294967296,\"register\":\"main\",\"sf\":0,\"total\":\"200000\"}"
unfolding digits
meter_is_reported = refl
