-- Worked examples, computed from the definitions: request targets, refusals, response lines about
-- meters, and the response headers that browsers need.
use Rattle.std.proofs.Common.{◌≡◌, ℕ, List, [], ◌∷◌, Option, Some, None, Err, true, false, refl}
use Rattle.std.specs.Prelude.{pos, negsuc, codes}
use Rattle.std.specs.Fmt.{digits}
use Rattle.office_http.specs.declared.messages.status.Status.TheVariants.{BadRequest, MethodNotAllowed}
use Rattle.office_events.specs.declared.questions.Installation.{Installation}
use Rattle.office_events.specs.declared.refusals.Refusal.TheVariants as refusal
use Rattle.run_http.specs.Browsers.{with_headers}
use Rattle.run_http.specs.MeterReplies.{with_rows_reply}
use Rattle.run_http.specs.MeterTargets.{meter_target}
use Rattle.run_http.specs.RegisterTargets.{IsRegisterTarget}
use Rattle.run_http.specs.StatusRoute.{IsRouteNamed, IsTarget, is_link_to_page}
use Rattle.run_http.specs.Texts.RegisterLines.{meters_text}
use Rattle.run_http.specs.declared.route.RunRoute.{RunRoute}
use Rattle.run_http.specs.declared.route.RunRoute.TheVariants.{Own, Meters}
use Rattle.run_http.specs.declared.route.StatusRoute.TheVariants.{Rejected}

-- Examples of the text lines that describe the meters of an accounting register (a named energy
-- counter), past and present.

-- An open meter with the shortest name and the least numbers: opened at time 0, counter 0, least
-- scale.
abbrev least : Installation
least = record {
  opening = record { meter = codes "a"; register = codes "main"; ceiling = 1; range = 4294967296; at = 0; raw = 7; sf = pos 0 };
  last = record { at = 0; raw = 0; sf = negsuc 9 };
  total = 0;
  ended = false;
}

-- An example of a meter: closed, with the longest possible name and the greatest possible numbers.
abbrev greatest : Installation
greatest = record {
  opening = record {
    meter = codes "Z-3456789_123456";
    register = codes "main";
    ceiling = 1;
    range = 4294967296;
    at = 18446744073709551614;
    raw = 7;
    sf = pos 0;
  };
  last = record { at = 18446744073709551615; raw = 4294967295; sf = pos 10 };
  total = 18446744073709551615;
  ended = true;
}

no_meters : meters_text [] ≡ codes "end 0\n"
unfolding digits
no_meters = refl

the_least : meters_text (least ∷ []) ≡ codes "a 0 0 0 -10 0 open\nend 1\n"
unfolding digits
the_least = refl

the_greatest : meters_text (greatest ∷ [])
    ≡ codes "Z-3456789_123456 18446744073709551614 18446744073709551615 4294967295 10 18446744073709551615 ended\nend 1\n"
unfolding digits
the_greatest = refl

-- Example: a response that lists two meters has their lines in the order of the meters, and a last
-- line with the number of meters.
both : meters_text (greatest ∷ least ∷ [])
    ≡ codes "Z-3456789_123456 18446744073709551614 18446744073709551615 4294967295 10 18446744073709551615 ended\na 0 0 0 -10 0 open\nend 2\n"
unfolding digits
both = refl

-- Examples of the routes of request targets.

abbrev asks : List ℕ → Option RunRoute
asks name = Some (Meters (Some name))

a_register : IsRegisterTarget (codes "/registers/main/meters") (asks (codes "main"))
a_register = refl

sixteen_bytes : IsRegisterTarget (codes "/registers/a234567890123456/meters") (asks (codes "a234567890123456"))
sixteen_bytes = refl

-- A name of 17 bytes is invalid, and no accounting register (a named energy counter) has it.
seventeen_bytes : IsRegisterTarget (codes "/registers/a2345678901234567/meters") (Some (Meters None))
seventeen_bytes = refl

no_bytes : IsRegisterTarget (codes "/registers//meters") (Some (Meters None))
no_bytes = refl

a_digit_first : IsRegisterTarget (codes "/registers/1/meters") (Some (Meters None))
a_digit_first = refl

-- The target `/registers/main/meter` lacks the last letter of `/registers/main/meters`, so it has
-- no route of `sunreg run`.
one_byte_less : IsRegisterTarget (codes "/registers/main/meter") None
one_byte_less = refl

one_byte_more : IsRegisterTarget (codes "/registers/main/meters/") None
one_byte_more = refl

no_register : IsRegisterTarget (codes "/registers/meters") None
no_register = refl

-- Examples of the routes of request targets with too many segments, or with a question mark.

past_the_last_day : IsRegisterTarget (codes "/registers/main/days/2026-01-01/2026-01-02/") None
past_the_last_day = refl

past_the_last_moment : meter_target (codes "/meters/m1/intervals/900/1800/") ≡ None
past_the_last_moment = refl

past_a_place : meter_target (codes "/meters/m1/entries/0/1") ≡ None
past_a_place = refl

-- If the last segment of a target for a meter's entries is empty, it is a malformed sequence
-- number, so the request gets status 400. The target does not count as one with too many segments.
no_place : meter_target (codes "/meters/m1/entries/") ≡ Some (Own (Rejected BadRequest))
no_place = refl

a_question_mark : IsTarget (codes "/meters/m1/entries/0?") None
a_question_mark = refl

a_question_mark_in_a_name : IsTarget (codes "/registers/ma?in/meters") None
a_question_mark_in_a_name = refl

-- Examples of the routes of requests with a method other than GET.

by_get : IsRouteNamed (codes "GET") (codes "/registers/main/meters") (asks (codes "main"))
by_get = (asks (codes "main"), refl, refl)

by_post : IsRouteNamed (codes "POST") (codes "/registers/main/meters") (Some (Own (Rejected MethodNotAllowed)))
by_post = (asks (codes "main"), refl, refl)

-- Examples of responses that report the program's refusal of a query.

unknown_is_refused : with_rows_reply meters_text (Err refusal.NotFound) []
    ≡ codes "HTTP/1.1 404 Not Found\r\nContent-Type: application/json\r\nContent-Length: 13\r\nConnection: close\r\n\r\n{\"refused\":1}"
unfolding digits
unknown_is_refused = refl

a_stopped_office_refuses : with_rows_reply meters_text (Err refusal.Stopped) []
    ≡ codes "HTTP/1.1 503 Service Unavailable\r\nContent-Type: application/json\r\nContent-Length: 14\r\nConnection: close\r\n\r\n{\"refused\":15}"
unfolding digits
a_stopped_office_refuses = refl

-- Examples of inserting headers after the status line of a response, and of which requests a link
-- to the web page can make.

after_the_first_line : with_headers (codes "A: b\r\n") (codes "HTTP/1.1 200 OK\r\nC: d\r\n\r\n\n") ≡ codes "HTTP/1.1 200 OK\r\nA: b\r\nC: d\r\n\r\n\n"
after_the_first_line = refl

cut_off_before_its_end : with_headers (codes "A: b\r\n") (codes "HTTP/1.1 20") ≡ codes "HTTP/1.1 20"
cut_off_before_its_end = refl

a_link : is_link_to_page (codes "GET") (codes "/") ≡ true
a_link = refl

a_post : is_link_to_page (codes "POST") (codes "/") ≡ false
a_post = refl

a_part_of_the_page : is_link_to_page (codes "GET") (codes "/page.js") ≡ false
a_part_of_the_page = refl
