-- The response headers that protect users of browsers.
use Rattle.std.specs.Prelude.{◌≡◌, ℕ, ◌+◌, ◌==◌, Bool, true, false, if◌then◌else◌, List, ◌++◌, take, drop, position, Option, Some, None, codes}
use Rattle.run_http.specs.StatusRoute.{IsFor}
use Rattle.run_http.specs.declared.route.RunRoute.{RunRoute}
use Rattle.run_http.specs.declared.route.RunRoute.TheVariants.{Own, Metrics, Site, Intervals, Entries, Voids, Energy, Meters}
use Rattle.run_http.specs.declared.route.StatusRoute.{StatusRoute}
use Rattle.run_http.specs.declared.route.StatusRoute.TheVariants.{Status, Page, Rejected}

-- True if the route requests a part of the web page, such as its script. These parts have their own
-- Cache-Control header.
abbrev pub is_part : StatusRoute → Bool
is_part Status = false
is_part (Page part) = true
is_part (Rejected status) = false

-- True if the request's target has a route, and this route leads to a part of the web page.
abbrev pub is_page : Option RunRoute → Bool
is_page None = false
is_page (Some (Own own)) = is_part own
is_page (Some Metrics) = false
is_page (Some Site) = false
is_page (Some (Intervals meter span)) = false
is_page (Some (Entries meter from)) = false
is_page (Some (Voids meter)) = false
is_page (Some (Energy register form)) = false
is_page (Some (Meters register)) = false

-- The response headers for browsers. A browser then does not guess the type of the body (WHATWG,
-- Fetch, section 3.6), and other sites cannot use the body (section 3.7). Only parts of the web
-- page may be cached (RFC 9111, section 5.2.2.5).
abbrev pub headers_for : (is_page : Bool) → List ℕ
headers_for true =
    codes "X-Content-Type-Options: nosniff\r\nCross-Origin-Resource-Policy: same-origin\r\n"
headers_for false =
    codes "X-Content-Type-Options: nosniff\r\nCross-Origin-Resource-Policy: same-origin\r\nCache-Control: no-store\r\n"

-- The index of the line feed (10) at the end of a response's status line. None if the response was
-- cut off within its status line.
abbrev pub first_line_end : List ℕ → Option ℕ
first_line_end reply = position (λ byte. byte == 10) reply

-- The response `reply` with the bytes `more` inserted after the index `at`. Without an index, the
-- response is unchanged.
abbrev pub append_at : (more reply : List ℕ) → Option ℕ → List ℕ
append_at more reply None = reply
append_at more reply (Some at) = take (at + 1) reply ++ more ++ drop (at + 1) reply

-- The response with the headers `more` inserted after its status line.
abbrev pub with_headers : (more reply : List ℕ) → List ℕ
with_headers more reply = append_at more reply (first_line_end reply)

-- States that `reported` is the response `reply` with the headers for browsers inserted after its
-- status line.
pub record IsForBrowsers (names : List (List ℕ)) (bytes reply reported : List ℕ) : Type 0 where
  pub route : Option RunRoute
  pub for : IsFor names bytes route
  pub is : reported ≡ with_headers (headers_for (is_page route)) reply
