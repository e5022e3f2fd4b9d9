-- Worked examples of the tests of the Host and Sec-Fetch-Site headers, computed from the
-- definitions.
use Rattle.std.proofs.Common.{◌≡◌, ℕ, List, [], ◌∷◌, map, true, false, refl}
use Rattle.std.specs.Prelude.{codes}
use Rattle.office_http.specs.Messages.HeadTests.{Start}
use Rattle.office_http.specs.Messages.Hosts.{is_known, may_ask}
use Rattle.office_http.specs.Messages.Sites.{is_cross_site}

-- Examples of accepted Host values (RFC 9110, section 7.2): the names and addresses of this
-- machine, in upper or lower case.

by_number : is_known [] (codes "127.0.0.1") ≡ true
by_number = refl

with_a_port : is_known [] (codes "127.0.0.1:8080") ≡ true
with_a_port = refl

-- An accepted Host value can contain any port, because a port may be forwarded.
with_another_port : is_known [] (codes "127.0.0.1:8081") ≡ true
with_another_port = refl

by_name : is_known [] (codes "localhost") ≡ true
by_name = refl

in_capitals : is_known [] (codes "LOCALHOST:8080") ≡ true
in_capitals = refl

in_brackets : is_known [] (codes "[::1]:8080") ≡ true
in_brackets = refl

-- A Host value that names another host is rejected.

another_name : is_known [] (codes "evil.example:8080") ≡ false
another_name = refl

a_number_and_more : is_known [] (codes "127.0.0.1.evil.example") ≡ false
a_number_and_more = refl

a_name_and_more : is_known [] (codes "localhost.evil.example:8080") ≡ false
a_name_and_more = refl

no_port : is_known [] (codes "localhost:evil") ≡ false
no_port = refl

without_brackets : is_known [] (codes "::1") ≡ false
without_brackets = refl

nothing : is_known [] [] ≡ false
nothing = refl

a_port_alone : is_known [] (codes ":8080") ≡ false
a_port_alone = refl

-- Examples of a Host value with given host names: a given name is accepted, another name is
-- rejected.

a_given_name : is_known (codes "Office.example" ∷ []) (codes "office.Example:443") ≡ true
a_given_name = refl

another_than_given : is_known (codes "office.example" ∷ []) (codes "evil.example:443") ≡ false
another_than_given = refl

-- Examples of request heads with no, one or two Host headers.

abbrev head_with : List (List ℕ) → Start
head_with values = record {
  method = codes "GET";
  target = codes "/status";
  headers = map (λ value. (codes "HOST", value)) values;
}

without_a_host : may_ask [] (head_with []) ≡ true
without_a_host = refl

with_one : may_ask [] (head_with (codes "localhost" ∷ [])) ≡ true
with_one = refl

with_a_foreign_one : may_ask [] (head_with (codes "evil.example" ∷ [])) ≡ false
with_a_foreign_one = refl

with_an_empty_one : may_ask [] (head_with ([] ∷ [])) ≡ false
with_an_empty_one = refl

-- Two Host headers are rejected, even if their values are equal (RFC 9112, section 3.2).
with_two : may_ask [] (head_with (codes "localhost" ∷ codes "localhost" ∷ [])) ≡ false
with_two = refl

-- Examples of how the header Sec-Fetch-Site shows that a page of another site sent a request (W3C,
-- Fetch Metadata Request Headers, section 2.3).

abbrev from_site : List (List ℕ) → Start
from_site values = record {
  method = codes "GET";
  target = codes "/site";
  headers = map (λ value. (codes "Sec-Fetch-Site", value)) values;
}

of_another_site : is_cross_site (from_site (codes "cross-site" ∷ [])) ≡ true
of_another_site = refl

said_twice : is_cross_site (from_site (codes "none" ∷ codes "none" ∷ [])) ≡ true
said_twice = refl

of_this_site : is_cross_site (from_site (codes "same-origin" ∷ [])) ≡ false
of_this_site = refl

in_other_case : is_cross_site (from_site (codes "Cross-Site" ∷ [])) ≡ false
in_other_case = refl

of_no_browser : is_cross_site (from_site []) ≡ false
of_no_browser = refl
