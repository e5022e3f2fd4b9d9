-- Accepts or rejects requests by their Host header (RFC 9110, section 7.2).
use Rattle.std.specs.Prelude.{ℕ, ◌==◌, Bool, true, false, ◌&&◌, ◌||◌, List, [], ◌∷◌, length, take, drop, map, codes}
use Rattle.std.specs.Borrow.{Bor}
use Rattle.std.specs.Char.{is_ascii_digit}
use Rattle.std.specs.List.{list_all, list_any}
use Rattle.office_http.specs.Messages.Head.Headers.{same_name, values_of}
use Rattle.office_http.specs.Messages.HeadTests.{Start, start_at}
use Rattle.office_http.specs.Messages.Tests.{Times, Missing, Alone, Repeated, times}
use Rattle.office_http.specs.declared.messages.head.head.Head.{Head}
use Rattle.office_http.specs.declared.messages.head.head.HeadState.{HeadState}
use Rattle.office_http.specs.declared.messages.head.head.HeadState.TheVariants.{Open, TooLarge, NoHead, Whole}

-- The host names of this machine, which are always accepted.
abbrev pub own_names : List (List ℕ)
own_names = codes "127.0.0.1" ∷ codes "localhost" ∷ codes "[::1]" ∷ []

-- True if the end of a Host value after the name is empty, or is a colon and digits. Any port is
-- accepted.
abbrev pub is_port : List ℕ → Bool
is_port [] = true
is_port (byte ∷ digits) = byte == 58 && list_all is_ascii_digit digits

-- True if the Host value is the given name, in upper or lower case, with or without a port.
abbrev pub is_host : (name value : List ℕ) → Bool
is_host name value =
    same_name (take (length name) value) name && is_port (drop (length name) value)

-- True if the Host value is one of the given names, with or without a port.
abbrev pub is_among : (names : List (List ℕ)) → (value : List ℕ) → Bool
is_among names value = list_any (λ name. is_host name value) names

-- True if the Host value is a name of this machine or one of the given names, with or without a
-- port.
abbrev pub is_known : (given : List (List ℕ)) → (value : List ℕ) → Bool
is_known given value = is_among own_names value || is_among given value

-- True if the program may serve a request by its Host header: the header is missing, or occurs once
-- with the name of this machine or a name in `given`. False for two Host headers (RFC 9112, section
-- 3.2).
abbrev pub may_ask_with : (given : List (List ℕ)) → Times → Bool
may_ask_with given Missing = true
may_ask_with given (Alone value) = is_known given value
may_ask_with given Repeated = false

-- True if the program may serve a request with the given head, by the head's Host header.
abbrev pub may_ask : (given : List (List ℕ)) → Start → Bool
may_ask given start = may_ask_with given (times (values_of (codes "host") start.headers))

-- True if the received bytes pass the test of the Host header. Bytes without a complete head pass,
-- because a later test rejects an invalid head.
abbrev pub may_ask_in : (given : List (List ℕ)) → List ℕ → HeadState → Bool
may_ask_in given bytes Open = true
may_ask_in given bytes TooLarge = true
may_ask_in given bytes NoHead = true
may_ask_in given bytes (Whole at) = may_ask given (start_at bytes at)

-- The bytes of each host name in a list of borrowed names.
abbrev pub texts : List (Bor (List ℕ)) → List (List ℕ)
texts names = map (λ name. name.now) names
