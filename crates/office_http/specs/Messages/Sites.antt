-- Detects requests that a page of another site sent, by the header Sec-Fetch-Site (W3C, Fetch
-- Metadata Request Headers, section 2.3). Browsers set this header, and no page can.
use Rattle.std.specs.Prelude.{ℕ, Bool, true, false, List, codes}
use Rattle.std.specs.Str.{bytes_eq}
use Rattle.office_http.specs.Messages.Head.Headers.{values_of}
use Rattle.office_http.specs.Messages.HeadTests.{Start, start_at}
use Rattle.office_http.specs.Messages.Tests.{Times, Missing, Alone, Repeated, times}
use Rattle.office_http.specs.declared.messages.head.head.Head.{Head}
use Rattle.office_http.specs.declared.messages.head.head.HeadState.{HeadState}
use Rattle.office_http.specs.declared.messages.head.head.HeadState.TheVariants.{Open, TooLarge, NoHead, Whole}

-- True if the values of Sec-Fetch-Site say that a page of another site sent the request. Also true
-- for a repeated header, because no browser sends two. False for a missing header: the request came
-- from an old browser or from another program.
abbrev pub says_cross_site : Times → Bool
says_cross_site Missing = false
says_cross_site (Alone value) = bytes_eq value (codes "cross-site")
says_cross_site Repeated = true

-- True if the Sec-Fetch-Site header of the request says that a page of another site sent the
-- request.
abbrev pub is_cross_site : Start → Bool
is_cross_site start = says_cross_site (times (values_of (codes "sec-fetch-site") start.headers))

-- True if the request head in the received bytes says that a page of another site sent the request.
-- False for bytes without a complete head.
abbrev pub is_cross_site_in : List ℕ → HeadState → Bool
is_cross_site_in bytes Open = false
is_cross_site_in bytes TooLarge = false
is_cross_site_in bytes NoHead = false
is_cross_site_in bytes (Whole at) = is_cross_site (start_at bytes at)
