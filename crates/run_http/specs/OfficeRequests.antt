-- Recognizes two kinds of requests. A request for all quarter hours of a meter can be answered with
-- a streamed response. A request to void an entry (to withdraw a false reading) can change rows of
-- streamed responses.
use Rattle.std.specs.Prelude.{◌≡◌, ◌&&◌, List, ℕ, Bool, false, Option, codes, is_some}
use Rattle.std.specs.Str.{bytes_eq}
use Rattle.httparse.specs.Spans.{span_bytes}
use Rattle.office_http.specs.Messages.Offices.{Office}
use Rattle.office_http.specs.Messages.Replies.{lines_reply, reply_bytes}
use Rattle.office_http.specs.Messages.WholeResponses.{IsReply}
use Rattle.office_http.specs.Messages.Head.Heads.{Looks}
use Rattle.office_http.specs.Messages.Routing.Routes.{Table}
use Rattle.office_http.specs.declared.messages.head.head.HeadState.{HeadState}
use Rattle.office_http.specs.declared.messages.head.head.HeadState.TheVariants.{Open, TooLarge, NoHead, Whole}
use Rattle.interval_core.specs.Lines.{intervals_text}
use Rattle.run_http.specs.MeterTargets.{after}

-- States that the bytes request the energy of all quarter hours of the meter. The response reports
-- the program's answer to that query (`office.intervals`), whatever the answer is.
abbrev pub AsksAllRows : Table → (bytes : List ℕ) → (meter : Option (List ℕ)) → Type 0
AsksAllRows table bytes meter = (office : Office)
    → IsReply office table bytes (reply_bytes (lines_reply intervals_text (office.intervals meter)))

-- True if the request could void (withdraw) an entry of a meter, because it is a POST to a target
-- that begins with `/meters/`.
abbrev pub may_void_by : (method target : List ℕ) → Bool
may_void_by method target =
    bytes_eq method (codes "POST") && is_some (after (codes "/meters/") target)

-- True if the bytes hold a complete head of a POST request with a target that begins with
-- `/meters/`. Only such a request can void (withdraw) an entry.
abbrev pub may_void_in : (bytes : List ℕ) → HeadState → Bool
may_void_in bytes Open = false
may_void_in bytes TooLarge = false
may_void_in bytes NoHead = false
may_void_in bytes (Whole at) =
    may_void_by (span_bytes bytes at.method) (span_bytes bytes at.target)

-- States that `result` is true exactly if the bytes hold the head of a request that could void
-- (withdraw) an entry: a POST to a target that begins with `/meters/`.
pub record MayVoid (bytes : List ℕ) (result : Bool) : Type 0 where
  pub head_state : HeadState
  pub looks : Looks bytes head_state
  pub is : result ≡ may_void_in bytes head_state
