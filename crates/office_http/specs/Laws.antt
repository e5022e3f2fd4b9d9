-- States that the specification allows at most one response to a request.
use Rattle.std.specs.Prelude.{◌≡◌, ℕ, List}
use Rattle.office_http.specs.Messages.Routing.Routes.{routes}
use Rattle.office_http.specs.Messages.Offices.{Office}
use Rattle.office_http.specs.Messages.WholeResponses.{IsReply}

-- States that the specification allows at most one response to the received bytes `bytes`, given
-- the program's answers (`office`) to queries and commands.
abbrev pub RepliesAreOne : Type 0
RepliesAreOne = (office : Office) (bytes one other : List ℕ)
    → IsReply office routes bytes one → IsReply office routes bytes other → one ≡ other
