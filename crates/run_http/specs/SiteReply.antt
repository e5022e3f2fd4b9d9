-- The response to a query for `/site`: the accounting registers (named energy counters) and their
-- meters.
use Rattle.std.specs.Prelude.{◌≡◌, ℕ, List, [], Result, Ok, Err, OnOk, codes}
use Rattle.std.specs.declared.alloc.Global.{Global}
use Rattle.std.specs.declared.vec.Vec.{Vec}
use Rattle.office_http.specs.declared.messages.status.Status.TheVariants.{Fine}
use Rattle.office_http.specs.Messages.Sending.Bodies.{refused_text}
use Rattle.office_http.specs.Messages.Statuses.{status_of}
use Rattle.office_events.specs.Numbers.{refusal_number}
use Rattle.office_events.specs.declared.refusals.Refusal.{Refusal}
use Rattle.office_books.specs.Ledgers.{Ledger}
use Rattle.office_core.specs.Asking.{OnlyAsks}
use Rattle.office_core.specs.Site.{ReportsSite}
use Rattle.office_core.specs.declared.office.Office.{Office}
use Rattle.office_core.specs.declared.site.SiteRow.{SiteRow}
use Rattle.run_http.specs.StatusRoute.{with_reply}
use Rattle.run_http.specs.Texts.SiteText.{with_site}
use Rattle.run_http.specs.declared.texts.site.SiteLine.{SiteLine}

-- The response that reports the program's refusal of a query, with its HTTP status and the numeric
-- code of the refusal.
abbrev pub with_refusal : Refusal → List ℕ → List ℕ
with_refusal why text =
    with_reply (status_of why) (codes "application/json") (refused_text (refusal_number why)) text

-- The response with the accounting registers (named energy counters) and their meters as JSON, or
-- an error response if the program refused the query.
abbrev pub with_site_reply : (at : ℕ) → Result (Vec SiteLine Global) Refusal → List ℕ → List ℕ
with_site_reply at (Ok lines) text =
    with_reply Fine (codes "application/json") (with_site [] at lines.items) text
with_site_reply at (Err why) text = with_refusal why text

-- The contract of a function that queries the store once for its accounting registers (named energy
-- counters) and meters. Unless memory runs out, the function then appends the response with them,
-- or an error response if the program refused the query.
pub record RepliesSite {B : Type 0} (ledger : B → Ledger) (old new : Office B)
    (reply : Result (Vec SiteRow Global) Refusal → List ℕ → List ℕ) (from to : List ℕ)
    {E : Type 0} (result : Result (Unit {0}) E) : Type 0 where
  pub answer : Result (Vec SiteRow Global) Refusal
  pub reports : ReportsSite ledger old new answer
  pub asks : OnlyAsks ledger old new answer
  pub puts : OnOk result (to ≡ reply answer from)
