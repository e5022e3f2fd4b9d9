-- The response to a query for `/metrics`: the program's counts of polls and readings, and the
-- accounting registers (named energy counters) and meters in the store.
use Rattle.std.specs.Prelude.{List, [], ℕ, Result, Ok, Err, codes}
use Rattle.std.specs.declared.alloc.Global.{Global}
use Rattle.std.specs.declared.vec.Vec.{Vec}
use Rattle.office_http.specs.declared.messages.status.Status.TheVariants.{Fine}
use Rattle.office_events.specs.declared.refusals.Refusal.{Refusal}
use Rattle.office_core.specs.declared.site.SiteRow.{SiteRow}
use Rattle.run_http.specs.SiteReply.{with_refusal}
use Rattle.run_http.specs.StatusRoute.{with_reply}
use Rattle.run_http.specs.Texts.MetricsText.{with_metrics}
use Rattle.run_http.specs.declared.status.status.counts.Counts.{Counts}
use Rattle.run_http.specs.declared.status.status.status.DeviceState.{DeviceState}

-- The response with the metrics, or an error response if the program refused the query.
abbrev pub with_metrics_reply : Counts → List DeviceState → Result (Vec SiteRow Global) Refusal
    → List ℕ → List ℕ
with_metrics_reply counts devices (Ok rows) text =
    with_reply Fine (codes "text/plain; version=0.0.4")
    (with_metrics [] counts devices rows.items) text
with_metrics_reply counts devices (Err why) text = with_refusal why text
