use Rattle.std.proofs.Common.{◌≡◌, List, refl, sym, subst}
use Rattle.std.specs.Prelude.{OnOk}
use Rattle.run_http.specs.MetricsReply.{with_metrics_reply}
use Rattle.run_http.specs.SiteReply.{RepliesSite}
use Rattle.run_http.specs.StatusRoute.{with_route_reply}
use Rattle.run_http.specs.declared.route.RunRoute.{RunRoute}
use Rattle.run_http.specs.declared.status.status.status.DeviceState.{DeviceState}
use Rattle.office_running.specs.Http.Responses.{RepliesRoute}
use Rattle.office_running.proofs.http.responses.reply_route.Goals as goal

pub returns-in-Own : goal.returns-in-Own
returns-in-Own g c =
    let monitor = c.args.context.now.monitor.now in
    subst (λ (route : RunRoute). RepliesRoute g.B.Books.ledger c.args.office.now c.args.office.now c.args.context.now route c.args.text.now.items
    c.reply_status.new.text.items c.reply_status.result) (sym c.in-Own.is) (
      refl,
      subst (λ (devices : List DeviceState). OnOk c.reply_status.result (c.reply_status.new.text.items
          ≡ with_route_reply c.in-Own.route monitor.counts devices c.args.context.now.lacks.now c.args.text.now.items)) c.deref.ensures.value
          c.reply_status.ensures,
    )

pub returns-in-Metrics : goal.returns-in-Metrics
returns-in-Metrics g c =
    let monitor = c.args.context.now.monitor.now in
    subst (λ (route : RunRoute). RepliesRoute g.B.Books.ledger c.args.office.now c.reply_metrics.new.office c.args.context.now route c.args.text.now.items
    c.reply_metrics.new.text.items c.reply_metrics.result) (sym c.in-Metrics.is)
    (subst (λ (devices : List DeviceState). RepliesSite g.B.Books.ledger c.args.office.now c.reply_metrics.new.office (with_metrics_reply monitor.counts devices)
    c.args.text.now.items c.reply_metrics.new.text.items c.reply_metrics.result) c.deref-in-Metrics.ensures.value c.reply_metrics.ensures)

pub returns-in-Site : goal.returns-in-Site
returns-in-Site g c =
    subst (λ (route : RunRoute). RepliesRoute g.B.Books.ledger c.args.office.now c.reply_site_over.new.office c.args.context.now route c.args.text.now.items
    c.reply_site_over.new.text.items c.reply_site_over.result) (sym c.in-Site.is) c.reply_site_over.ensures

pub returns-in-Intervals : goal.returns-in-Intervals
returns-in-Intervals g c =
    subst (λ (route : RunRoute). RepliesRoute g.B.Books.ledger c.args.office.now c.reply_intervals.new.office c.args.context.now route c.args.text.now.items
    c.reply_intervals.new.text.items c.reply_intervals.result) (sym c.in-Intervals.is) c.reply_intervals.ensures

pub returns-in-Entries : goal.returns-in-Entries
returns-in-Entries g c =
    subst (λ (route : RunRoute). RepliesRoute g.B.Books.ledger c.args.office.now c.reply_entries.new.office c.args.context.now route c.args.text.now.items
    c.reply_entries.new.text.items c.reply_entries.result) (sym c.in-Entries.is) c.reply_entries.ensures

pub returns-in-Voids : goal.returns-in-Voids
returns-in-Voids g c =
    subst (λ (route : RunRoute). RepliesRoute g.B.Books.ledger c.args.office.now c.reply_voids.new.office c.args.context.now route c.args.text.now.items
    c.reply_voids.new.text.items c.reply_voids.result) (sym c.in-Voids.is) c.reply_voids.ensures

pub returns-in-Energy : goal.returns-in-Energy
returns-in-Energy g c =
    subst (λ (route : RunRoute). RepliesRoute g.B.Books.ledger c.args.office.now c.reply_days.new.office c.args.context.now route c.args.text.now.items
    c.reply_days.new.text.items c.reply_days.result) (sym c.in-Energy.is) c.reply_days.ensures

pub returns-in-Meters : goal.returns-in-Meters
returns-in-Meters g c =
    subst (λ (route : RunRoute). RepliesRoute g.B.Books.ledger c.args.office.now c.reply_meters.new.office c.args.context.now route c.args.text.now.items
    c.reply_meters.new.text.items c.reply_meters.result) (sym c.in-Meters.is) c.reply_meters.ensures
