use Rattle.std.proofs.Common.{◌≡◌, ◌++◌, ◌<◌, ⊎_elim, refl, sym, ap, ◌∙◌, codes}
use Rattle.std.proofs.lemmas.Bool.{cases_lt, false≢true}
use Rattle.std.proofs.lemmas.Result.{on_ok_weaker}
use Rattle.interval_core.specs.declared.limits.TheConstants.{LAST_MOMENT}
use Rattle.table_audit.specs.Values as value
use Rattle.table_audit.proofs.Moments.{number_alone, number_with_date}
use Rattle.table_audit.proofs.values.write_moment.Goals as goal

pub returns-in-None : goal.returns-in-None
returns-in-None c =
    let some = rw c.in-None.is at c.date_at.ensures.some in
    let too_late : LAST_MOMENT < c.args.at = ⊎_elim (λ late. late) (λ early. absurd (false≢true (some.1 early))) (cases_lt LAST_MOMENT c.args.at) in
    c.in_ok-write_number.ensures ∙ sym (number_alone (c.args.text.now.items ++ c.args.before.now) c.args.at too_late)

pub returns-in-Some : goal.returns-in-Some
returns-in-Some c =
    let early = c.date_at.ensures.some.0 (rw c.in-Some.is refl) in
    let is_date = rw c.in-Some.is at c.date_at.ensures.date in
    let date = value.shown_date c.in-Some.date in
    on_ok_weaker c.write_calendar.result
    (λ is. is ∙ ap (λ t. t ++ codes " (" ++ date ++ codes " " ++ value.clock_text c.args.at ++ codes " UTC)") c.in_ok-write_number.ensures
    ∙ number_with_date (c.args.text.now.items ++ c.args.before.now) date c.args.at early is_date)
    c.write_calendar.ensures
