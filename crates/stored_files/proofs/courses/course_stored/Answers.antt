use Rattle.std.proofs.Common.{ℕ, List, subst}
use Rattle.std.specs.Prelude.{string_bytes}
use Rattle.interval_core.specs.Zone.{HasRule}
use Rattle.office_books.specs.History.{facts_of}
use Rattle.stored_files.proofs.CarriesLemmas.GoingOn.{is_reported, still_has}
use Rattle.stored_files.proofs.LatestLemmas.{course_decided}
use Rattle.stored_files.proofs.courses.course_stored.Goals as goal

pub returns-in-Ok-latest_opened : goal.returns-in-Ok-latest_opened
returns-in-Ok-latest_opened g c past has =
    let facts = facts_of past in
    let mid = c.read_zone_text.new.connection in
    course_decided g.S.Store c.args.connection mid has.zone (string_bytes c.in-Ok.zone) c.in-Ok-read.zone c.args.by c.args.led facts c.in-Ok-latest_opened.latest c.args.now
    c.course_at.result c.in-Ok.ensures.clean
    (is_reported g.S.Store c.args.connection mid has.zone facts c.in-Ok.zone has.has c.in-Ok.ensures.clean c.in-Ok.ensures.reports)
    (subst (λ (text : List ℕ). HasRule text c.in-Ok-read.zone) c.deref.ensures c.in-Ok-read.ensures.value)
    (c.in-Ok-latest_opened.ensures has.zone facts
    (still_has g.S.Store c.args.connection mid has.zone facts c.in-Ok.zone has.has c.in-Ok.ensures.clean c.in-Ok.ensures.reports))
    c.course_at.ensures
