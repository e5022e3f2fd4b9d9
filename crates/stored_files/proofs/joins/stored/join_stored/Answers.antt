use Rattle.std.proofs.Common.{ℕ, List, sym, subst, ◌∙◌}
use Rattle.stored_files.specs.Joins.Stored.{IsOfZone, RefusesOffice}
use Rattle.std.specs.Prelude.{IfErr, string_bytes}
use Rattle.office_books.specs.History.{facts_of}
use Rattle.stored_files.proofs.CarriesLemmas.GoingOn.{is_reported, still_has}
use Rattle.stored_files.proofs.JoinsLemmas.Stored.{elsewhere, joins_office, refuses_office}
use Rattle.stored_files.proofs.joins.stored.join_stored.Goals as goal

pub returns-then-not-is_of_zone-clause-refuses : goal.returns-then-not-is_of_zone-clause-refuses
returns-then-not-is_of_zone-clause-refuses g c past has =
    let facts = facts_of past in
    let mid = c.read_zone_text.new.connection in
    let reported = is_reported g.S.Store c.args.connection mid has.zone facts c.in-Ok.zone has.has c.in-Ok.ensures.clean c.in-Ok.ensures.reports in
    subst (λ result. IfErr result (RefusesOffice g.K.Keeping g.S.Store c.args.connection has.zone c.args.range c.args.register.now facts c.args.before))
    (sym c.refused.ensures)
    (elsewhere g.K.Keeping c.args.range c.args.register.now facts g.S.Store c.args.connection mid (string_bytes c.in-Ok.zone) has.zone c.args.before c.in-Ok.ensures.clean reported
    (λ same. cc (sym c.if-not-is_of_zone.true ∙ c.is_of_zone.ensures.1 (subst (λ (reported : List ℕ). IsOfZone reported c.args.before) (sym c.deref.ensures) same))))

pub returns-else-not-is_of_zone-clause-joins : goal.returns-else-not-is_of_zone-clause-joins
returns-else-not-is_of_zone-clause-joins g c past has =
    let facts = facts_of past in
    let mid = c.read_zone_text.new.connection in
    let reported = is_reported g.S.Store c.args.connection mid has.zone facts c.in-Ok.zone has.has c.in-Ok.ensures.clean c.in-Ok.ensures.reports in
    joins_office g.K.Keeping c.args.range c.args.register.now facts g.S.Store c.args.connection mid (string_bytes c.in-Ok.zone) has.zone c.args.before c.in-Ok.ensures.clean reported
    c.join_in_zone.result
    (c.join_in_zone.ensures.joins has.zone facts (still_has g.S.Store c.args.connection mid has.zone facts c.in-Ok.zone has.has c.in-Ok.ensures.clean c.in-Ok.ensures.reports)
    (subst (λ (reported : List ℕ). IsOfZone reported c.args.before) c.deref.ensures (c.is_of_zone.ensures.0 c.if-not-is_of_zone.false)))

pub returns-else-not-is_of_zone-clause-refuses : goal.returns-else-not-is_of_zone-clause-refuses
returns-else-not-is_of_zone-clause-refuses g c past has =
    let facts = facts_of past in
    let mid = c.read_zone_text.new.connection in
    let reported = is_reported g.S.Store c.args.connection mid has.zone facts c.in-Ok.zone has.has c.in-Ok.ensures.clean c.in-Ok.ensures.reports in
    refuses_office g.K.Keeping c.args.range c.args.register.now facts g.S.Store c.args.connection mid (string_bytes c.in-Ok.zone) has.zone c.args.before c.in-Ok.ensures.clean reported
    c.join_in_zone.result
    (c.join_in_zone.ensures.refuses has.zone facts (still_has g.S.Store c.args.connection mid has.zone facts c.in-Ok.zone has.has c.in-Ok.ensures.clean c.in-Ok.ensures.reports))
