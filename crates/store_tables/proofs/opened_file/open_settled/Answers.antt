use Rattle.std.proofs.Common.{Ok, Err}
use Rattle.sqlite.specs.Held.{state}
use Rattle.store_tables.specs.Layouts.{version_of}
use Rattle.store_tables.proofs.Reported.{reports_err, reports_later, reports_well, kept_of, is_third}
use Rattle.store_tables.proofs.Brought.{after_question, ended, passed_on, reported_as, seen, still_open}
use Rattle.store_tables.proofs.opened_file.open_settled.Goals as goal

pub returns-in_err-zone-clause-reported : goal.returns-in_err-zone-clause-reported
returns-in_err-zone-clause-reported g c clean content is_open settled has m marked =
    reports_err (version_of c.args.layout) m (state g.S.Store c.args.conn.now) (state g.S.Store c.stored_zone.new.conn) c.in_err-zone.field-0.0 c.from_residual.result c.from_residual.ensures.1 ((c.in_err-zone.ensures.finds clean content has).reported m marked)

pub returns-in_err-zone-clause-opened : goal.returns-in_err-zone-clause-opened
returns-in_err-zone-clause-opened g c clean zone content it =
    let old = state g.S.Store c.args.conn.now in
    let finds = c.in_err-zone.ensures.finds clean content (seen c.args.layout zone content old it).tables in
    ended c.args.layout zone content old (state g.S.Store c.stored_zone.new.conn) c.from_residual.result _ c.from_residual.ensures.1 finds.kept finds.survives

pub returns-in_err-brought-clause-opened : goal.returns-in_err-brought-clause-opened
returns-in_err-brought-clause-opened g c clean zone content it =
    let old = state g.S.Store c.args.conn.now in
    let mid = state g.S.Store c.stored_zone.new.conn in
    let end = state g.S.Store c.brought.new.conn in
    let finds = c.in_ok-zone.ensures.finds (c.brought.ensures.clean clean) content (seen c.args.layout zone content old it).tables in
    passed_on c.args.layout zone content old end c.in_err-brought.field-0.0 c.from_residual-in_err-brought.result _ c.from_residual-in_err-brought.ensures.1
    (after_question c.args.layout zone content old mid end (Err c.in_err-brought.field-0.0) finds.unchanged finds.survives (c.in_err-brought.ensures.opened clean zone content (still_open c.args.layout zone content old mid finds.unchanged it)))

pub returns-in_err-brought-clause-reported : goal.returns-in_err-brought-clause-reported
returns-in_err-brought-clause-reported g c clean content is_open settled has m marked =
    let old = state g.S.Store c.args.conn.now in
    let mid = state g.S.Store c.stored_zone.new.conn in
    let end = state g.S.Store c.brought.new.conn in
    let finds = c.in_ok-zone.ensures.finds (c.brought.ensures.clean clean) content has in
    let reported = finds.reported m marked in
    reports_later (version_of c.args.layout) m old mid end c.in_ok-zone.zone c.in_err-brought.field-0.0 c.from_residual-in_err-brought.result (λ last. c.in_err-brought.ensures.third (is_third c.args.layout last)) reported c.in_err-brought.ensures.fault c.from_residual-in_err-brought.ensures.1
    (kept_of c.args.layout m content old mid end c.in_ok-zone.zone is_open settled has marked reported finds.kept finds.unchanged (λ it. (c.in_err-brought.ensures.opened clean m.zone content it).err))

pub returns-clause-reported : goal.returns-clause-reported
returns-clause-reported g c clean content is_open settled has m marked =
    reports_well (version_of c.args.layout) m (state g.S.Store c.args.conn.now) (state g.S.Store c.stored_zone.new.conn) (state g.S.Store c.brought.new.conn) c.in_ok-zone.zone ((c.in_ok-zone.ensures.finds (c.brought.ensures.clean clean) content has).reported m marked)

pub returns-clause-opened : goal.returns-clause-opened
returns-clause-opened g c clean zone content it =
    let old = state g.S.Store c.args.conn.now in
    let mid = state g.S.Store c.stored_zone.new.conn in
    let end = state g.S.Store c.brought.new.conn in
    let finds = c.in_ok-zone.ensures.finds (c.brought.ensures.clean clean) content (seen c.args.layout zone content old it).tables in
    reported_as c.args.layout zone content old end tt c.in_ok-zone.zone
    (after_question c.args.layout zone content old mid end (Ok tt) finds.unchanged finds.survives (c.in_ok-brought.ensures.opened clean zone content (still_open c.args.layout zone content old mid finds.unchanged it)))
