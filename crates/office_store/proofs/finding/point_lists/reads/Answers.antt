use Rattle.std.proofs.Common.{◌≡◌, [], Some, None, IsUtf8, refl, sym, ap, subst, ◌∙◌, arith}
use Rattle.std.proofs.lemmas.List.{take_all}
use Rattle.std.proofs.lemmas.Result.{IfOk-weaker}
use Rattle.office_books.specs.Plans.{reads_from}
use Rattle.store_tables.specs.Failing.{IsRowFault}
use Rattle.store_tables.proofs.Failures.{on_err}
use Rattle.office_store.specs.Finding.Points.{HasReadablePoints}
use Rattle.office_store.proofs.FindingLemmas.Found.{answered, become, made}
use Rattle.office_store.proofs.finding.point_lists.reads.Goals as goal

pub returns-in_default : goal.returns-in_default
returns-in_default g c =
    answered g.S.Store c.args.conn.now c.list.new.conn None c.new.result _ _ _ _
    (become g.S.Store c.args.conn.now c.list.new.conn _ None _ _ c.in_default.is c.in_ok-list.ensures)
    (λ facts none. c.new.ensures.items ∙ sym (take_all c.args.most [] (omega arith)) ∙ ap (reads_from c.args.from c.args.most) none)

pub returns : goal.returns
returns g c =
    made g.S.Store c.args.conn.now c.list.new.conn (Some c.in-Some.list) c.spans_of.result _ _ _ (λ facts. IsUtf8 c.args.device.now × HasReadablePoints facts c.args.device.now)
    (become g.S.Store c.args.conn.now c.list.new.conn _ (Some c.in-Some.list) _ _ c.in-Some.is c.in_ok-list.ensures)
    (λ facts h. IfOk-weaker c.spans_of.result _ _ (λ v is. is ∙ ap (reads_from c.args.from c.args.most) h) c.spans_of.ensures.spans)
    (λ facts h. on_err c.spans_of.result (λ e why. subst (IsRowFault (IsUtf8 c.args.device.now × HasReadablePoints facts c.args.device.now)) (sym why) refl) c.spans_of.ensures.fault)
