use Rattle.std.proofs.Common.{◌-◌, [], ◌∷◌, take, sym, ap, ◌∙◌, append-nil}
use Rattle.std.proofs.lemmas.Result.{IfOk-weaker}
use Rattle.carried_books.proofs.JoiningLemmas.KeptMeters.{reports_both}
use Rattle.carried_books.proofs.JoiningLemmas.Statements.{goes_on_reported, stands_first, stands_on, stands_otherwise, reported_from}
use Rattle.carried_books.proofs.joining.statements.add_row.Goals as goal

pub returns-in_default-clause-joins : goal.returns-in_default-clause-joins
returns-in_default-clause-joins g c =
    let none = c.pop.ensures.rest ∙ ap (λ n. take (n - 1) c.args.known.now.items) (rw c.in_default.is at c.pop.ensures.cases).0 in
    IfOk-weaker c.add_next.result _ _
    (λ apart adds. stands_first c.args.row.now c.args.known.now.items c.pop.new.self.items c.add_next.new.known.items apart (rw c.in_default.is at c.pop.ensures.items) none adds)
    c.add_next.ensures.joins

pub returns-in_default-clause-reports : goal.returns-in_default-clause-reports
returns-in_default-clause-reports g c facts holds clean =
    IfOk-weaker c.add_next.result _ _
    (λ apart reports. reported_from c.args.zone.now c.args.range.now facts (c.args.row.now ∷ []) c.args.known.now.items c.pop.new.self.items c.add_next.new.known.items apart
    ((rw c.in_default.is at c.pop.ensures.items) ∙ append-nil c.pop.new.self.items) reports)
    (c.add_next.ensures.reports facts holds clean)

pub returns-then-goes_on-clause-joins : goal.returns-then-goes_on-clause-joins
returns-then-goes_on-clause-joins g c =
    stands_on c.args.row.now c.in-Some.last c.with_part.result c.pop.new.self.items c.args.known.now.items c.push.new.self.items
    (rw c.in-Some.is at c.pop.ensures.items) (c.goes_on.ensures.0 c.if-goes_on.true) c.in_ok-push.ensures.items (ap (λ kept. kept.stands) c.with_part.ensures)

pub returns-then-goes_on-clause-reports : goal.returns-then-goes_on-clause-reports
returns-then-goes_on-clause-reports g c facts holds clean =
    let zone = c.args.zone.now in
    let range = c.args.range.now in
    let row = c.args.row.now in
    let last = c.in-Some.last in
    goes_on_reported zone range facts row c.pop.new.self.items last c.with_part.result c.args.known.now.items c.push.new.self.items
    (rw c.in-Some.is at c.pop.ensures.items) (c.goes_on.ensures.0 c.if-goes_on.true)
    (λ m reported. reports_both zone range facts row last c.with_part.result c.in_ok-part.part m reported c.with_part.ensures (c.in_ok-part.ensures.found facts holds clean))
    c.in_ok-push.ensures.items

pub returns-clause-joins : goal.returns-clause-joins
returns-clause-joins g c =
    let last = c.in-Some.last in
    IfOk-weaker c.add_next-2.result _ _
    (λ apart adds. stands_otherwise c.args.row.now last c.pop.new.self.items c.args.known.now.items c.push-2.new.self.items c.add_next-2.new.known.items apart
    (rw c.in-Some.is at c.pop.ensures.items) (λ goes. let e = sym c.if-goes_on.false ∙ c.goes_on.ensures.1 goes in cc e) c.in_ok-push-2.ensures.items adds)
    c.add_next-2.ensures.joins

pub returns-clause-reports : goal.returns-clause-reports
returns-clause-reports g c facts holds clean =
    IfOk-weaker c.add_next-2.result _ _
    (λ apart reports. reported_from c.args.zone.now c.args.range.now facts (c.args.row.now ∷ []) c.args.known.now.items c.push-2.new.self.items c.add_next-2.new.known.items apart
    ((rw c.in-Some.is at c.pop.ensures.items) ∙ sym c.in_ok-push-2.ensures.items) reports)
    (c.add_next-2.ensures.reports facts holds clean)
