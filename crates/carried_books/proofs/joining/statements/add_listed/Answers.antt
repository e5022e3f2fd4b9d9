use Rattle.std.proofs.Common.{List, [], ◌∷◌, ◌++◌, Ok, None, map, take, refl, sym, ap, subst, ◌∙◌}
use Rattle.std.specs.Prelude.{Contains}
use Rattle.std.proofs.lemmas.List.{take_more}
use Rattle.std.proofs.lemmas.List.Elements.{All-contains_itself}
use Rattle.office_events.specs.declared.questions.Installation.{Installation}
use Rattle.office_books.proofs.Handing.{takes_more}
use Rattle.office_books.proofs.Moving.{consults_then, passes_well}
use Rattle.carried_books.specs.Joining.Meters.{AddMeters, AddsMeter}
use Rattle.carried_books.specs.Joining.Statements.{ReportsAll, stands_of}
use Rattle.carried_books.proofs.JoiningLemmas.Meters.{apart_among, joined_one}
use Rattle.carried_books.proofs.JoiningLemmas.Statements.{reported_all, reported_apart, reported_none}
use Rattle.carried_books.proofs.joining.statements.add_listed.Goals as goal

pub loop-row-init : goal.loop-row-init
loop-row-init g c = record {
  joins = refl;
  reports = λ facts holds clean. reported_none c.args.zone.now c.args.range.now facts c.args.known.now.items;
  reads = record { goes = record { clean = λ is. is; faults = refl; zone = refl }; keeps = record { facts = λ known holds. holds; left = λ left may. may } };
}

pub returns-then-is_some-clause-joins : goal.returns-then-is_some-clause-joins
returns-then-is_some-clause-joins g c =
    let listed = c.args.listed.now in
    let i = c.loop-row.row-index in
    let row = c.row-item.result in
    let after = map stands_of c.add_row.new.known.items in
    apart_among (map stands_of c.args.known.now.items) listed (map stands_of c.loop-row.known.items) after after row (take i listed) c.in_ok-apart.apart
    (sym c.is_some.ensures ∙ c.if-is_some.true) i refl c.loop-row.invariant.joins
    (subst (Contains listed) (sym c.row-item.is) (All-contains_itself listed i row c.loop-row-test.true)) c.in_ok-apart.ensures.joins

pub returns-then-is_some-clause-reports : goal.returns-then-is_some-clause-reports
returns-then-is_some-clause-reports g c facts holds clean =
    reported_apart c.args.zone.now c.args.range.now facts c.args.listed.now c.args.known.now.items c.add_row.new.known.items c.in_ok-apart.apart
    (sym c.is_some.ensures ∙ c.if-is_some.true)

pub loop-row-preserved : goal.loop-row-preserved
loop-row-preserved g c =
    let ledger = g.B.Books.ledger in
    let a = ledger c.args.books.now in
    let b = ledger c.loop-row.books in
    let d = ledger c.add_row.new.books in
    let zone = c.args.zone.now in
    let range = c.args.range.now in
    let listed = c.args.listed.now in
    let i = c.loop-row.row-index in
    let row = c.row-item.result in
    let before = take i listed in
    let was = c.args.known.now.items in
    let had = c.loop-row.known.items in
    let has = c.add_row.new.known.items in
    let apart = c.in_ok-apart.apart in
    let joined = sym c.is_some.ensures ∙ c.if-is_some.false in
    let same = take_more listed i row c.loop-row-test.true ∙ ap (λ (r : Installation). before ++ r ∷ []) (sym c.row-item.is) in
    let reads = c.in_ok-apart.ensures.reads in
    record {
      joins = subst (λ (rows : List Installation). AddMeters (map stands_of was) rows (map stands_of has)) (sym same)
          (takes_more AddsMeter (map stands_of was) (map stands_of had) (map stands_of has) before row c.loop-row.invariant.joins
          (joined_one (map stands_of had) row (map stands_of has) apart joined c.in_ok-apart.ensures.joins));
      reports = λ facts holds clean.
          let mid = c.loop-row.invariant.reads.keeps.facts facts holds in
          subst (λ (rows : List Installation). ReportsAll zone range facts rows was has None) (sym same)
          (reported_all zone range facts before row was had has apart joined (c.loop-row.invariant.reports facts holds (reads.goes.clean clean))
          (c.in_ok-apart.ensures.reports facts mid clean));
      reads = consults_then a b d tt (Ok tt) c.loop-row.invariant.reads (record { goes = passes_well b d apart tt reads.goes; keeps = reads.keeps });
    }
