use Rattle.std.proofs.Common.{Option, refl, sym, subst, ◌∙◌}
use Rattle.office_books.specs.Entries.{installations_of}
use Rattle.carried_books.specs.Joining.Statements.{AddsListed}
use Rattle.carried_books.specs.declared.joining.meters.Apart.{Apart}
use Rattle.carried_books.proofs.JoiningLemmas.Files.{is_lost}
use Rattle.carried_books.proofs.JoiningLemmas.Statements.{keeps_more, parts_so}
use Rattle.carried_books.proofs.joining.statements.JoinedStatementKeeping.add.Goals as goal

pub returns-then-both-clause-unjoined : goal.returns-then-both-clause-unjoined
returns-then-both-clause-unjoined g c known holds clean =
    is_lost c.args.self.now.is_recorded c.in_ok-is_recorded.is_recorded _ (sym c.both.ensures ∙ c.if-both.true) (c.in_ok-is_recorded.ensures.found known holds clean)

pub returns-in-Some-clause-unjoined : goal.returns-in-Some-clause-unjoined
returns-in-Some-clause-unjoined g c known holds clean =
    let old = c.args.self.now in
    let register = c.args.register.now in
    let adds = subst (λ (apart : Option Apart). AddsListed old.zone c.args.range known (installations_of known register) old.meters.items c.add_meters.new.known.items apart)
    c.in-Some.is (c.in_ok-apart.ensures.adds known (c.in_ok-is_recorded.ensures.reads.keeps.facts known holds) clean) in
    parts_so register known old c.add_meters.new.known.items old.zone c.args.range c.in-Some.apart adds

pub returns-in-None-clause-joins : goal.returns-in-None-clause-joins
returns-in-None-clause-joins g c zone known holds clean =
    let old = c.args.self.now in
    let register = c.args.register.now in
    let mid_clean = c.in_ok-apart.ensures.reads.goes.clean clean in
    let adds = subst (λ (apart : Option Apart). AddsListed old.zone c.args.range known (installations_of known register) old.meters.items c.add_meters.new.known.items apart)
    c.in-None.is (c.in_ok-apart.ensures.adds known (c.in_ok-is_recorded.ensures.reads.keeps.facts known holds) clean) in
    keeps_more zone c.args.range register known old _ c.in_ok-is_recorded.is_recorded (sym c.both.ensures ∙ c.if-both.false)
    (c.in_ok-is_recorded.ensures.found known holds mid_clean) refl refl adds.1
