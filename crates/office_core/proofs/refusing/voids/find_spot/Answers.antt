use Rattle.std.proofs.Common.{◌≤◌, List, ℕ, Option, sym, subst, ◌∙◌, arith}
use Rattle.office_books.specs.Meters.{entry_at}
use Rattle.office_core.specs.Refusing.Spots.{IsAt, IsJudgedAs}
use Rattle.office_core.specs.declared.refusing.voids.Spot.TheVariants as spot
use Rattle.office_core.proofs.RefusingLemmas.Places.{nothing_at_0, opening_at_1, nothing_at, entry_at_place}
use Rattle.office_core.proofs.refusing.voids.find_spot.Goals as goal

pub returns-then-place-eq0-clause-found : goal.returns-then-place-eq0-clause-found
returns-then-place-eq0-clause-found g c known holds clean = nothing_at_0 known c.args.given.now c.args.place c.if-place-eq0.true

pub returns-in-Some-2-clause-found : goal.returns-in-Some-2-clause-found
returns-in-Some-2-clause-found g c known holds clean =
    subst (λ (given : Option (List ℕ)). IsAt known given c.args.place spot.Opening) (sym c.in-Some.is)
    (opening_at_1 known _ c.args.place c.in-Some-2.field-0 c.if-place-eq1.true (sym (c.in_ok-meter.ensures.found known holds clean) ∙ c.in-Some-2.is))

pub returns-in-None-2-clause-found : goal.returns-in-None-2-clause-found
returns-in-None-2-clause-found g c known holds clean =
    let high : 2 ≤ c.args.place = omega (arith, c.if-place-eq0.false, c.if-place-eq1.false) in
    subst (λ (given : Option (List ℕ)). IsAt known given c.args.place spot.Nothing) (sym c.in-Some.is)
    (nothing_at known _ c.args.place high (subst (IsJudgedAs (entry_at known _ c.args.place)) c.in-None-2.is (c.in_ok-entry_of.ensures.found known holds clean)))

pub returns-in-Some-3-clause-found : goal.returns-in-Some-3-clause-found
returns-in-Some-3-clause-found g c known holds clean =
    let high : 2 ≤ c.args.place = omega (arith, c.if-place-eq0.false, c.if-place-eq1.false) in
    subst (λ (given : Option (List ℕ)). IsAt known given c.args.place (spot.Entry c.in-Some-3.entry)) (sym c.in-Some.is)
    (entry_at_place known _ c.args.place c.in-Some-3.entry high (subst (IsJudgedAs (entry_at known _ c.args.place)) c.in-Some-3.is (c.in_ok-entry_of.ensures.found known holds clean)))
