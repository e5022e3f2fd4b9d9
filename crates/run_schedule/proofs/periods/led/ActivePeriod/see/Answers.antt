use Rattle.std.proofs.Common.{◌++◌, ◌∷◌, [], List, ℕ, sym, ◌∙◌, subst}
use Rattle.run_schedule.specs.Periods.Led.{IsLast}
use Rattle.run_schedule.proofs.LedLemmas.{keeps_led, keeps_untold, leads}
use Rattle.run_schedule.proofs.periods.led.ActivePeriod.see.Goals as goal

pub returns-in-None-clause-seen : goal.returns-in-None-clause-seen
returns-in-None-clause-seen c =
    keeps_untold c.args.file.now c.args.length c.args.name.now c.args.self.now.text c.in-None.ensures

pub returns-then-not-gives_way_to-clause-seen : goal.returns-then-not-gives_way_to-clause-seen
returns-then-not-gives_way_to-clause-seen c =
    keeps_led c.args.file.now c.args.length c.args.name.now c.in-Some.text.now c.args.self.now.text c.in-Some.ensures
    (sym c.gives_way_to.ensures ∙ c.if-not-gives_way_to.true)

pub returns-in_ok-from_slice-in-Some-clause-seen : goal.returns-in_ok-from_slice-in-Some-clause-seen
returns-in_ok-from_slice-in-Some-clause-seen c = λ names old.
    let led = leads c.args.file.now c.args.length c.args.name.now c.in-Some.text.now c.args.self.now.text c.in-Some.ensures
    (sym c.gives_way_to.ensures ∙ c.if-not-gives_way_to.false) names old in
    subst (λ (text : List ℕ). IsLast c.args.file.now c.args.length (names ++ c.args.name.now ∷ []) text) (sym c.in_ok-from_slice-in-Some.ensures.items) led
