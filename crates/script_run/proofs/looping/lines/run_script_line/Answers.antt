use Rattle.script_run.specs.Looping.Lines.{AlikePrints, SaidPrints, SaysBytes}
use Rattle.script_run.proofs.LoopingLemmas.Breaking.{begins_as, breaks_line}
use Rattle.script_run.proofs.LoopingLemmas.Carrying.{as_alike, out_as}
use Rattle.script_run.proofs.looping.lines.run_script_line.Goals as goal

pub returns-in_ok-execute_as_script-in-List : goal.returns-in_ok-execute_as_script-in-List
returns-in_ok-execute_as_script-in-List g c = λ past stands.
    out_as (AlikePrints c.args.said) (SaidPrints c.args.said) past _ _ (as_alike c.args.said _ c.in-List.is (λ now printed next prints. prints))
    (c.in_ok-execute_as_script-in-List.ensures past stands)

pub returns-in_ok-execute_as_script-in-Meter : goal.returns-in_ok-execute_as_script-in-Meter
returns-in_ok-execute_as_script-in-Meter g c = λ past stands.
    out_as (AlikePrints c.args.said) (SaidPrints c.args.said) past _ _ (as_alike c.args.said _ c.in-Meter.is (λ now printed next prints. prints))
    (c.in_ok-execute_as_script-in-Meter.ensures past stands)

pub returns-in_ok-execute_as_script-in-Intervals : goal.returns-in_ok-execute_as_script-in-Intervals
returns-in_ok-execute_as_script-in-Intervals g c = λ past stands.
    out_as (AlikePrints c.args.said) (SaidPrints c.args.said) past _ _ (as_alike c.args.said _ c.in-Intervals.is (λ now printed next prints. prints))
    (c.in_ok-execute_as_script-in-Intervals.ensures past stands)

pub returns-in_ok-execute_as_script-in-Days : goal.returns-in_ok-execute_as_script-in-Days
returns-in_ok-execute_as_script-in-Days g c = λ past stands.
    out_as (AlikePrints c.args.said) (SaidPrints c.args.said) past _ _ (as_alike c.args.said _ c.in-Days.is (λ now printed next prints. prints))
    (c.in_ok-execute_as_script-in-Days.ensures past stands)

pub returns-in_ok-execute_as_script-in-Poll : goal.returns-in_ok-execute_as_script-in-Poll
returns-in_ok-execute_as_script-in-Poll g c = λ past stands.
    out_as (AlikePrints c.args.said) (SaidPrints c.args.said) past _ _ (as_alike c.args.said _ c.in-Poll.is (λ now printed next prints. prints))
    (c.in_ok-execute_as_script-in-Poll.ensures past stands)

pub returns-in_err-execute_as_script-in-List : goal.returns-in_err-execute_as_script-in-List
returns-in_err-execute_as_script-in-List g c =
    breaks_line c.from_residual.result (SaidPrints c.args.said) (SaysBytes c.args.said) _ _ c.from_residual.ensures.0
    (λ past stands.
    begins_as _ _ _ _ (λ printed broken. (broken.1, as_alike c.args.said _ c.in-List.is (λ now printed next prints. prints) _ printed broken.1 broken.2))
    (c.in_err-execute_as_script-in-List.ensures past stands))

pub returns-in_err-execute_as_script-in-Meter : goal.returns-in_err-execute_as_script-in-Meter
returns-in_err-execute_as_script-in-Meter g c =
    breaks_line c.from_residual-in_err-execute_as_script-in-Meter.result (SaidPrints c.args.said) (SaysBytes c.args.said) _ _ c.from_residual-in_err-execute_as_script-in-Meter.ensures.0
    (λ past stands.
    begins_as _ _ _ _ (λ printed broken. (broken.1, as_alike c.args.said _ c.in-Meter.is (λ now printed next prints. prints) _ printed broken.1 broken.2))
    (c.in_err-execute_as_script-in-Meter.ensures past stands))

pub returns-in_err-execute_as_script-in-Intervals : goal.returns-in_err-execute_as_script-in-Intervals
returns-in_err-execute_as_script-in-Intervals g c =
    breaks_line c.from_residual-in_err-execute_as_script-in-Intervals.result (SaidPrints c.args.said) (SaysBytes c.args.said) _ _ c.from_residual-in_err-execute_as_script-in-Intervals.ensures.0
    (λ past stands.
    begins_as _ _ _ _ (λ printed broken. (broken.1, as_alike c.args.said _ c.in-Intervals.is (λ now printed next prints. prints) _ printed broken.1 broken.2))
    (c.in_err-execute_as_script-in-Intervals.ensures past stands))

pub returns-in_err-execute_as_script-in-Days : goal.returns-in_err-execute_as_script-in-Days
returns-in_err-execute_as_script-in-Days g c =
    breaks_line c.from_residual-in_err-execute_as_script-in-Days.result (SaidPrints c.args.said) (SaysBytes c.args.said) _ _ c.from_residual-in_err-execute_as_script-in-Days.ensures.0
    (λ past stands.
    begins_as _ _ _ _ (λ printed broken. (broken.1, as_alike c.args.said _ c.in-Days.is (λ now printed next prints. prints) _ printed broken.1 broken.2))
    (c.in_err-execute_as_script-in-Days.ensures past stands))

pub returns-in_err-execute_as_script-in-Poll : goal.returns-in_err-execute_as_script-in-Poll
returns-in_err-execute_as_script-in-Poll g c =
    breaks_line c.from_residual-in_err-execute_as_script-in-Poll.result (SaidPrints c.args.said) (SaysBytes c.args.said) _ _ c.from_residual-in_err-execute_as_script-in-Poll.ensures.0
    (λ past stands.
    begins_as _ _ _ _ (λ printed broken. (broken.1, as_alike c.args.said _ c.in-Poll.is (λ now printed next prints. prints) _ printed broken.1 broken.2))
    (c.in_err-execute_as_script-in-Poll.ensures past stands))
