use Rattle.std.specs.Prelude.{Ok, Err}
use Rattle.script_run.specs.Looping.Lines.{CommandPrints, HappensPrints, IsBytes, PlainPrints}
use Rattle.script_run.proofs.LoopingLemmas.Breaking.{begins_as, breaks_line}
use Rattle.script_run.proofs.LoopingLemmas.Carrying.{as_command, as_happens, happens_begun, happens_connected, out_as, plain, plain_begun, plain_carried}
use Rattle.script_run.proofs.looping.lines.run_event.Goals as goal

pub returns-in_ok-connect-in-Connected : goal.returns-in_ok-connect-in-Connected
returns-in_ok-connect-in-Connected g c = λ past stands.
    happens_connected c.args.at c.args.event.now _ past _ _ _ _ _ _ c.in-Connected.is (c.in_ok-connect-in-Connected.ensures past stands)

pub returns-in_ok-run_command-in-Command : goal.returns-in_ok-run_command-in-Command
returns-in_ok-run_command-in-Command g c = λ past stands.
    out_as (CommandPrints c.round_of.result c.args.at c.args.event.now) (HappensPrints c.args.at c.args.event.now) past _ _
    (as_command c.args.at c.args.event.now _ c.round_of.result c.in-Command.is c.round_of.ensures)
    (c.in_ok-run_command-in-Command.ensures past stands)

pub returns-in_ok-leave-in-Gone : goal.returns-in_ok-leave-in-Gone
returns-in_ok-leave-in-Gone g c = λ past stands.
    let e = c.args.event.now in
    out_as (PlainPrints c.args.at e) (HappensPrints c.args.at e) past _ _
    (as_happens c.args.at e _ c.in-Gone.is (λ now printed next prints. prints))
    (plain_carried c.args.at e past c.args.run.now.office _ c.args.run.now.bank c.args.run.now.connected (g.W.Write.contents c.args.output.now) _
    (c.in_ok-leave-in-Gone.ensures past stands))

pub returns-in_ok-feed-in-Tick : goal.returns-in_ok-feed-in-Tick
returns-in_ok-feed-in-Tick g c = λ past stands.
    let e = c.args.event.now in
    out_as (PlainPrints c.args.at e) (HappensPrints c.args.at e) past _ _
    (as_happens c.args.at e _ c.in-Tick.is (λ now printed next prints. prints))
    (plain (Ok c.in_ok-feed-in-Tick.field-0) c.args.at e c.args.run.now.office _ c.args.run.now.bank c.args.run.now.connected
    (g.W.Write.contents c.args.output.now) _ c.in_ok-feed-in-Tick.ensures past stands)

pub returns-in_ok-feed-in-Asked : goal.returns-in_ok-feed-in-Asked
returns-in_ok-feed-in-Asked g c = λ past stands.
    let e = c.args.event.now in
    out_as (PlainPrints c.args.at e) (HappensPrints c.args.at e) past _ _
    (as_happens c.args.at e _ c.in-Asked.is (λ now printed next prints. prints))
    (plain (Ok c.in_ok-feed-in-Asked.field-0) c.args.at e c.args.run.now.office _ c.args.run.now.bank c.args.run.now.connected
    (g.W.Write.contents c.args.output.now) _ c.in_ok-feed-in-Asked.ensures past stands)

pub returns-in_err-connect-in-Connected : goal.returns-in_err-connect-in-Connected
returns-in_err-connect-in-Connected g c =
    breaks_line c.from_residual.result (HappensPrints c.args.at c.args.event.now) (IsBytes c.args.event.now) _ _ c.from_residual.ensures.0
    (λ past stands.
    happens_begun c.args.at c.args.event.now _ past c.args.run.now.office c.args.run.now.bank c.args.run.now.connected _ _ c.in-Connected.is
    (c.in_err-connect-in-Connected.ensures past stands))

pub returns-in_err-run_command-in-Command : goal.returns-in_err-run_command-in-Command
returns-in_err-run_command-in-Command g c =
    breaks_line c.from_residual-in_err-run_command-in-Command.result (HappensPrints c.args.at c.args.event.now) (IsBytes c.args.event.now) _ _ c.from_residual-in_err-run_command-in-Command.ensures.0
    (λ past stands.
    begins_as _ _ _ _ (λ printed broken. (
      broken.1,
      as_command c.args.at c.args.event.now _ c.round_of.result c.in-Command.is c.round_of.ensures _ printed broken.1 broken.2,
    ))
    (c.in_err-run_command-in-Command.ensures past stands))

pub returns-in_err-leave-in-Gone : goal.returns-in_err-leave-in-Gone
returns-in_err-leave-in-Gone g c =
    breaks_line c.from_residual-in_err-leave-in-Gone.result (HappensPrints c.args.at c.args.event.now) (IsBytes c.args.event.now) _ _ c.from_residual-in_err-leave-in-Gone.ensures.0
    (λ past stands.
    let e = c.args.event.now in
    begins_as _ _ _ _ (λ printed broken. (broken.0, as_happens c.args.at e _ c.in-Gone.is (λ now printed next prints. prints) _ printed broken.0 broken.1))
    (plain_begun c.args.at e past c.args.run.now.office c.args.run.now.bank c.args.run.now.connected _ _ (c.in_err-leave-in-Gone.ensures past stands)))

pub returns-in_err-feed-in-Tick : goal.returns-in_err-feed-in-Tick
returns-in_err-feed-in-Tick g c =
    breaks_line c.from_residual-in_err-feed-in-Tick.result (HappensPrints c.args.at c.args.event.now) (IsBytes c.args.event.now) _ _ c.from_residual-in_err-feed-in-Tick.ensures.0
    (λ past stands.
    let e = c.args.event.now in
    begins_as _ _ _ _ (λ printed broken. (broken.1, as_happens c.args.at e _ c.in-Tick.is (λ now printed next prints. prints) _ printed broken.1 broken.2))
    (plain (Err c.in_err-feed-in-Tick.field-0.0) c.args.at e c.args.run.now.office _ c.args.run.now.bank c.args.run.now.connected
    (g.W.Write.contents c.args.output.now) _ c.in_err-feed-in-Tick.ensures past stands))

pub returns-in_err-feed-in-Asked : goal.returns-in_err-feed-in-Asked
returns-in_err-feed-in-Asked g c =
    breaks_line c.from_residual-in_err-feed-in-Asked.result (HappensPrints c.args.at c.args.event.now) (IsBytes c.args.event.now) _ _ c.from_residual-in_err-feed-in-Asked.ensures.0
    (λ past stands.
    let e = c.args.event.now in
    begins_as _ _ _ _ (λ printed broken. (broken.1, as_happens c.args.at e _ c.in-Asked.is (λ now printed next prints. prints) _ printed broken.1 broken.2))
    (plain (Err c.in_err-feed-in-Asked.field-0.0) c.args.at e c.args.run.now.office _ c.args.run.now.bank c.args.run.now.connected
    (g.W.Write.contents c.args.output.now) _ c.in_err-feed-in-Asked.ensures past stands))
