use Rattle.std.proofs.Common.{rules, ◌≡◌, ◌+◌, ◌-◌, ◌^◌, min, Bool, Err, refl, sym, ap, ◌∙◌, subst, arith}
use Rattle.mb_wire.specs.Links.{risen}
use Rattle.mb_device.proofs.Servings.{Served-more, Served-none, Serves-end, Serves-fault, Serves-used, counts_no_end, goes_on, has_not_failed, turn_is_no_end, turn_serves}
use Rattle.mb_device.specs.Server.{Serves, around}
use Rattle.mb_device.proofs.server.Server.serve.Goals as goal

pub loop-turn-init : goal.loop-turn-init
loop-turn-init g c =
    let serving = has_not_failed c.args.self.now c.has_failed.result c.is_over.result c.has_failed.ensures.failed c.if-has_failed.false c.is_over.ensures c.if-is_over.false in
    record {
      served = λ buffered course e. let is = c.has_failed.ensures.buffered buffered course e in Served-none buffered course _ c.args.self.now is.0 is.1 e;
      serving = serving;
      from_serving = serving;
      going = λ some. absurd (omega (arith, some));
      few = omega arith;
      failures = refl;
      ends = refl;
      takes = omega arith;
      all_takes = λ _. omega arith;
    }

pub loop-turn-preserved : goal.loop-turn-preserved
loop-turn-preserved g c =
    let so_far = c.loop-turn.invariant in
    let taken : g.L.Link.taken c.turn.new.link ≡ min (g.L.Link.taken c.loop-turn.link + 1) (2 ^ 64 - 1) =
    c.turn.ensures.takes ∙ ap (λ (b : Bool). risen b (g.L.Link.taken c.loop-turn.link)) so_far.serving in
    record {
      served = λ buffered course e. Served-more buffered course c.loop-turn.answered c.in_ok-turned.turned _ _ _ c.loop-turn.self c.turn.new.self (so_far.served buffered course e) so_far.serving c.in_ok-turned.ensures.serving;
      serving = turn_serves c.in_ok-turned.turned _ _ c.loop-turn.self c.turn.new.self so_far.serving c.in_ok-turned.ensures.serving c.if-turned.false;
      from_serving = so_far.from_serving;
      going = λ _. goes_on c.turn.result c.in_ok-turned.turned c.turn.new.self _ (c.turn.ensures.take so_far.serving) c.in_ok-turned.was c.if-turned.false;
      few = omega (arith, so_far.few, c.in_ok-turned.ensures.few);
      failures = c.in_ok-turned.ensures.failures ∙ so_far.failures;
      ends = counts_no_end c.turn.result c.in_ok-turned.turned c.turn.new.self _ _ c.turn.ensures.ends c.in_ok-turned.was c.if-turned.false ∙ so_far.ends;
      takes = omega (arith, taken, so_far.takes);
      all_takes = λ below. omega (arith, taken, so_far.all_takes (omega arith));
    }

pub returns-in_err-turned-clause-serving : goal.returns-in_err-turned-clause-serving
returns-in_err-turned-clause-serving g c = λ buffered course e.
    let fault = c.in_err-turned.field-0.0 in
    let is : c.from_residual.result ≡ Err fault = search rules in
    let old = around (g.L.Link.remaining c.args.link.now) (g.L.Link.given c.args.link.now) c.args.bank.now in
    let mid = around (g.L.Link.remaining c.loop-turn.link) (g.L.Link.given c.loop-turn.link) c.loop-turn.bank in
    let new = around (g.L.Link.remaining c.turn.new.link) (g.L.Link.given c.turn.new.link) c.turn.new.bank in
    subst (λ x. Serves buffered course x old new c.turn.new.self) (sym is)
    (Serves-fault fault buffered course c.loop-turn.answered old mid new c.loop-turn.self c.turn.new.self (c.loop-turn.invariant.served buffered course e) c.loop-turn.invariant.serving c.in_err-turned.ensures.serving)

pub returns-in_err-turned-clause-turns_used : goal.returns-in_err-turned-clause-turns_used
returns-in_err-turned-clause-turns_used g c = λ used below.
    let fault = c.in_err-turned.field-0.0 in
    let is : c.from_residual.result ≡ Err fault = search rules in
    absurd (turn_is_no_end fault _ _ c.loop-turn.self c.turn.new.self c.loop-turn.invariant.serving c.in_err-turned.ensures.serving (cc (is, used)))

pub returns-then-turned-clause-serving : goal.returns-then-turned-clause-serving
returns-then-turned-clause-serving g c = λ buffered course e.
    Serves-end buffered course c.loop-turn.answered c.in_ok-turned.turned _ _ _ c.loop-turn.self c.turn.new.self (c.loop-turn.invariant.served buffered course e) c.loop-turn.invariant.serving c.in_ok-turned.ensures.serving c.if-turned.true

pub returns-clause-serving : goal.returns-clause-serving
returns-clause-serving g c = λ buffered course e.
    subst (Serves buffered course _ _ _) (sym c.fail.ensures) (Serves-used buffered course c.loop-turn.answered _ _ c.loop-turn.self (c.loop-turn.invariant.served buffered course e) c.loop-turn.invariant.serving)
