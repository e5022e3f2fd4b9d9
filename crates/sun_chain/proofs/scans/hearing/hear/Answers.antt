use Rattle.std.proofs.Common.{◌≡◌, Err, refl, ap, arith, ◌∙◌}
use Rattle.sun_chain.specs.declared.scans.fault.ScanFault.TheVariants.{Garbled}
use Rattle.std.proofs.KnownBytes.{Keeps-refl, Keeps-trans}
use Rattle.sun_chain.specs.Scanning.Answers.{ask_of}
use Rattle.sun_chain.proofs.ScanLemmas.Risen.{grows_begun, grows_more, risen_most}
use Rattle.sun_chain.proofs.ScanLemmas.Settles.{garbles_both, waits_answer, waits_begun, waits_end, waits_idle, waits_more}
use Rattle.sun_chain.proofs.scans.hearing.hear.Goals as goal

pub loop-turn-init : goal.loop-turn-init
loop-turn-init g c = record {
  waits = waits_begun (ask_of c.args.attempt.now) (g.L.Link.remaining c.args.link.now) c.args.reader.now.rest c.requires;
  given = Keeps-refl (g.L.Link.given c.args.link.now);
  failures = refl;
  ends = refl;
  takes = omega arith;
  grows = grows_begun (g.L.Link.taken c.args.link.now);
}

pub hear_turn-requires : goal.hear_turn-requires
hear_turn-requires g c = c.loop-turn.invariant.waits.hears.is_open

pub loop-turn-preserved : goal.loop-turn-preserved
loop-turn-preserved g c =
    let before = c.loop-turn.invariant in
    let heard = rw c.in-Ok-More.field-0-is at c.in-Ok-More.ensures.heard in
    record {
      waits = waits_more (ask_of c.args.attempt.now) _ _ _ _ _ _ before.waits heard;
      given = Keeps-trans _ _ _ before.given c.in-Ok-More.ensures.given;
      failures = c.in-Ok-More.ensures.failures ∙ before.failures;
      ends = c.in-Ok-More.ensures.ends ∙ before.ends;
      takes = omega (arith, before.takes, risen_most _ _ c.in-Ok-More.ensures.takes);
      grows = grows_more _ _ _ c.loop-turn._turn before.grows c.in-Ok-More.ensures.takes;
    }

pub returns-in-Ok-Settled-clause-heard : goal.returns-in-Ok-Settled-clause-heard
returns-in-Ok-Settled-clause-heard g c =
    waits_answer (ask_of c.args.attempt.now) _ _ _ _ _ _ c.in-Ok-Settled.answer c.loop-turn.invariant.waits (rw c.in-Ok-Settled.field-0-is at c.in-Ok-Settled.ensures.heard)

pub returns-in-Ok-Idle-clause-heard : goal.returns-in-Ok-Idle-clause-heard
returns-in-Ok-Idle-clause-heard g c =
    waits_idle (ask_of c.args.attempt.now) _ _ _ _ _ _ c.loop-turn.invariant.waits (rw c.in-Ok-Idle.field-0-is at c.in-Ok-Idle.ensures.heard)

pub returns-in-Err-clause-garbled : goal.returns-in-Err-clause-garbled
returns-in-Err-clause-garbled g c = λ garbled.
    let is : c.in-Err.fault ≡ Garbled = cc in
    garbles_both _ _ _ _ _ c.loop-turn.invariant.waits.came c.loop-turn.invariant.waits.hears (c.in-Err.ensures.garbled (ap Err is))

pub returns-clause-heard : goal.returns-clause-heard
returns-clause-heard g c = waits_end (ask_of c.args.attempt.now) _ _ _ _ c.loop-turn.invariant.waits
