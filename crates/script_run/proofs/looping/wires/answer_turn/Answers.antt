use Rattle.mb_device.proofs.StandInLemmas.Exchanging.{turned}
use Rattle.script_run.proofs.looping.wires.answer_turn.Goals as goal

pub returns-in-Ok-clause-carried_out : goal.returns-in-Ok-clause-carried_out
returns-in-Ok-clause-carried_out g c =
    turned c.args.server.now c.turn.new.self c.turn.result _ _ _ _ c.args.bank.now c.turn.new.bank c.turn.ensures.serving
    (λ over. (c.turn.ensures.over over).3) (λ faulted. (c.turn.ensures.faulted faulted).3)

pub returns-in_default-clause-carried_out : goal.returns-in_default-clause-carried_out
returns-in_default-clause-carried_out g c =
    turned c.args.server.now c.turn.new.self c.turn.result _ _ _ _ c.args.bank.now c.turn.new.bank c.turn.ensures.serving
    (λ over. (c.turn.ensures.over over).3) (λ faulted. (c.turn.ensures.faulted faulted).3)

pub returns-in_default-2-clause-carried_out : goal.returns-in_default-2-clause-carried_out
returns-in_default-2-clause-carried_out g c =
    turned c.args.server.now c.turn.new.self c.turn.result _ _ _ _ c.args.bank.now c.turn.new.bank c.turn.ensures.serving
    (λ over. (c.turn.ensures.over over).3) (λ faulted. (c.turn.ensures.faulted faulted).3)
