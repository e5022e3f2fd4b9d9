use Rattle.std.proofs.Common.{rules, ◌≡◌, Err, subst, sym, refl, arith}
use Rattle.mb_device.proofs.Streams.{turn_end, turn_failed, turn_fault, turn_idle}
use Rattle.mb_device.specs.Server.{Turns, around, standing_in}
use Rattle.mb_device.proofs.server.take_turn.Goals as goal

pub returns-in_err-answered-in-Ok-Bytes-clause-turns :
    goal.returns-in_err-answered-in-Ok-Bytes-clause-turns
returns-in_err-answered-in-Ok-Bytes-clause-turns g c =
    let buffered = c.args.reader.now.rest in
    let old = around (g.L.Link.remaining c.args.link.now) (g.L.Link.given c.args.link.now) c.args.bank.now in
    let mid = around (g.L.Link.remaining c.take.new.self) (g.L.Link.given c.take.new.self) c.args.bank.now in
    let new = around (g.L.Link.remaining c.answer_piece.new.link) (g.L.Link.given c.answer_piece.new.link) c.answer_piece.new.bank in
    let fault = c.in_err-answered-in-Ok-Bytes.field-0.0 in
    let is : c.from_residual.result ≡ Err fault = search rules in
    subst (λ x. Turns buffered c.args.sender.now x old new (standing_in x c.answer_piece.new.reader c.answer_piece.new.sender)) (sym is)
    (turn_fault fault c.args.sender.now buffered c.take.new.piece _ c.in-Ok-Bytes.field-0 c.in-Ok-Bytes.count old mid new c.requires.going c.in-Ok-Bytes.ensures.bytes c.in-Ok-Bytes.field-0-is (omega arith)
    c.answer_piece.ensures.remaining c.take.ensures.given refl c.in_err-answered-in-Ok-Bytes.ensures.answered c.in_err-answered-in-Ok-Bytes.ensures.reports)

pub returns-in-Ok-End-clause-turns : goal.returns-in-Ok-End-clause-turns
returns-in-Ok-End-clause-turns g c =
    turn_end c.args.reader.now.rest c.args.sender.now c.take.new.piece c.in-Ok-End.field-0 _ _ c.requires.buffered c.requires.going c.in-Ok-End.ensures.bytes c.in-Ok-End.field-0-is c.take.ensures.given refl

pub returns-in-Ok-Idle-clause-turns : goal.returns-in-Ok-Idle-clause-turns
returns-in-Ok-Idle-clause-turns g c =
    turn_idle c.args.reader.now.rest c.args.sender.now c.take.new.piece c.in-Ok-Idle.field-0 _ _ c.requires.buffered c.requires.going c.in-Ok-Idle.ensures.bytes c.in-Ok-Idle.field-0-is c.take.ensures.given refl

pub returns-in-Err-clause-turns : goal.returns-in-Err-clause-turns
returns-in-Err-clause-turns g c = turn_failed c.args.reader.now.rest c.args.sender.now _ _ c.requires.buffered c.in-Err.ensures.bytes c.take.ensures.given refl
