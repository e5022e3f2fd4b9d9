use Rattle.office_running.proofs.Going.{goes_both, goes_none}
use Rattle.office_running.proofs.device_polls.Polling.hear_device.Goals as goal

pub loop-piece-init : goal.loop-piece-init
loop-piece-init g c = λ names. goes_none names c.args.now.moment g.B.Books.ledger c.args.office.now

pub loop-piece-preserved : goal.loop-piece-preserved
loop-piece-preserved g c = λ names.
    goes_both names c.args.now.moment g.B.Books.ledger c.args.office.now c.loop-piece.office c.hear_piece-is_over.new.office (c.loop-piece.invariant names) (c.hear_piece-is_over.ensures names)

pub returns-then-is_over : goal.returns-then-is_over
returns-then-is_over g c = λ names.
    goes_both names c.args.now.moment g.B.Books.ledger c.args.office.now c.loop-piece.office c.hear_piece-is_over.new.office (c.loop-piece.invariant names) (c.hear_piece-is_over.ensures names)
