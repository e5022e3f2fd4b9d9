use Rattle.office_http.specs.Messages.Hosts.{texts}
use Rattle.office_running.proofs.Going.{first_begins, goes_none, next_begins, turn_ends}
use Rattle.office_running.proofs.event_loop.Running.turns.Goals as goal

pub loop-turn-init : goal.loop-turn-init
loop-turn-init g c = record {
  begins = first_begins (texts c.args.names.now) g.B.Books.ledger _ _ _ _ c.args.office.now c.read_clock-moment.ensures.reads;
  is_latest = c.read_clock-moment.ensures.moment;
}

pub returns-in_err-is_over : goal.returns-in_err-is_over
returns-in_err-is_over g c =
    turn_ends (texts c.args.names.now) g.B.Books.ledger _ _ _ _ _ c.args.office.now c.loop-turn.office c.turn.new.office c.loop-turn.invariant.is_latest
    c.loop-turn.invariant.begins c.turn.ensures

pub returns-then-is_over : goal.returns-then-is_over
returns-then-is_over g c =
    turn_ends (texts c.args.names.now) g.B.Books.ledger _ _ _ _ _ c.args.office.now c.loop-turn.office c.turn.new.office c.loop-turn.invariant.is_latest
    c.loop-turn.invariant.begins c.turn.ensures

pub loop-turn-preserved : goal.loop-turn-preserved
loop-turn-preserved g c =
    let names = texts c.args.names.now in
    record {
      begins = next_begins names g.B.Books.ledger _ _ _ _ _ _ _ c.args.office.now c.loop-turn.office c.turn.new.office c.end_turn-moment.new.office
          c.loop-turn.invariant.is_latest c.loop-turn.invariant.begins c.turn.ensures (c.end_turn-moment.ensures.goes names) c.end_turn-moment.ensures.reads;
      is_latest = c.end_turn-moment.ensures.moment;
    }

pub returns : goal.returns
returns g c =
    let names = texts c.args.names.now in
    turn_ends names g.B.Books.ledger _ _ _ _ _ c.args.office.now c.loop-turn.office c.loop-turn.office c.loop-turn.invariant.is_latest
    c.loop-turn.invariant.begins (goes_none names c.loop-turn.moment g.B.Books.ledger c.loop-turn.office)
