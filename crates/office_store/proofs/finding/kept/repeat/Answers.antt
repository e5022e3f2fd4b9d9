use Rattle.std.proofs.Common.{Some, None, ap, ◌∙◌}
use Rattle.office_books.specs.Repeats.{repeat_of}
use Rattle.office_store.proofs.FindingLemmas.Looking.{seen_alone}
use Rattle.office_store.proofs.FindingLemmas.Found.{answered, become}
use Rattle.office_store.proofs.FindingLemmas.Replies.{no_repeat, this_repeat, no_repeat_past}
use Rattle.office_store.proofs.finding.kept.repeat.Goals as goal

pub returns-then-number-gt-MAX_REQUEST : goal.returns-then-number-gt-MAX_REQUEST
returns-then-number-gt-MAX_REQUEST g c =
    seen_alone g.S.Store c.args.conn.now c.check_open.new.conn (record { mode = c.in_ok-check_open.ensures.autocommit; opened = c.in_ok-check_open.ensures.opened; kept = c.in_ok-check_open.ensures.kept; survives = c.in_ok-check_open.ensures.survives })
    None _ _ (λ facts lawful. no_repeat_past facts c.args.caller.now c.args.number c.args.request.now lawful c.if-number-gt-MAX_REQUEST.true)

pub returns-in-None : goal.returns-in-None
returns-in-None g c =
    answered g.S.Store c.args.conn.now c.row_of.new.conn None None _ _ _ _ (become g.S.Store c.args.conn.now c.row_of.new.conn _ None _ _ c.in-None.is c.in_ok-row_of.ensures)
    (λ facts h. no_repeat facts c.in_ok-caller.caller.now c.args.number c.args.request.now h ∙ ap (λ caller. repeat_of facts caller c.args.number c.args.request.now) c.in_ok-caller.ensures.text)

pub returns-in-Some : goal.returns-in-Some
returns-in-Some g c =
    answered g.S.Store c.args.conn.now c.row_of.new.conn (Some c.in-Some.kept) (Some c.convert_repeat.result) _ _ _ _ (become g.S.Store c.args.conn.now c.row_of.new.conn _ (Some c.in-Some.kept) _ _ c.in-Some.is c.in_ok-row_of.ensures)
    (λ facts h.
    ap Some c.convert_repeat.ensures
    ∙ (this_repeat facts c.in_ok-caller.caller.now c.args.number c.args.request.now c.in-Some.kept h ∙ ap (λ caller. repeat_of facts caller c.args.number c.args.request.now) c.in_ok-caller.ensures.text))
