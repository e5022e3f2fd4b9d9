use Rattle.std.proofs.Common.{inl}
use Rattle.office_http.specs.Messages.Hosts.{texts}
use Rattle.office_running.proofs.Going.{lasts_both, lasts_run, ran_opened}
use Rattle.office_running.proofs.office.run_office.Goals as goal

pub returns-in-Ok-clause-books : goal.returns-in-Ok-clause-books
returns-in-Ok-clause-books g c = λ past stands clean.
    ran_opened (texts c.args.settings.now.host_names.now) g.B.Books.ledger past _ _ _ c.in-Ok.office c.run_open-end.new.office _ c.into_books.ensures
    (c.in-Ok.ensures.opened past (c.lacks_in-lacks.ensures.stands past (c.left_in-left.ensures.stands past stands))) c.run_open-end.ensures clean

pub returns-in-Ok-clause-lasts : goal.returns-in-Ok-clause-lasts
returns-in-Ok-clause-lasts g c =
    lasts_both _ _ _ c.left_in-left.ensures.lasts
    (lasts_both _ _ _ c.lacks_in-lacks.ensures.lasts
    (lasts_both _ _ _ c.in-Ok.ensures.lasts
    (lasts_run (texts c.args.settings.now.host_names.now) g.B.Books.ledger _ _ c.in-Ok.office c.run_open-end.new.office _ c.into_books.ensures c.run_open-end.ensures)))

pub returns-in-Err-clause-books : goal.returns-in-Err-clause-books
returns-in-Err-clause-books g c = λ past stands clean.
    inl (c.in-Err.ensures.refused past (c.lacks_in-lacks.ensures.stands past (c.left_in-left.ensures.stands past stands)) clean).refused.books

pub returns-in-Err-clause-lasts : goal.returns-in-Err-clause-lasts
returns-in-Err-clause-lasts g c =
    lasts_both _ _ _ c.left_in-left.ensures.lasts (lasts_both _ _ _ c.lacks_in-lacks.ensures.lasts c.in-Err.ensures.lasts)
