use Rattle.office_books.proofs.Journals.{meters_are_kept as lemma}
use Rattle.office_books.proofs.laws.meters_are_kept.Goals as goal

pub returns : goal.returns
returns c = lemma c.journals_balance.ensures c.journals_are_kept.ensures c.interval_rows_are_accounts.ensures c.interval_rows_add_up.ensures
