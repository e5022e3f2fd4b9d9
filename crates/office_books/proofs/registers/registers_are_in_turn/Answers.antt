use Rattle.office_books.proofs.RegisterRows.{registers_are_in_turn as lemma}
use Rattle.office_books.proofs.registers.registers_are_in_turn.Goals as goal

pub returns : goal.returns
returns c =
    lemma
    (record {
      kept = c.journals_are_kept.ensures;
      accounts = c.interval_rows_are_accounts.ensures;
      sums = c.interval_rows_add_up.ensures;
      within = c.rows_lie_within.ensures;
      no_further = c.voids_go_no_further.ensures;
    })
