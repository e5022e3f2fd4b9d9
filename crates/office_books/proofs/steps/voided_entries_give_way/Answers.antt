use Rattle.office_books.proofs.GivingWay.{voided_entries_give_way as lemma}
use Rattle.office_books.proofs.steps.voided_entries_give_way.Goals as goal

pub returns : goal.returns
returns c = lemma c.voids_change_two_rows.ensures
