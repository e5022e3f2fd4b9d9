use Rattle.office_books.proofs.Stepping.{other_meters_stay as lemma}
use Rattle.office_books.proofs.steps.other_meters_stay.Goals as goal

pub returns : goal.returns
returns c = lemma
