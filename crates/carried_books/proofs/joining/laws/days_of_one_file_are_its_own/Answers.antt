use Rattle.carried_books.proofs.joining.laws.days_of_one_file_are_its_own.Goals as goal

pub returns : goal.returns
returns c = λ zone register facts range days. (
  λ over. record { all = over.all; are = over.are; asked = over.asked },
  λ within. record { all = within.all; are = within.are; asked = within.asked },
)
