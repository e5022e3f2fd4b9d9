use Rattle.std.proofs.Common.{◌∙◌, List, reverse, refl, sym, ap, subst}
use Rattle.std.proofs.lemmas.List.{reverse-reverse}
use Rattle.std.proofs.lemmas.List.Sorted.{IsPermutation-refl}
use Rattle.office_events.specs.declared.facts.Fact.{Fact}
use Rattle.office_books.specs.Facts.{holds_in, voids_in, ended_in, replies_in}
use Rattle.office_books.specs.Same.{AreSame}
use Rattle.memory_books.proofs.list_books.ListBooksBooks.tables_are_known.Goals as goal

itself : (known : List Fact) → AreSame known known
itself known = record {
  devices = refl;
  lists = λ device. refl;
  registers = refl;
  openings = refl;
  entries = λ opening installed. refl;
  holds = IsPermutation-refl (holds_in known);
  voids = IsPermutation-refl (voids_in known);
  polls = refl;
  outcomes = IsPermutation-refl (ended_in known);
  replies = IsPermutation-refl (replies_in known);
}

pub returns : goal.returns
returns c = λ known others clean opened these those.
    subst (AreSame known)
    (sym (reverse-reverse known) ∙ ap reverse (sym these.facts ∙ those.facts) ∙ reverse-reverse others) (itself known)
