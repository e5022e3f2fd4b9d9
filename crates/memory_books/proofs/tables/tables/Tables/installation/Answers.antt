use Rattle.std.proofs.Common.{◌≡◌, ◌∙◌, Some, sym, ap}
use Rattle.std.specs.List.{Contains}
use Rattle.std.specs.Option.{option_map}
use Rattle.office_events.specs.declared.facts.Opening.{Opening}
use Rattle.office_books.specs.Facts.{same, openings_in, installed_at}
use Rattle.office_books.specs.Meters.{installation_of}
use Rattle.office_books.proofs.Journals.{found}
use Rattle.memory_books.proofs.TablesLemmas.Known.{found_is_there}
use Rattle.memory_books.proofs.tables.tables.Tables.installation.Goals as goal

pub returns-in-Some-clause-found : goal.returns-in-Some-clause-found
returns-in-Some-clause-found c = λ known facts_are lawful whole.
    let is : Some c.in-Some.opening ≡ installed_at known c.args.register.now = c.in-Some.ensures known facts_are whole in
    let there : Contains (openings_in known) c.in-Some.opening =
    found_is_there (λ (o : Opening). same o.register c.args.register.now) (openings_in known) c.in-Some.opening (sym is) in
    c.meter.ensures.found known lawful whole
    ∙ ap (option_map (installation_of known)) (found known c.in-Some.opening lawful there ∙ is)
