use Rattle.std.proofs.Common.{◌≡◌, ◌∙◌, sym, ap, subst, Option, None}
use Rattle.std.specs.Prelude.{IfOk}
use Rattle.office_events.specs.declared.facts.Opening.{Opening}
use Rattle.office_books.specs.Entries.{entries_at, first_from}
use Rattle.office_books.proofs.Listing.{none_listed}
use Rattle.office_books.specs.Facts.{opening_of}
use Rattle.memory_books.proofs.TablesLemmas.MetersComing.{none_at, stands_at}
use Rattle.memory_books.proofs.tables.meters.Meters.entries.Goals as goal

pub returns-in-Some : goal.returns-in-Some
returns-in-Some c = λ known are.
    let stands = stands_at known c.args.self.now c.args.name.now c.named-key.result c.in-Some.meter.now c.named-key.ensures c.in-Some.ensures.value are in
    subst (λ (o : Option Opening). IfOk c.entries.result (λ v. v.items ≡ first_from c.args.from c.args.most (entries_at known o))) (sym stands.there)
    (c.entries.ensures known stands.opening (record { row = stands.row; rows = stands.rows }))

pub returns-in-None : goal.returns-in-None
returns-in-None c = λ known are.
    let none : opening_of known c.args.name.now ≡ None =
    none_at known c.args.self.now c.args.name.now c.named-key.result c.named-key.ensures c.in-None.ensures.value are in
    c.new.ensures.items
    ∙ sym (ap (λ (o : Option Opening). first_from c.args.from c.args.most (entries_at known o)) none ∙ none_listed c.args.from c.args.most)
