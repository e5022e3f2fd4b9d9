use Rattle.std.proofs.Common.{◌≡◌, false, sym, ◌∙◌}
use Rattle.office_core.specs.Failing.{stops}
use Rattle.office_core.proofs.office.Office.feed.Goals as goal

pub returns-clause-stands : goal.returns-clause-stands
returns-clause-stands g c = λ past stands clean.
    let on = stands.goes c.if-self.false in
    let takes =
    c.process_event-answer.ensures.takes past (record {
      books = stands.books;
      goes = record { latest = on.latest; slots = on.slots };
      planned = c.prove_list_is_planned.ensures;
      notes = c.new.ensures.items;
      outgoing = c.none-self.ensures;
    }) clean in
    record {
      books = takes.books;
      goes = λ goes_on.
          let going : stops c.args.event.now c.process_event-answer.result ≡ false = sym c.stops-self.ensures ∙ goes_on in
          let next = takes.goes going in
          record { latest = next.latest; slots = next.slots };
    }
