use Rattle.std.proofs.Common.{[]}
use Rattle.std.specs.Option.{option_to_list}
use Rattle.office_books.specs.History.{facts_of, slots_of}
use Rattle.office_core.proofs.CommandsLemmas.Carried.{carries, lawful_fed, obeys_idle, keeps_all}
use Rattle.office_core.proofs.commands.effects.note.Goals as goal

pub returns : goal.returns
returns g c = record {
  carried = λ past e is_past keeps accepted in_e replies.
      let lawful =
      lawful_fed c.facts_are_lawful.ensures past c.args.moment e c.args.command.now (option_to_list c.args.reply) is_past accepted in_e replies c.puts_planned.ensures in
      carries (g.B.Books.ledger c.args.books.now) (g.B.Books.ledger c.record.new.books) c.args.slots.now past c.args.moment e c.args.command.now
      (option_to_list c.args.reply) c.record.result in_e replies
      (obeys_idle (g.B.Books.ledger c.args.books.now) (g.B.Books.ledger c.record.new.books) c.args.slots.now (slots_of past) [] (facts_of past) c.args.moment
      c.args.command.now (option_to_list c.args.reply) c.record.result c.requires.no_start c.requires.no_slot (keeps_all c.args.slots.now (slots_of past) c.record.result keeps)
      (c.record.ensures.books (slots_of past) (facts_of past) lawful) c.record.ensures.answer c.record.ensures.sent);
  goes = c.record.ensures.goes;
}
