use Rattle.std.specs.Option.{option_to_list}
use Rattle.office_books.specs.History.{facts_of, slots_of}
use Rattle.office_books.proofs.EndOnce.{all_agree}
use Rattle.office_core.proofs.SessionsLemmas.Moments.{before_event}
use Rattle.office_core.proofs.CommandsLemmas.Carried.{carries, lawful_fed}
use Rattle.office_core.proofs.CommandsLemmas.Begun.{begun, starts_on, keeps_at, before_at, polls_lawful, obeys_start}
use Rattle.office_core.proofs.commands.effects.start_at.Goals as goal

pub returns-clause-carried : goal.returns-clause-carried
returns-clause-carried g c = λ past e is_past keeps accepted in_e replies.
    let it = begun past c.args.moment e c.args.command.now accepted in_e c.requires.start in
    let on =
    starts_on (slots_of past) c.args.command.now c.args.device.now c.place_of.result c.in-Some.place c.requires.device it.ready
    (c.place_of.ensures.found (slots_of past) keeps) c.in-Some.is in
    let apart =
    (all_agree (record { once = c.each_once.ensures.outcomes; outcomes = c.one_event_more.ensures.outcomes; results = c.one_event_more.ensures.results }) past is_past.accepted).apart in
    let slot = keeps_at c.args.slots.now (slots_of past) c.in-Some.place on.slot c.index-slots-place.result keeps on.there in
    let early = before_at c.args.moment (slots_of past) c.in-Some.place on.slot (before_event past c.args.moment e is_past.accepted accepted.right) on.there in
    let lawful =
    lawful_fed c.facts_are_lawful.ensures past c.args.moment e c.args.command.now (option_to_list c.args.reply) is_past accepted in_e replies c.puts_planned.ensures in
    carries (g.B.Books.ledger c.args.books.now) (g.B.Books.ledger c.start.new.books) _ past c.args.moment e c.args.command.now
    (option_to_list c.args.reply) c.start.result in_e replies
    (obeys_start (g.B.Books.ledger c.args.books.now) (g.B.Books.ledger c.start.new.books) c.args.slots.now c.start.new.slot (slots_of past) (facts_of past) c.args.moment
    c.args.command.now (option_to_list c.args.reply) c.start.result c.in-Some.place on c.requires.start apart keeps
    (c.start.ensures.books on.slot (facts_of past) slot it.few
    (polls_lawful c.args.moment (slots_of past) (facts_of past) c.args.command.now (option_to_list c.args.reply) on.slot c.requires.start on.found lawful))
    (c.start.ensures.stands on.slot (facts_of past) slot it.few early)
    (c.start.ensures.answer on.slot (facts_of past) slot it.few)
    (c.start.ensures.sent on.slot (facts_of past) slot it.few early))
