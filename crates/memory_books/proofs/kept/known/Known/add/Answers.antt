use Rattle.std.proofs.Common.{refl}
use Rattle.memory_books.proofs.KeptLemmas.Adding.{all_comes}
use Rattle.memory_books.proofs.kept.known.Known.add.Goals as goal

pub returns : goal.returns
returns c known lawful are =
    all_comes c.other_meters_stay.ensures c.holds_change_nothing.ensures c.entries_move_on.ensures c.installations_are_in_range.ensures
    c.args.fact.now known c.args.self.now c.change.new.self _ c.apply_record.new.self lawful c.change.ensures.changes c.change.ensures.polls c.apply_record.ensures
    refl refl refl refl are
