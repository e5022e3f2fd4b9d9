use Rattle.std.proofs.Common.{[]}
use Rattle.stored_files.proofs.Standing.{stands_alone}
use Rattle.stored_files.proofs.carries.stored.carry_into_created.Goals as goal

pub returns-in-Ok-carry_into : goal.returns-in-Ok-carry_into
returns-in-Ok-carry_into g c = record {
  made = record { made = c.in-Ok.books.connection; reported = c.in-Ok.books.zone; does = c.in-Ok.ensures.does; none = c.in-Ok.ensures.none };
  goes_on = c.in-Ok-carry_into.ensures (stands_alone g.S.Store c.args.zone.now c.in-Ok.books.connection c.in-Ok.books.failures c.in-Ok.books.zone [] (record { accepted = tt; planned = tt }) c.in-Ok.ensures.none);
}
