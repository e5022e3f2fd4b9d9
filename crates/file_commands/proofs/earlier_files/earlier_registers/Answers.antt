use Rattle.std.proofs.Common.{Option, Some, None, subst}
use Rattle.carried_books.specs.Joining.Earlier.{registers_kept}
use Rattle.carried_books.specs.declared.joining.earlier.KeptRegisters.{KeptRegisters}
use Rattle.stored_files.specs.declared.joins.stored.JoinedOffice.{JoinedOffice}
use Rattle.file_commands.specs.JoinedReports.{JoinsPaths}
use Rattle.file_commands.proofs.Joined.{paths_of}
use Rattle.file_commands.proofs.earlier_files.earlier_registers.Goals as goal

pub returns-in-Ok-None : goal.returns-in-Ok-None
returns-in-Ok-None g c =
    let some = g.D.Databases.opens c.opened-readable.result in
    let all = g.D.Databases.opens c.args.files.now in
    let P : Option (JoinedOffice KeptRegisters) → Type 0 = λ j. JoinsPaths registers_kept g.D.Store.Store some c.all-all.result c.in-Some.any c.args.paths.now None j in
    record {
      range = c.all-all.result;
      register = c.in-Some.any;
      joined = None;
      joins = paths_of registers_kept g.D.Store.Store c.all-all.result c.in-Some.any some all c.opened-readable.ensures c.args.paths.now None None
          (subst P c.in-Ok-None.field-0-is c.in-Ok-None.ensures);
      are = c.new-in-Ok-None.ensures.items;
    }

pub returns-in_ok-registers-in-Ok-Some : goal.returns-in_ok-registers-in-Ok-Some
returns-in_ok-registers-in-Ok-Some g c =
    let some = g.D.Databases.opens c.opened-readable.result in
    let all = g.D.Databases.opens c.args.files.now in
    let P : Option (JoinedOffice KeptRegisters) → Type 0 = λ j. JoinsPaths registers_kept g.D.Store.Store some c.all-all.result c.in-Some.any c.args.paths.now None j in
    record {
      range = c.all-all.result;
      register = c.in-Some.any;
      joined = Some c.in-Ok-Some.joined;
      joins = paths_of registers_kept g.D.Store.Store c.all-all.result c.in-Some.any some all c.opened-readable.ensures c.args.paths.now None (Some c.in-Ok-Some.joined)
          (subst P c.in-Ok-Some.field-0-is c.in-Ok-Some.ensures);
      are = c.in_ok-registers-in-Ok-Some.ensures;
    }
