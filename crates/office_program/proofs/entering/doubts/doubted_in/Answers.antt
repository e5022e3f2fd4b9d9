use Rattle.std.proofs.Common.{inl, inr, Ok, ap, sym, ◌∙◌}
use Rattle.office_books.specs.History.{facts_of}
use Rattle.office_program.proofs.EnteringLemmas.Doubts.{found_doubt, no_doubt_there, row_failed, row_found, row_missing, sound_there}
use Rattle.office_program.proofs.entering.doubts.doubted_in.Goals as goal

pub returns-in-Ok-clause-reports : goal.returns-in-Ok-clause-reports
returns-in-Ok-clause-reports g c = λ past stands clean.
    let facts = facts_of past in
    let found = row_found _ _ _ c.in-Ok.row (c.in-Ok.ensures.found past stands clean) in
    let lawful = c.facts_are_lawful.ensures past stands.books.is_past.accepted stands.books.is_past.planned in
    let sound = sound_there facts c.args.register.now c.in-Ok.row (c.installations_are_in_range.ensures facts lawful) found.0 in
    let same = c.doubted_if_open.ensures sound ∙ sym (found_doubt facts c.args.at c.args.command.now c.args.register.now c.in-Ok.row found.0) in
    record { stands = c.in-Ok.ensures.asks.stands past stands; reported = inl (ap Ok same, found.1) }

pub returns-in-NotFound-clause-reports : goal.returns-in-NotFound-clause-reports
returns-in-NotFound-clause-reports g c = λ past stands clean.
    let facts = facts_of past in
    let none = row_missing _ _ _ c.in-Err.why c.in-NotFound.is (c.in-Err.ensures.found past stands clean) in
    record {
      stands = c.in-Err.ensures.asks.stands past stands;
      reported = inl (ap Ok (sym (no_doubt_there facts c.args.at c.args.command.now c.args.register.now none.0)), none.1);
    }

pub returns-in_default-clause-reports : goal.returns-in_default-clause-reports
returns-in_default-clause-reports g c = λ past stands clean.
    record {
      stands = c.in-Err.ensures.asks.stands past stands;
      reported = inr (row_failed _ _ _ c.in-Err.why c.in_default.not-NotFound (c.in-Err.ensures.found past stands clean));
    }
