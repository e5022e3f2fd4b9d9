use Rattle.std.proofs.Common.{inl, inr}
use Rattle.office_books.specs.History.{facts_of}
use Rattle.office_program.specs.Entering.Lines.{reporting_of}
use Rattle.office_program.proofs.EnteringLemmas.Doubts.{row_failed, row_found, row_missing}
use Rattle.office_program.proofs.EnteringLemmas.Reading.{counter_reported}
use Rattle.office_program.proofs.entering.reading.shown_at.Goals as goal

pub returns-in-Ok-clause-reads : goal.returns-in-Ok-clause-reads
returns-in-Ok-clause-reads g c = λ register past stands clean there.
    let found = row_found _ _ _ c.in-Ok.device (c.in-Ok.ensures.found past stands clean) in
    record {
      stands = c.in-Ok.ensures.asks.stands past stands;
      reported = (counter_reported (reporting_of g.F.NamedFiles c.args.files.now) (facts_of past) register c.args.register c.in-Ok.device c.shown.result there found.0 c.shown.ensures, found.1);
    }

pub returns-in-NotFound-clause-reads : goal.returns-in-NotFound-clause-reads
returns-in-NotFound-clause-reads g c = λ register past stands clean there.
    let none = row_missing _ _ _ c.in-Err.why c.in-NotFound.is (c.in-Err.ensures.found past stands clean) in
    record {
      stands = c.in-Err.ensures.asks.stands past stands;
      reported = (inr (inl (record { counter = c.args.register; register_is = there; none = none.0 })), none.1);
    }

pub returns-in_default-clause-reads : goal.returns-in_default-clause-reads
returns-in_default-clause-reads g c = λ register past stands clean there.
    record {
      stands = c.in-Err.ensures.asks.stands past stands;
      reported = row_failed _ _ _ c.in-Err.why c.in_default.not-NotFound (c.in-Err.ensures.found past stands clean);
    }
