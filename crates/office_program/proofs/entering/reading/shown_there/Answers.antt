use Rattle.std.proofs.Common.{inl, ◌∙◌}
use Rattle.office_program.specs.Entering.Lines.{reporting_of}
use Rattle.office_program.proofs.EnteringLemmas.Doubts.{row_failed, row_found, row_missing}
use Rattle.office_program.proofs.EnteringLemmas.Reading.{read_on}
use Rattle.office_program.proofs.entering.reading.shown_there.Goals as goal

pub returns-in-Ok-clause-reads : goal.returns-in-Ok-clause-reads
returns-in-Ok-clause-reads g c = λ past stands clean.
    let was = c.shown_at.ensures.lasts.clean clean in
    let found = row_found _ _ _ c.in-Ok.register (c.in-Ok.ensures.found past stands was) in
    read_on g.B.Books.ledger (reporting_of g.F.NamedFiles c.args.files.now) c.args.name.now past _ _ _ c.shown_at.new.office c.shown_at.result found.1
    (c.shown_at.ensures.reads c.args.name.now past (c.in-Ok.ensures.asks.stands past stands) clean found.0)

pub returns-in-Ok-clause-lasts : goal.returns-in-Ok-clause-lasts
returns-in-Ok-clause-lasts g c =
    let asks = c.in-Ok.ensures.asks in
    let lasts = c.shown_at.ensures.lasts in
    record { clean = λ clean. asks.clean (lasts.clean clean); zone = lasts.zone ∙ asks.zone }

pub returns-in-NotFound-clause-reads : goal.returns-in-NotFound-clause-reads
returns-in-NotFound-clause-reads g c = λ past stands clean.
    let none = row_missing _ _ _ c.in-Err.why c.in-NotFound.is (c.in-Err.ensures.found past stands clean) in
    record { stands = c.in-Err.ensures.asks.stands past stands; reported = (inl none.0, none.1) }

pub returns-in_default-clause-reads : goal.returns-in_default-clause-reads
returns-in_default-clause-reads g c = λ past stands clean.
    record {
      stands = c.in-Err.ensures.asks.stands past stands;
      reported = row_failed _ _ _ c.in-Err.why c.in_default.not-NotFound (c.in-Err.ensures.found past stands clean);
    }
