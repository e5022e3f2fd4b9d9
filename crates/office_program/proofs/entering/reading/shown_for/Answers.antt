use Rattle.std.proofs.Common.{◌≡◌, inl, List, ℕ, Option, ap, sym, ◌∙◌}
use Rattle.std.specs.Option.{option_and_then}
use Rattle.office_books.specs.History.{facts_of}
use Rattle.office_books.specs.Repeats.{repeat_of}
use Rattle.office_program.specs.Entering.Lines.{reporting_of}
use Rattle.office_program.proofs.EnteringLemmas.Doubts.{row_failed, row_found, row_missing}
use Rattle.office_program.proofs.EnteringLemmas.Reading.{filled, kept_read}
use Rattle.office_program.proofs.entering.reading.shown_for.Goals as goal

pub returns-in-Ok-clause-fills : goal.returns-in-Ok-clause-fills
returns-in-Ok-clause-fills g c = λ past stands clean.
    let read = c.args.read.now in
    let found = row_found _ _ _ _ (c.in-Ok.ensures.found past stands clean) in
    let kept = sym (ap (λ (bytes : List ℕ). option_and_then (λ name. repeat_of (facts_of past) name c.number-number.result bytes) read.caller) c.as_slice.ensures
    ∙ ap (λ (n : ℕ). option_and_then (λ name. repeat_of (facts_of past) name n read.request) read.caller) c.number-number.ensures) ∙ found.0 in
    record { stands = c.in-Ok.ensures.asks.stands past stands; reported = (inl (kept_read (facts_of past) read _ kept), found.1) }

pub returns-in-NotFound-clause-fills : goal.returns-in-NotFound-clause-fills
returns-in-NotFound-clause-fills g c = λ past stands clean.
    let read = c.args.read.now in
    let was = c.shown_there.ensures.lasts.clean clean in
    let none = row_missing _ _ _ c.in-Err.why c.in-NotFound.is (c.in-Err.ensures.found past stands was) in
    let new = sym (ap (λ (bytes : List ℕ). option_and_then (λ name. repeat_of (facts_of past) name c.number-number.result bytes) read.caller) c.as_slice.ensures
    ∙ ap (λ (n : ℕ). option_and_then (λ name. repeat_of (facts_of past) name n read.request) read.caller) c.number-number.ensures) ∙ none.0 in
    filled g.B.Books.ledger (reporting_of g.F.NamedFiles c.args.files.now) read c.register.result past _ _ _ c.shown_there.new.office c.shown_there.result new c.register.ensures
    none.1 (c.shown_there.ensures.reads past (c.in-Err.ensures.asks.stands past stands) clean)

pub returns-in-NotFound-clause-lasts : goal.returns-in-NotFound-clause-lasts
returns-in-NotFound-clause-lasts g c =
    let asks = c.in-Err.ensures.asks in
    let lasts = c.shown_there.ensures.lasts in
    record { clean = λ clean. asks.clean (lasts.clean clean); zone = lasts.zone ∙ asks.zone }

pub returns-in_default-clause-fills : goal.returns-in_default-clause-fills
returns-in_default-clause-fills g c = λ past stands clean.
    record {
      stands = c.in-Err.ensures.asks.stands past stands;
      reported = row_failed _ _ _ c.in-Err.why c.in_default.not-NotFound (c.in-Err.ensures.found past stands clean);
    }
